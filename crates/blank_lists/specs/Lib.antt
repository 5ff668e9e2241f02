-- How much room the programs have for a text.
use Rattle.std.specs.Prelude.{ℕ}

-- Room for every text that `panel` prints, and for every one that `where` prints.
abbrev pub most_panel_text : ℕ
most_panel_text = 93184

abbrev pub most_where_text : ℕ
most_where_text = 512
