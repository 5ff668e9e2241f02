-- How much room the programs have for a stream that is printed, and for the rows of one that is read.
use Rattle.std.specs.Prelude.{ℕ}

-- Room for every stream that `events` prints, and for every text of `read-events`.
abbrev pub most_events_text : ℕ
most_events_text = 356352

abbrev pub most_rows_text : ℕ
most_rows_text = 524352
