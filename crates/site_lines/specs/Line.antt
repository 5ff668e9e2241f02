-- What a row of a site sheet says. 01, "Site sheet".
use Rattle.std.specs.Prelude.{ℕ, Bool, cond, List, [], ◌∷◌, eqb, Option, Some, None}
use Rattle.cell_meaning.specs.Say.{says_words, number_at, named_from}
use Rattle.grammar.specs.declared.cut.Cell.{Cell}
use Rattle.grammar.specs.declared.cut.Cells.{Cells}
use Rattle.site_lines.specs.declared.Word.{Word}
use Rattle.site_lines.specs.declared.Word.TheVariants as word
use Rattle.site_lines.specs.declared.SiteLine.{SiteLine}
use Rattle.site_lines.specs.declared.SiteLine.TheVariants.{Site, Door, Exit, Right, Bad}

-- the words of a site sheet, in bytes: `site`, `door`, `exit`, `right`; and of its header: `kind`, `a`, `b`
abbrev pub site_word : List ℕ
site_word = 115 ∷ 105 ∷ 116 ∷ 101 ∷ []

abbrev pub door_word : List ℕ
door_word = 100 ∷ 111 ∷ 111 ∷ 114 ∷ []

abbrev pub exit_word : List ℕ
exit_word = 101 ∷ 120 ∷ 105 ∷ 116 ∷ []

abbrev pub right_word : List ℕ
right_word = 114 ∷ 105 ∷ 103 ∷ 104 ∷ 116 ∷ []

abbrev pub kind_head : List ℕ
kind_head = 107 ∷ 105 ∷ 110 ∷ 100 ∷ []

abbrev pub a_head : List ℕ
a_head = 97 ∷ []

abbrev pub b_head : List ℕ
b_head = 98 ∷ []

-- the kinds of rows in the paper's order, and what the word at a place names; behind them all it is an unknown kind
abbrev pub site_words : List (List ℕ)
site_words = site_word ∷ door_word ∷ exit_word ∷ right_word ∷ []

unfoldable pub word_named : ℕ → Word
word_named n =
    cond (eqb n 0) word.Site (cond (eqb n 1) word.Door (cond (eqb n 2) word.Exit (cond (eqb n 3) word.Right word.Unknown)))

-- the word that a field is
abbrev pub word_of : List ℕ → Cell → Word
word_of s cell = named_from word_named 0 site_words s cell

abbrev pub site_line_with : Word → ℕ → ℕ → SiteLine
site_line_with word.Site a b = Site a b
site_line_with word.Door a b = Door a b
site_line_with word.Exit a b = Exit a b
site_line_with word.Right a b = Right a b
site_line_with word.Unknown a b = Bad

abbrev pub site_line_of : Word → Option ℕ → Option ℕ → SiteLine
site_line_of w (Some a) (Some b) = site_line_with w a b
site_line_of w (Some a) None = Bad
site_line_of w None b = Bad

-- "Every row has three fields", a word and two numbers
unfoldable pub site_line_at : List ℕ → Cells → SiteLine
site_line_at s cells = cond (eqb cells.count 3) (site_line_of (word_of s cells.first) (number_at s cells.second) (number_at s cells.third)) Bad

-- "The header row is `kind,a,b`."
unfoldable pub site_header_at : List ℕ → Cells → Bool
site_header_at s cells = says_words s cells kind_head a_head b_head
