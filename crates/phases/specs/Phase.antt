-- The phases of a door and the spans of its lights (01, "The record", the table of phases).
use Rattle.std.specs.Prelude.{ℕ, Bool, cond, leb, eqb}
use Rattle.tables.specs.Tables.{or_else, and_also}

-- "0 free", "1 read", .., "9 closed"
abbrev pub free : ℕ
free = 0

abbrev pub read : ℕ
read = 1

abbrev pub granted : ℕ
granted = 2

abbrev pub green : ℕ
green = 3

abbrev pub walked : ℕ
walked = 4

abbrev pub expired : ℕ
expired = 5

abbrev pub denied : ℕ
denied = 6

abbrev pub red : ℕ
red = 7

abbrev pub dimmed : ℕ
dimmed = 8

abbrev pub closed : ℕ
closed = 9

-- "`green`: .. countdown 300. `red`: .. countdown 20."
abbrev pub green_span : ℕ
green_span = 300

abbrev pub red_span : ℕ
red_span = 20

-- column "Person": held in phases 1 to 5, and 0 in all others
unfoldable pub keeps : ℕ → Bool
keeps phase = and_also (leb read phase) (leb phase expired)

-- "Phases 2 to 5 hold a grant"
unfoldable pub grants : ℕ → Bool
grants phase = and_also (leb granted phase) (leb phase expired)

-- a light burns in the phases 3 and 7
unfoldable pub lit : ℕ → Bool
lit phase = or_else (eqb phase green) (eqb phase red)

-- column "Countdown": 1 to 300 in phase 3, 1 to 20 in phase 7, and 0 in all others
unfoldable pub least_count : ℕ → ℕ
least_count phase = cond (lit phase) 1 0

unfoldable pub most_count : ℕ → ℕ
most_count phase = cond (eqb phase green) green_span (cond (eqb phase red) red_span 0)
