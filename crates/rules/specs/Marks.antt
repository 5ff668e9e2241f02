-- The marks of rules 8 and 10, and what the code computes of rule 10 from them: `first` marks each location to which a door leads from
-- outside.
use Rattle.std.specs.Prelude.{ℕ, Bool, false, not, List, get_or}
use Rattle.tables.specs.Tables.{may_be, and_also, most_locations}
use Rattle.tables.specs.Below.{some_below}

-- as many marks as a byte has values, so that every entry of a table has one
abbrev pub most_marks : ℕ
most_marks = 256

-- l is a first location of person p
unfoldable pub is_first : List Bool → List Bool → ℕ → ℕ → Bool
is_first first right p l = and_also (get_or first l false) (may_be right p l)

-- p has none
unfoldable pub has_no_first : List Bool → List Bool → ℕ → Bool
has_no_first first right p = not (some_below (is_first first right p) most_locations)
