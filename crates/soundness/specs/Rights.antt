-- What the test of the ends looks at of the rights: those that nobody can have, to location 0, beyond the locations and beyond the
-- people. No other entry can make `rights_fit` fail (`rows_are` in `proofs/Rights.antt`).
use Rattle.std.specs.Prelude.{ℕ, ◌+◌, ◌*◌, Bool, false, not, cond, List, get_or, ltb}
use Rattle.tables.specs.Tables.{or_else, and_also, most_locations}
use Rattle.tables.specs.Below.{all_below}

-- none of the rights from `from` on, up to `to`, is given
unfoldable pub not_given : ℕ → List Bool → ℕ → Bool
not_given from right i = or_else (ltb i from) (not (get_or right i false))

unfoldable pub none_given : ℕ → ℕ → List Bool → Bool
none_given from to right = all_below (not_given from right) to

-- of the rights from `row` on, one person's, none is to location 0 and none beyond the locations
unfoldable pub row_fits : ℕ → List Bool → ℕ → Bool
row_fits locations right row = and_also (not (get_or right row false)) (none_given (row + locations) (row + most_locations) right)

-- of a person's rights none is one that nobody can have; beyond the people there are none
unfoldable pub person_fits : ℕ → ℕ → List Bool → ℕ → Bool
person_fits people locations right p =
    cond (ltb p people) (row_fits locations right (p * most_locations))
    (none_given (p * most_locations) (p * most_locations + most_locations) right)
