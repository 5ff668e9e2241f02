-- That no person has two grants (01, "The record": "Phases 2 to 5 hold a grant: no person has two").
use Rattle.std.specs.Prelude.{ℕ, ◌≡◌, Bool, not, List, get_or}
use Rattle.tables.specs.Tables.{or_else}
use Rattle.tables.specs.Below.{all_below}
use Rattle.phases.specs.Phase.{grants}
use Rattle.granting.specs.Grants.{GrantAt, has_grant}

-- two of n doors that hold a grant of one person are one door
abbrev pub NoTwo : ℕ → List ℕ → List ℕ → Type 0
NoTwo n phase holder = (p d e : ℕ) → GrantAt n phase holder p d → GrantAt n phase holder p e → d ≡ e

-- The same as a test; that it tells the fact is `sole_tells` in `proofs/Sole.antt`.

-- no door before d holds a grant of the same person
unfoldable pub sole_grant : List ℕ → List ℕ → ℕ → Bool
sole_grant phase holder d = or_else (not (grants (get_or phase d 0))) (not (has_grant d phase holder (get_or holder d 0)))

unfoldable pub sole_grants : ℕ → List ℕ → List ℕ → Bool
sole_grants doors phase holder = all_below (sole_grant phase holder) doors
