-- Which door holds a grant of a person (01, "The record": "Phases 2 to 5 hold a grant").
use Rattle.std.specs.Prelude.{ℕ, ◌<◌, ◌≡◌, Bool, true, not, List, get_or, eqb, Option}
use Rattle.tables.specs.Tables.{and_also}
use Rattle.tables.specs.Below.{least_below, is_nothing}
use Rattle.phases.specs.Phase.{grants}

-- door d is one of n doors and holds a grant of person p
pub record GrantAt (n : ℕ) (phase holder : List ℕ) (p d : ℕ) : Type 0 where
  pub exists : d < n
  pub holds : grants (get_or phase d 0) ≡ true
  pub person : get_or holder d 0 ≡ p

-- the same as a test
unfoldable pub grants_to : List ℕ → List ℕ → ℕ → ℕ → Bool
grants_to phase holder p d = and_also (grants (get_or phase d 0)) (eqb (get_or holder d 0) p)

-- the first of n doors that does, or none
unfoldable pub grant_of : ℕ → List ℕ → List ℕ → ℕ → Option ℕ
grant_of n phase holder p = least_below (grants_to phase holder p) n

-- does any of n doors?
unfoldable pub has_grant : ℕ → List ℕ → List ℕ → ℕ → Bool
has_grant n phase holder p = not (is_nothing (grant_of n phase holder p))
