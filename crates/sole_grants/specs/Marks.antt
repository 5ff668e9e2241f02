-- The marks of a walk over the doors (02, C-14: "Walk the doors once and mark each person met"). Mark i is that of person from + i.
use Rattle.std.specs.Prelude.{ℕ, ◌+◌, ◌-◌, ◌≤◌, ◌<◌, ◌≡◌, Bool, true, false, cond, List, get_or, set, leb}
use Rattle.tables.specs.Tables.{and_also, most_people}
use Rattle.sole_grants.specs.declared.Walked.{Walked}
use Rattle.sole_grants.specs.declared.Walked.TheVariants.{Twice, Sole, Beyond}
use Rattle.sole_grants.specs.Sole.{sole_grant, sole_grants}

-- the greatest number that a door's field for a person has room for
abbrev pub most_holder : ℕ
most_holder = 65535

-- person p has a mark and is marked
unfoldable pub is_marked : List Bool → ℕ → ℕ → Bool
is_marked met from p = and_also (leb from p) (get_or met (p - from) false)

-- the marks with p's, if p has one
unfoldable pub with_mark : List Bool → ℕ → ℕ → List Bool
with_mark met from p = cond (leb from p) (set met (p - from) true) met

-- what a walk with marks from `from` on tells: that there is a second grant; or none of anybody from there on; or none of those with a
-- mark, and that there may be people beyond
abbrev pub WalkTells : ℕ → ℕ → List ℕ → List ℕ → Walked → Type 0
WalkTells from doors phase holder Twice = sole_grants doors phase holder ≡ false
WalkTells from doors phase holder Sole = (d : ℕ) → d < doors → from ≤ get_or holder d 0 → sole_grant phase holder d ≡ true
WalkTells from doors phase holder Beyond =
    ((d : ℕ) → d < doors → from ≤ get_or holder d 0 → get_or holder d 0 < from + most_people → sole_grant phase holder d ≡ true)
    × (from + most_people ≤ most_holder)
