-- Why a card is denied, and which door is told with the reason (01, "Steps", `decide`; 02, C-12).
use Rattle.std.specs.Prelude.{ℕ, Bool, cond, List, get_or, eqb, Option, Some, None}
use Rattle.tables.specs.Tables.{Plan, may_be}
use Rattle.phases.specs.Answers.{reason_none, reason_away, reason_barred, reason_busy}
use Rattle.granting.specs.Grants.{grant_of, has_grant}

-- "Granted when the person is at the door's origin, has a right to its destination and has no grant. Otherwise denied with
-- reason 1 (not at the origin), 2 (no right), 3 (grant elsewhere), the first that applies." 0 is no reason: granted.
unfoldable pub first_reason : Plan → List Bool → List ℕ → List ℕ → List ℕ → ℕ → ℕ → ℕ
first_reason site right place phase holder d p =
    cond (eqb (get_or place p 0) (get_or site.origin d 0))
    (cond (may_be right p (get_or site.destination d 0))
    (cond (has_grant site.doors phase holder p)
    reason_busy
    reason_none)
    reason_barred)
    reason_away

-- the door that was found, 0 for none
abbrev pub door_found : Option ℕ → ℕ
door_found (Some d) = d
door_found None = 0

-- "`decide` must tell the door that is granted to the person, together with the reason": the door told with a reason, "0 with any
-- other reason" than 3
unfoldable pub held_with : ℕ → ℕ → List ℕ → List ℕ → ℕ → ℕ
held_with why n phase holder p = cond (eqb why reason_busy) (door_found (grant_of n phase holder p)) 0
