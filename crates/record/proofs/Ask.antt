-- The theorems of the questions: what they tell of a sound record.
--     place-is-location     everybody is in a location of the site
--     grant-told, none_told the door that is told holds the person's grant, and where none is told there is none
--     way-out-safe          everybody's way out leads outside, through doors, by locations that they may be in
-- Assumes nothing.
use Prim.Native.Nat.{ℕ, ◌<◌}
use mathlib.Core.Path.{◌≡◌, refl}
use mathlib.Core.Bool.{Bool, true, false}
use mathlib.Core.Logic.{⊎_elim}
use native.Mathlib.Omega.{arith}
use borrow.Author.Tests.{eqb-true, ltb-true, lt-ltb}
use lib.ListN.{get_or}
use lib.Dec.{eqb, ltb}
use Rattle.tables.specs.Tables.{right_at, may_be, or_else, and_also, most_locations}
use Rattle.tables.specs.Way.{way_of}
use Rattle.tables.specs.Rules.{SafeWay}
use Rattle.tables.proofs.Laws.{clash, and_left, and_right}
use Rattle.tables.proofs.WayOut.{way_is_safe}
use Rattle.record.specs.declared.record.Record.{Record}
use Rattle.std.specs.Prelude.{Some, None, Ok}
use Rattle.record.specs.Doors.{plan_of, Shaped}
use Rattle.granting.specs.Grants.{GrantAt}
use Rattle.record.specs.Sound.{Sound}
use Rattle.record.specs.Questions.{place_of, granted_to}
use Rattle.tables.proofs.Cases.{below_or_not}
use Rattle.granting.proofs.Granting.{grant_is, no_door}
use Rattle.record.proofs.Tells.{sound_tells}
use Rattle.record.proofs.Right.{one_grant}

-- where a person may be is a location of the site
pub may_be_location : (r : Record) → Sound r → (p l : ℕ) → may_be r.right p l ≡ true → l < r.locations
unfolding may_be or_else
may_be_location r s p l may = go (eqb l 0) refl may
  where
    go : (t : Bool) → eqb l 0 ≡ t → or_else t (and_also (ltb l most_locations) (right_at r.right p l)) ≡ true → l < r.locations
    go true e _ = let zero = eqb-true l 0 e in let some = s.tables.in_range.locations_from in omega arith
    go false e right =
        let small = ltb-true l most_locations (and_left _ _ right) in
        ⊎_elim (λ h. h) (λ past. clash (and_right (ltb l most_locations) _ right) (s.zero_tables.rights_to p l past small)) (below_or_not l r.locations)

-- everybody is in a location of the site
pub place_is_location : (r : Record) → Sound r → (p : ℕ) → p < r.people → get_or r.place p 0 < r.locations
place_is_location r s p h = may_be_location r s p (get_or r.place p 0) (s.placed p h)

-- "where is a person": of a sound record and a person who exists the place itself is told
pub place_told_lem : (r : Record) → Shaped r → Sound r → (p : ℕ) → p < r.people → place_of r p ≡ Ok (get_or r.place p 0)
unfolding place_of
place_told_lem r sh s p h = rw ((sound_tells r sh).back s, lt-ltb p r.people h)

-- "which door is granted to a person (or none)": the door that holds the person's one grant ..
pub grant_told_lem : (r : Record) → Shaped r → Sound r → (p d : ℕ) → p < r.people → GrantAt r.doors r.phase r.holder p d → granted_to r p ≡ Ok (Some d)
unfolding granted_to
grant_told_lem r sh s p d h g =
    rw ((sound_tells r sh).back s, lt-ltb p r.people h, grant_is r.doors r.phase r.holder p d g (λ e o ne. ne (one_grant r s p d e g o)))

-- .. and none where no door holds one
pub none_told : (r : Record) → Shaped r → Sound r → (p : ℕ) → p < r.people → ((d : ℕ) → GrantAt r.doors r.phase r.holder p d → ⊥) → granted_to r p ≡ Ok None
unfolding granted_to
none_told r sh s p h none = rw ((sound_tells r sh).back s, lt-ltb p r.people h, no_door r.doors r.phase r.holder p none)

-- SAF-1: "No persons must remain blocked in a location": everybody has a way out. SAF-2: "Any person authorized to be in a
-- location must also be authorized to go in another location which communicates with the first one": each location of the
-- way has a door from the one before, and the person may be there. SAF-3: ".. and leading towards outside": the way ends in 0.
pub way_out_safe : (r : Record) → Sound r → (p : ℕ) → p < r.people
    → SafeWay (plan_of r) r.right p (get_or r.place p 0) (way_of r.locations r.exit (get_or r.place p 0))
way_out_safe r s p h = way_is_safe s.tables p (get_or r.place p 0) h (place_is_location r s p h) (s.placed p h)
