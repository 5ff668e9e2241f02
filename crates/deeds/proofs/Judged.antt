-- What the tests of `judge` tell: a law for each of its answers. Assumes nothing.
use Prim.Native.Nat.{ℕ, ◌≤◌, ◌<◌}
use mathlib.Core.Path.{◌≡◌, refl, sym, ap, ◌∙◌}
use mathlib.Core.Bool.{Bool, false, not}
use mathlib.Core.List.{List}
use borrow.Author.Tests.{ltb-true, le-ltb, not-false}
use lib.ListN.{get_or}
use lib.Dec.{ltb}
use Rattle.tables.specs.Tables.{Plan, or_else, most_people}
use Rattle.tables.proofs.Laws.{and_right}
use Rattle.phases.specs.declared.table.Kind.{Kind}
use Rattle.phases.specs.declared.table.Kind.TheVariants.{Card, Decide, Green, Red, Walk, Tick, Passed, Lapsed, Dark, Ack, Unknown}
use Rattle.phases.specs.Table.{asked}
use Rattle.door.specs.declared.Door.{Door}
use Rattle.door_does.specs.declared.Does.{Does}
use Rattle.door.specs.Door.{door_in}
use Rattle.door_does.specs.Does.{effect}
use Rattle.granting.specs.Reasons.{first_reason}
use Rattle.deeds.specs.Deeds.{exist_among, deed_of, judged_of}

-- only `card` looks at the person, and only `decide` at the reason
same_effect : (k : Kind) (p q why reason : ℕ) (c : Door) → (k ≡ Card → p ≡ q) → (k ≡ Decide → why ≡ reason) → effect k p why c ≡ effect k q reason c
unfolding effect
same_effect Card p q why reason c person is = rw (person refl)
same_effect Decide p q why reason c person is = rw (is refl)
same_effect Green p q why reason c person is = refl
same_effect Red p q why reason c person is = refl
same_effect Walk p q why reason c person is = refl
same_effect Tick p q why reason c person is = refl
same_effect Passed p q why reason c person is = refl
same_effect Lapsed p q why reason c person is = refl
same_effect Dark p q why reason c person is = refl
same_effect Ack p q why reason c person is = refl
same_effect Unknown p q why reason c person is = refl

-- the person of a card that exists
pub card_person : (people doors : ℕ) (k : Kind) (d p : ℕ) (e : Bool) → e ≡ exist_among people doors k d p → not e ≡ false → k ≡ Card → p < people
unfolding exist_among or_else
card_person people doors k d p e exists some card = ltb-true p people (rw card at (and_right (ltb d doors) _ (sym exists ∙ not-false e some)))

-- what is done where the step may be done: e is whether the numbers exist, a what the table says of the door's phase
pub judged_done : (site : Plan) (right : List Bool) (place phase holder count : List ℕ) (k : Kind) (d p : ℕ)
    → site.people ≤ most_people → (e : Bool) → e ≡ exist_among site.people site.doors k d p → not e ≡ false
    → (now : Door) → now ≡ door_in phase holder count d → (a : Bool) → a ≡ asked k now.phase → not a ≡ false
    → (q why : ℕ) → (k ≡ Card → q ≡ p) → (k ≡ Decide → why ≡ first_reason site right place phase holder d now.holder)
    → (does : Does) → does ≡ effect k q why now → (to : ℕ) → to ≡ get_or site.destination d 0
    → deed_of does now.phase now.holder to site.doors phase holder ≡ judged_of site right place phase holder count k d p
unfolding judged_of
judged_done site right place phase holder count k d p room e exists some now is a says allowed q why person reason does effects to leads =
    rw (effects, leads, is, le-ltb most_people site.people room, ← exists, not-false e some, ← (rw is at says), not-false a allowed)
    (ap (λ (x : Does). deed_of x (get_or phase d 0) (get_or holder d 0) (get_or site.destination d 0) site.doors phase holder) (same_effect k q p why _ (door_in phase holder count d) person (rw is at reason)))
