-- A step on lent lists: for a sound record the deed that is judged, carried out, is the step. Assumes nothing.
use Prim.Native.Nat.{ℕ, ◌≤◌}
use mathlib.Core.Path.{◌≡◌, refl, ap, ◌∙◌}
use mathlib.Core.Bool.{Bool, true, false, cond}
use mathlib.Core.List.{List}
use mathlib.Core.Logic.{⊎_elim}
use native.Mathlib.Omega.{arith}
use borrow.Author.Tests.{le-ltb}
use lib.ListN.{length, get_or}
use Rattle.tables.specs.Tables.{most_people}
use Rattle.tables.proofs.Cases.{below_or_not}
use Rattle.phases.specs.declared.table.Kind.{Kind}
use Rattle.phases.specs.declared.answer.Answer.TheVariants.{NoSuch, NotAllowed}
use Rattle.phases.specs.Kinds.{allows}
use Rattle.phases.specs.Phase.{closed}
use Rattle.phases.proofs.Entries.{table_allows}
use Rattle.door.specs.declared.Door.{Door}
use Rattle.door_does.specs.declared.Does.{Does}
use Rattle.door_does.specs.declared.Does.TheVariants.{Stays, Turns, Moves}
use Rattle.deeds.specs.declared.Deed.{Deed}
use Rattle.deeds.specs.declared.Deed.TheVariants.{Tells}
use Rattle.deeds.specs.declared.Told.{Told}
use Rattle.deeds.specs.Deeds.{deed_of, judged_of, told_of, places_after, phases_after, holders_after, counts_after}
use Rattle.deeds.specs.Deeds as lists
use Rattle.record.specs.declared.record.Record.{Record}
use Rattle.record.specs.Sound.{Sound}
use Rattle.record.specs.Steps.{act, refused, exist, doing, sound_step}
use Rattle.record.specs.Deeds.{holding, telling, judged, carried}

-- the phases of a sound record's doors are those of the table
known : (r : Record) → Sound r → (d : ℕ) → get_or r.phase d 0 ≤ closed
known r s d =
    ⊎_elim (λ h. (s.doors d h).known)
    (λ h. let is : get_or r.phase d 0 ≡ 0 = ap (λ (x : Door). x.phase) (s.zero_doors d h) in omega arith) (below_or_not d r.doors)

-- what a step does to its door, as a deed, is what it does
acted : (r : Record) (d : ℕ) (does : Does) → carried r d (deed_of does (get_or r.phase d 0) (get_or r.holder d 0) (get_or r.destination d 0) r.doors r.phase r.holder) ≡ act r d does
unfolding act
acted r d Stays = refl
acted r d (Turns c why) = refl
acted r d (Moves c) = refl

-- each test of a step is carried along
chosen : (r : Record) (d : ℕ) (exists allowed : Bool) (deed : Deed) →
    carried r d (cond exists (cond allowed deed (Tells NotAllowed (get_or r.phase d 0))) (Tells NoSuch 0))
    ≡ cond exists (cond allowed (carried r d deed) (refused r NotAllowed (get_or r.phase d 0))) (refused r NoSuch 0)
chosen r d true true deed = refl
chosen r d true false deed = refl
chosen r d false allowed deed = refl

pub judged_step : (r : Record) (k : Kind) (d p : ℕ) → length r.place ≡ most_people → Sound r → carried r d (judged r k d p) ≡ sound_step r k d p
unfolding judged_of lists.exist_among sound_step
judged_step r k d p long s =
    let people : r.people ≤ most_people = let most = s.tables.in_range.people_to in omega arith in
    rw (le-ltb most_people r.people people, table_allows k (get_or r.phase d 0) (known r s d))
    (chosen r d (exist r k d p) (allows k (get_or r.phase d 0)) (deed_of (doing r k d p) (get_or r.phase d 0) (get_or r.holder d 0) (get_or r.destination d 0) r.doors r.phase r.holder) ∙ rw (acted r d (doing r k d p)))

-- so the lists with a judged deed carried out, and what is told, are the step
pub stepped : (r : Record) (k : Kind) (d p : ℕ) → length r.place ≡ most_people → Sound r
    → (deed : Deed) → deed ≡ judged r k d p → (told : Told) (place phase holder count : List ℕ)
    → (told ≡ told_of deed)
    × ((place ≡ places_after deed r.place)
    × ((phase ≡ phases_after deed d r.phase) × ((holder ≡ holders_after deed d r.holder) × (count ≡ counts_after deed d r.count))))
    → telling (holding r place phase holder count) told ≡ sound_step r k d p
stepped r k d p long s deed is told place phase holder count out =
    rw (out.0, out.1.0, out.1.1.0, out.1.1.1.0, out.1.1.1.1, is) (judged_step r k d p long s)
