-- A step that is judged on lent lists and carried out on them: what demand 1 says of the two functions of crate `deeds`, and that
-- each has one answer.
use Rattle.std.specs.Prelude.{ℕ, ◌≤◌, ◌<◌, ◌≡◌, Bool, true, List, length, get_or}
use Rattle.numbers.specs.Numbers.{no_such_no, not_allowed_no, unsound_no}
use Rattle.tables.specs.Tables.{Plan, plan, most_people}
use Rattle.phases.specs.declared.table.Kind.{Kind}
use Rattle.phases.specs.declared.answer.Answer.TheVariants.{Done}
use Rattle.phases.specs.Answers.{answer_no}
use Rattle.phases.specs.Kinds.{names_person}
use Rattle.phases.specs.Table.{asked}
use Rattle.door.specs.declared.Door.{Door}
use Rattle.door.specs.Door.{door_in}
use Rattle.deeds.specs.declared.Deed.{Deed}
use Rattle.deeds.specs.declared.Deed.TheVariants.{Tells, Puts, Leads}
use Rattle.deeds.specs.declared.Told.{Told}
use Rattle.deeds.specs.Deeds.{judged_of, told_of, places_after, phases_after, holders_after, counts_after}
use Rattle.record.specs.Doors.{record_of, Shaped}
use Rattle.record.specs.Sound.{Sound}
use Rattle.record.specs.Steps.{step_of}
use Rattle.record.specs.Deeds.{carried}
use Rattle.numbers.specs.Telling.{NumberBy, Unique, done, ◌unless◌then◌}

pub record JudgeTells (site : Plan) (right : List Bool) (place phase holder count : List ℕ) (k : Kind) (d p : ℕ) : Type 0 where
  -- "14, then 11, then 12": 14 is told where there is no room for so many people
  pub number : NumberBy
      (unsound_no unless site.people ≤ most_people
      then no_such_no unless (d < site.doors) × (names_person k ≡ true → p < site.people)
      then not_allowed_no unless asked k (get_or phase d 0) ≡ true
      then done)
      (answer_no (told_of (judged_of site right place phase holder count k d p)).answer)
  -- the deed that is judged on the lists of a sound record, carried out on it, is the step
  pub is_step_lem : Shaped (record_of site right place phase holder count) → length place ≡ most_people → Sound (record_of site right place phase holder count)
      → carried (record_of site right place phase holder count) d (judged_of site right place phase holder count k d p)
      ≡ step_of (record_of site right place phase holder count) k d p

-- the door's own fields are those of c, in each list that has it; done is told, with its phase, this reason and this door
pub record DoorPut (deed : Deed) (d : ℕ) (phase holder count : List ℕ) (c : Door) (why held : ℕ) : Type 0 where
  pub own_phase : d < length phase → get_or (phases_after deed d phase) d 0 ≡ c.phase
  pub own_holder : d < length holder → get_or (holders_after deed d holder) d 0 ≡ c.holder
  pub own_count : d < length count → get_or (counts_after deed d count) d 0 ≡ c.count
  pub told_done : (told_of deed).answer ≡ Done
  pub told_phase : (told_of deed).phase ≡ c.phase
  pub told_reason : (told_of deed).reason ≡ why
  pub told_held : (told_of deed).held ≡ held

-- what is done at the door and to people
abbrev pub CarriedOut : Deed → ℕ → List ℕ → List ℕ → List ℕ → List ℕ → Type 0
-- what only tells tells no reason and no door, and leaves every list as it was
CarriedOut (Tells answer so) d place phase holder count =
    (told_of (Tells answer so) ≡ record { answer = answer; phase = so; reason = 0; held = 0 })
    × (places_after (Tells answer so) place ≡ place)
    × (phases_after (Tells answer so) d phase ≡ phase)
    × (holders_after (Tells answer so) d holder ≡ holder)
    × (counts_after (Tells answer so) d count ≡ count)
-- a door is put, and nobody is moved
CarriedOut (Puts c why held) d place phase holder count =
    DoorPut (Puts c why held) d phase holder count c why held × (places_after (Puts c why held) place ≡ place)
-- a door is put, and of all people this one is moved to this location
CarriedOut (Leads c person to) d place phase holder count =
    DoorPut (Leads c person to) d phase holder count c 0 0
    × (person < length place → get_or (places_after (Leads c person to) place) person 0 ≡ to)
    × ((p : ℕ) → (p ≡ person → ⊥) → get_or (places_after (Leads c person to) place) p 0 ≡ get_or place p 0)

pub record CarryTells (deed : Deed) (d : ℕ) (place phase holder count : List ℕ) : Type 0 where
  -- "After a refusal the record and every lent list hold what they held before."
  pub unaltered : ((told_of deed).answer ≡ Done → ⊥)
      → (places_after deed place ≡ place)
      × (phases_after deed d phase ≡ phase)
      × (holders_after deed d holder ≡ holder)
      × (counts_after deed d count ≡ count)
  -- no other door is altered
  pub others : (e : ℕ) → (e ≡ d → ⊥)
      → door_in (phases_after deed d phase) (holders_after deed d holder) (counts_after deed d count) e ≡ door_in phase holder count e
  pub carried_out : CarriedOut deed d place phase holder count
  pub as_long : (length (places_after deed place) ≡ length place)
      × (length (phases_after deed d phase) ≡ length phase)
      × (length (holders_after deed d holder) ≡ length holder)
      × (length (counts_after deed d count) ≡ length count)

pub record DeedsAnswers : Type 0 where
  pub judge : (site : Plan) (right : List Bool) (place phase holder count : List ℕ) (k : Kind) (d p : ℕ) → JudgeTells site right place phase holder count k d p
  pub carry_out : (deed : Deed) (d : ℕ) (place phase holder count : List ℕ) → CarryTells deed d place phase holder count

pub record DeedsUnique : Type 0 where
  pub judge : (people doors : ℕ) (origin destination : List ℕ) (right : List Bool) (place phase holder count : List ℕ) (k : Kind) (d p : ℕ)
      → Unique
      (λ (x : Deed).
      (locations : ℕ) (exit : List ℕ) → x ≡ judged_of (plan people locations doors origin destination exit) right place phase holder count k d p)
  -- what is told, and the four lists at exit
  pub carry_out : (deed : Deed) (d : ℕ) (place phase holder count : List ℕ)
      → Unique
      (λ (x : Told × List ℕ × List ℕ × List ℕ × List ℕ).
      (x.0 ≡ told_of deed)
      × (x.1 ≡ places_after deed place)
      × (x.2 ≡ phases_after deed d phase)
      × (x.3 ≡ holders_after deed d holder)
      × (x.4 ≡ counts_after deed d count))
