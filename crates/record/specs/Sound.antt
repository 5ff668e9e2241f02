-- When a record is sound (01, "The record"): one fact for each sentence.
use Rattle.std.specs.Prelude.{ℕ, ◌≤◌, ◌<◌, ◌≡◌, true, false, length, get_or}
use Rattle.tables.specs.Tables.{may_be}
use Rattle.tables.specs.Rules.{Lawful}
use Rattle.tables.specs.Zero.{ZeroBeyond}
use Rattle.door.specs.declared.Door.{Door}
use Rattle.record.specs.declared.record.Record.{Record}
use Rattle.phases.specs.Phase.{closed, keeps, grants, least_count, most_count}
use Rattle.door.specs.Door.{free_door}
use Rattle.record.specs.Doors.{plan_of, door_of}
use Rattle.granting.specs.Grants.{GrantAt}

-- "each door's fields fit": c is right for door d of the record
pub record DoorOk (r : Record) (d : ℕ) (c : Door) : Type 0 where
  -- the table has the phases 0 to 9
  pub known : c.phase ≤ closed
  -- column "Person": held, and "A held person exists."
  pub held : keeps c.phase ≡ true → c.holder < r.people
  -- column "Person": 0
  pub nobody : keeps c.phase ≡ false → c.holder ≡ 0
  -- column "Countdown"
  pub least : least_count c.phase ≤ c.count
  pub most : c.count ≤ most_count c.phase
  -- "Phases 2 to 5 hold a grant: no person has two"
  pub alone : grants c.phase ≡ true → (e : ℕ) → (e ≡ d → ⊥) → GrantAt r.doors r.phase r.holder c.holder e → ⊥
  -- "its door starts where the person is"
  pub starts : grants c.phase ≡ true → get_or r.place c.holder 0 ≡ get_or r.origin d 0
  -- "and the person has a right to its destination"
  pub may : grants c.phase ≡ true → may_be r.right c.holder (get_or r.destination d 0) ≡ true

-- "A record is sound when"
pub record Sound (r : Record) : Type 0 where
  -- "its tables pass 3 and 6 to 10"; there is room for as many people as it keeps locations for
  pub tables : Lawful (length r.place) (plan_of r) r.right
  -- "the places named above are 0": in the tables, of the people's locations, and of the doors
  pub zero_tables : ZeroBeyond (plan_of r) r.right
  pub zero_places : (p : ℕ) → r.people ≤ p → get_or r.place p 0 ≡ 0
  pub zero_doors : (d : ℕ) → r.doors ≤ d → door_of r d ≡ free_door
  -- "every person's location is one they may be in"
  pub placed : (p : ℕ) → p < r.people → may_be r.right p (get_or r.place p 0) ≡ true
  -- "and each door's fields fit"
  pub doors : (d : ℕ) → d < r.doors → DoorOk r d (door_of r d)
