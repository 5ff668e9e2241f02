-- The record's parts: its plan, what it keeps of one door, and how one door or one person's place is put anew (01, "The record").
use Rattle.std.specs.Prelude.{ℕ, ◌≡◌, Bool, List, length, set}
use Rattle.tables.specs.Tables.{Plan, plan, most_people, most_locations, most_doors}
use Rattle.tables.specs.Zero.{zeros}
use Rattle.door.specs.declared.Door.{Door}
use Rattle.record.specs.declared.record.Record.{Record}
use Rattle.door.specs.Door.{door_in}

-- "for each door a phase, a person and a countdown"
abbrev pub door_of : Record → ℕ → Door
door_of r d = door_in r.phase r.holder r.count d

-- "The tables, and beside them ..": a record's tables are its plan and `r.right`
abbrev pub plan_of : Record → Plan
plan_of r = plan r.people r.locations r.doors r.origin r.destination r.exit

-- the record of this plan, these rights and these lists
abbrev pub record_of : Plan → List Bool → List ℕ → List ℕ → List ℕ → List ℕ → Record
record_of site right place phase holder count =
    record {
      people = site.people;
      locations = site.locations;
      doors = site.doors;
      origin = site.origin;
      destination = site.destination;
      exit = site.exit;
      right = right;
      place = place;
      phase = phase;
      holder = holder;
      count = count;
    }

-- the record with door d so, and all else as it was
abbrev pub put_door : Record → ℕ → Door → Record
put_door r d c =
    record_of (plan_of r) r.right r.place (set r.phase d c.phase) (set r.holder d c.holder) (set r.count d c.count)

-- the record with person p in location l, and all else as it was
abbrev pub put_at : Record → ℕ → ℕ → Record
put_at r p l = record_of (plan_of r) r.right (set r.place p l) r.phase r.holder r.count

-- "with everyone in 0 and every door free"
abbrev pub fresh_record : Plan → List Bool → Record
fresh_record site right = record_of site right (zeros most_people) (zeros most_doors) (zeros most_doors) (zeros most_doors)

-- The lists of a record's doors and locations are as long as their arrays. To antt an array is a list of any length, so theorems
-- about records say it. How many people there is room for is the length of the list of places, whatever it is.
pub record Shaped (r : Record) : Type 0 where
  pub origins : length r.origin ≡ most_doors
  pub destinations : length r.destination ≡ most_doors
  pub exits : length r.exit ≡ most_locations
  pub phases : length r.phase ≡ most_doors
  pub holders : length r.holder ≡ most_doors
  pub counts : length r.count ≡ most_doors
