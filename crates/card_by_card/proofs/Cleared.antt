-- The record with its doors cleared: the tables and the places of a record, and every door free. Assumes nothing.
use Prim.Native.Nat.{ℕ}
use mathlib.Core.Path.{◌≡◌, sym, subst}
use mathlib.Core.Bool.{Bool}
use mathlib.Core.List.{List}
use Rattle.tables.specs.Tables.{Plan, most_doors}
use Rattle.record.specs.declared.record.Record.{Record}
use Rattle.door.specs.Door.{free_door}
use Rattle.record.specs.Doors.{plan_of, record_of, door_of, Shaped}
use Rattle.tables.specs.Zero.{zeros}
use Rattle.record.specs.Sound.{DoorOk, Sound}
use Rattle.tables.proofs.Zero.{zeros_at, zeros_long}
use Rattle.record.proofs.Fresh.{free_ok}

-- ---- the record with its doors cleared

-- this plan and these rights, everyone in these places and every door free
abbrev pub clear : Plan → List Bool → List ℕ → Record
clear site right place = record_of site right place (zeros most_doors) (zeros most_doors) (zeros most_doors)

abbrev pub cleared : Record → Record
cleared r = clear (plan_of r) r.right r.place

pub clear_free : (site : Plan) (right : List Bool) (place : List ℕ) (d : ℕ) → door_of (clear site right place) d ≡ free_door
clear_free site right place d = let z = zeros_at most_doors d in λ i. record { phase = z i; holder = z i; count = z i }

pub clear_shaped : (r : Record) → Shaped r → Shaped (cleared r)
clear_shaped r sh =
    record {
      origins = sh.origins;
      destinations = sh.destinations;
      exits = sh.exits;
      phases = zeros_long most_doors;
      holders = zeros_long most_doors;
      counts = zeros_long most_doors;
    }

pub clear_sound : (r : Record) → Sound r → Sound (cleared r)
clear_sound r s =
    record {
      tables = s.tables;
      zero_tables = s.zero_tables;
      zero_places = s.zero_places;
      zero_doors = λ d _. clear_free (plan_of r) r.right r.place d;
      placed = s.placed;
      doors = λ d _. subst (DoorOk (cleared r) d) (sym (clear_free (plan_of r) r.right r.place d)) (free_ok (cleared r) d);
    }
