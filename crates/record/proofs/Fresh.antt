-- The fresh record of lawful tables is sound, with everyone outside and every door free. Assumes nothing.
use Prim.Native.Nat.{ℕ}
use mathlib.Core.Path.{◌≡◌, refl, sym, subst}
use mathlib.Core.Bool.{Bool, true, false≢true}
use mathlib.Core.List.{List}
use lib.ListN.{length, get_or}
use lib.Dec.{lit≤}
use Rattle.tables.specs.Tables.{Plan, may_be, or_else, and_also, most_people, most_locations, most_doors}
use Rattle.tables.specs.Rules.{Lawful}
use Rattle.record.specs.declared.record.Record.{Record}
use Rattle.phases.specs.Phase.{keeps, grants, lit, least_count, most_count}
use Rattle.door.specs.Door.{door, free_door}
use Rattle.record.specs.Doors.{door_of, fresh_record, Shaped}
use Rattle.tables.specs.Zero.{ZeroBeyond}
use Rattle.record.specs.Sound.{DoorOk, Sound}
use Rattle.tables.proofs.Zero.{zeros_at, zeros_long}

-- location 0 is everybody's
may_be_outside : (right : List Bool) (p l : ℕ) → l ≡ 0 → may_be right p l ≡ true
unfolding may_be or_else
may_be_outside right p l e = rw e

pub free_ok : (r : Record) (d : ℕ) → DoorOk r d free_door
unfolding keeps grants least_count most_count lit and_also or_else
free_ok r d =
    record {
      known = lit≤ tt;
      held = λ e. absurd (false≢true e);
      nobody = λ _. refl;
      least = lit≤ tt;
      most = lit≤ tt;
      alone = λ e. absurd (false≢true e);
      starts = λ e. absurd (false≢true e);
      may = λ e. absurd (false≢true e);
    }

module _ (site : Plan) (right : List Bool) where
  -- every door of a fresh record is free
  pub fresh_free : (d : ℕ) → door_of (fresh_record site right) d ≡ free_door
  fresh_free d = let z = zeros_at most_doors d in λ i. door (z i) (z i) (z i)

  -- everyone is outside
  pub fresh_outside : (p : ℕ) → get_or (fresh_record site right).place p 0 ≡ 0
  fresh_outside p = zeros_at most_people p

  pub fresh_sound : Lawful most_people site right → ZeroBeyond site right → Sound (fresh_record site right)
  fresh_sound lawful zero =
      record {
        tables = rw (zeros_long most_people) lawful;
        zero_tables = zero;
        zero_places = λ p _. zeros_at most_people p;
        zero_doors = λ d _. fresh_free d;
        placed = λ p _. may_be_outside right p _ (zeros_at most_people p);
        doors = λ d _. subst (DoorOk (fresh_record site right) d) (sym (fresh_free d)) (free_ok _ d);
      }

  pub fresh_shaped : length site.origin ≡ most_doors → length site.destination ≡ most_doors → length site.exit ≡ most_locations
      → Shaped (fresh_record site right)
  fresh_shaped o t e =
      record {
        origins = o;
        destinations = t;
        exits = e;
        phases = zeros_long most_doors;
        holders = zeros_long most_doors;
        counts = zeros_long most_doors;
      }
