-- The theorems of the way out on lawful tables, and the first of them on any.
--     way-at-most    whatever the tables, the way has at most 31 members
--     the-way        on lawful tables it is the one way of its location, of fewer members than there are locations
--     way-is-safe    SAF-1 to SAF-3: it leads whoever may be in its location to 0, through doors, by locations they may be in
-- Assumes nothing.
use Prim.Native.Nat.{ℕ, ◌-◌, ◌≤◌, ◌<◌, min}
use mathlib.Core.Path.{◌≡◌, sym}
use mathlib.Core.Bool.{Bool, true}
use mathlib.Core.List.{List}
use native.Mathlib.Nat.{pos_of_ne-zero}
use native.Mathlib.Omega.{arith}
use lib.ListN.{length}
use Rattle.tables.specs.Tables.{Plan, may_be, most_locations}
use Rattle.tables.specs.Way.{Way, outside, onward, way_out, unvisited, way_of, TheWay}
use Rattle.tables.specs.Rules.{DoorFrom, Lawful, SafeWay}
use Rattle.tables.proofs.Ways.{way_length, way_found_lem, way_short}

pub way_at_most : (locations : ℕ) (exit : List ℕ) (l : ℕ) → length (way_of locations exit l) ≤ most_locations - 1
unfolding way_of unvisited
way_at_most locations exit l = let h = way_length (unvisited locations) exit l in omega arith

-- of no more locations than a site may have, the way takes at most all the others
pub way_of_is : (locations : ℕ) (exit : List ℕ) (l : ℕ) → locations ≤ most_locations → way_of locations exit l ≡ way_out (locations - 1) exit l
unfolding way_of unvisited
way_of_is locations exit l h = let e : min locations most_locations - 1 ≡ locations - 1 = omega arith in rw e

module _ {most : ℕ} {site : Plan} {right : List Bool} (lawful : Lawful most site right) where
  found : {l : ℕ} {way : List ℕ} → l < site.locations → Way site.exit l way → way_of site.locations site.exit l ≡ way
  unfolding way_of unvisited
  found h way =
      let some = way_short site.locations site.exit lawful.in_range.exits way h in
      let most = lawful.in_range.locations_to in
      way_found_lem way (unvisited site.locations) (omega arith)

  pub the_way : (l : ℕ) → l < site.locations → TheWay site.locations site.exit l
  the_way l h =
      let out = lawful.leads_out l h in
      let e = found h out.is_way in
      record {
        is_way = rw e out.is_way;
        only = λ way w. sym (found h w);
        fewer = rw e (way_short site.locations site.exit lawful.in_range.exits out.is_way h);
        short = way_at_most site.locations site.exit l;
      }

  safe : (p : ℕ) → p < site.people → {l : ℕ} {way : List ℕ} → Way site.exit l way → l < site.locations → may_be right p l ≡ true
      → SafeWay site right p l way
  safe p q outside h may = SafeWay.outside
  safe p q (onward {l} {m} {rest} ne e way) h may =
      let low = pos_of_ne-zero ne in
      let door : DoorFrom site l m = rw e (lawful.exit_door l h low) in
      let next : may_be right p m ≡ true = rw e (lawful.exit_right p q l h low may) in
      SafeWay.onward door next (safe p q way (rw e (lawful.in_range.exits l h)) next)

  pub way_is_safe : (p l : ℕ) → p < site.people → l < site.locations → may_be right p l ≡ true
      → SafeWay site right p l (way_of site.locations site.exit l)
  way_is_safe p l q h may = safe p q (the_way l h).is_way h may
