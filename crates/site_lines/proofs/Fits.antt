-- The tests of a row as facts, both ways.
-- Assumes nothing.
use Prim.Native.Nat.{ℕ, ◌≤◌, ◌<◌}
use mathlib.Core.Path.{◌≡◌}
use mathlib.Core.Bool.{true, not}
use lib.Dec.{leb, ltb, eqb}
use borrow.Author.Tests.{le-leb, lt-ltb, ne_eqb, leb-true, ltb-true, eqb-false, not-true}
use Rattle.tables.specs.Tables.{most_people, most_locations, most_doors}
use Rattle.tables.proofs.Laws.{and_left, and_right, and_both}
use Rattle.site_lines.specs.Draft.{site_row_fits, door_row_fits, exit_row_fits, right_row_fits}

pub record SiteIn (p l : ℕ) : Type 0 where
  pub people_from : 1 ≤ p
  pub people_to : p ≤ most_people
  pub locations_from : 2 ≤ l
  pub locations_to : l ≤ most_locations

pub site_in : (p l : ℕ) → site_row_fits p l ≡ true → SiteIn p l
unfolding site_row_fits
site_in p l e =
    let f = and_right (leb 1 p) _ e in
    let g = and_right (leb p most_people) _ f in
    record {
      people_from = leb-true 1 p (and_left _ _ e);
      people_to = leb-true p most_people (and_left _ _ f);
      locations_from = leb-true 2 l (and_left _ _ g);
      locations_to = leb-true l most_locations (and_right (leb 2 l) _ g);
    }

pub record DoorRowIn (locations doors o t : ℕ) : Type 0 where
  pub from : o < locations
  pub to : t < locations
  pub differ : o ≡ t → ⊥
  pub room : doors < most_doors

pub door_in_lem : (locations doors o t : ℕ) → door_row_fits locations doors o t ≡ true → DoorRowIn locations doors o t
unfolding door_row_fits
door_in_lem locations doors o t e =
    let f = and_right (ltb o locations) _ e in
    let g = and_right (ltb t locations) _ f in
    record {
      from = ltb-true o locations (and_left _ _ e);
      to = ltb-true t locations (and_left _ _ f);
      differ = eqb-false o t (not-true (eqb o t) (and_left _ _ g));
      room = ltb-true doors most_doors (and_right (not (eqb o t)) _ g);
    }

pub record ExitIn (locations l m : ℕ) : Type 0 where
  pub inside : 1 ≤ l
  pub from : l < locations
  pub to : m < locations

pub exit_in_lem : (locations l m : ℕ) → exit_row_fits locations l m ≡ true → ExitIn locations l m
unfolding exit_row_fits
exit_in_lem locations l m e =
    let f = and_right (leb 1 l) _ e in
    record { inside = leb-true 1 l (and_left _ _ e); from = ltb-true l locations (and_left _ _ f); to = ltb-true m locations (and_right (ltb l locations) _ f) }

pub record RightIn (people locations p l : ℕ) : Type 0 where
  pub person : p < people
  pub inside : 1 ≤ l
  pub location : l < locations

pub right_in : (people locations p l : ℕ) → right_row_fits people locations p l ≡ true → RightIn people locations p l
unfolding right_row_fits
right_in people locations p l e =
    let f = and_right (ltb p people) _ e in
    record { person = ltb-true p people (and_left _ _ e); inside = leb-true 1 l (and_left _ _ f); location = ltb-true l locations (and_right (leb 1 l) _ f) }

-- and back
pub site_fit : (p l : ℕ) → SiteIn p l → site_row_fits p l ≡ true
unfolding site_row_fits
site_fit p l i =
    and_both _ _ (le-leb 1 p i.people_from)
    (and_both _ _ (le-leb p most_people i.people_to) (and_both _ _ (le-leb 2 l i.locations_from) (le-leb l most_locations i.locations_to)))

pub door_fit : (locations doors o t : ℕ) → DoorRowIn locations doors o t → door_row_fits locations doors o t ≡ true
unfolding door_row_fits
door_fit locations doors o t i =
    and_both _ _ (lt-ltb o locations i.from)
    (and_both _ _ (lt-ltb t locations i.to) (and_both _ _ (rw (ne_eqb o t i.differ)) (lt-ltb doors most_doors i.room)))

pub exit_fit : (locations l m : ℕ) → ExitIn locations l m → exit_row_fits locations l m ≡ true
unfolding exit_row_fits
exit_fit locations l m i = and_both _ _ (le-leb 1 l i.inside) (and_both _ _ (lt-ltb l locations i.from) (lt-ltb m locations i.to))

pub right_fit : (people locations p l : ℕ) → RightIn people locations p l → right_row_fits people locations p l ≡ true
unfolding right_row_fits
right_fit people locations p l i = and_both _ _ (lt-ltb p people i.person) (and_both _ _ (le-leb 1 l i.inside) (lt-ltb l locations i.location))
