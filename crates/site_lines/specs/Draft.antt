-- The tables of a site while its sheet is being read, row by row. 01, "Site sheet" and "Numbers given back".
use Rattle.std.specs.Prelude.{ℕ, ◌+◌, ◌*◌, ◌≤◌, Bool, true, false, not, cond, List, get_or, set, replicate, leb, ltb, eqb}
use Rattle.tables.specs.Zero.{zeros}
use Rattle.tables.specs.Tables.{Plan, plan, and_also, most_people, most_locations, most_doors}
use Rattle.site_lines.specs.declared.SiteLine.{SiteLine}
use Rattle.site_lines.specs.declared.SiteLine.TheVariants.{Site, Door, Exit, Right, Bad}
use Rattle.site_lines.specs.declared.Draft.{Draft}
use Rattle.site_lines.specs.Fault.{Fault, Sound, Form, NoSite, Range, Twice}

-- the counts of the tables
pub record Counts : Type 0 where
  pub people : ℕ
  pub locations : ℕ
  pub doors : ℕ

-- how far the rows of a sheet were read: the tables, what is wrong with the last row, and its number
pub record Reading : Type 0 where
  pub draft : Draft
  pub fault : Fault
  pub row : ℕ

-- the tables with a row in them, or as they were where something is wrong with the row
pub record Taken : Type 0 where
  pub draft : Draft
  pub fault : Fault

-- n marks that aren't set, as a list that stays under this name
unfoldable pub unmarked : ℕ → List Bool
unmarked n = replicate n false

abbrev pub blank_draft : Draft
blank_draft = record {
  people = 0;
  locations = 0;
  doors = 0;
  origin = zeros most_doors;
  destination = zeros most_doors;
  exit = zeros most_locations;
  given = unmarked most_locations;
  right = unmarked (most_people * most_locations);
}

-- the plan that the tables hold; `d.right` are the rights
abbrev pub plan_in : Draft → Plan
plan_in d = plan d.people d.locations d.doors d.origin d.destination d.exit

-- the counts are in their ranges
pub record Bounded (c : Counts) : Type 0 where
  pub people : c.people ≤ most_people
  pub locations : c.locations ≤ most_locations
  pub doors : c.doors ≤ most_doors

abbrev pub counts_of : Draft → Counts
counts_of d = record { people = d.people; locations = d.locations; doors = d.doors }

abbrev pub took : Draft → Taken
took d = record { draft = d; fault = Sound }

abbrev pub not_taken : Draft → Fault → Taken
not_taken d fault = record { draft = d; fault = fault }

-- `site,P,L`: "People number 1 to 64, locations 2 to 32"
unfoldable pub site_row_fits : ℕ → ℕ → Bool
site_row_fits p l = and_also (leb 1 p) (and_also (leb p most_people) (and_also (leb 2 l) (leb l most_locations)))

abbrev pub with_site : Draft → ℕ → ℕ → Draft
with_site d p l = record {
  people = p;
  locations = l;
  doors = d.doors;
  origin = d.origin;
  destination = d.destination;
  exit = d.exit;
  given = d.given;
  right = d.right;
}

-- 3 before 4: "second `site`"
unfoldable pub take_site : Draft → ℕ → ℕ → Taken
take_site d p l = cond (site_row_fits p l) (cond (eqb d.locations 0) (took (with_site d p l)) (not_taken d Twice)) (not_taken d Range)

-- `door,o,t`: "o and t different"; "a 65th door" is out of range
unfoldable pub door_row_fits : ℕ → ℕ → ℕ → ℕ → Bool
door_row_fits locations doors o t = and_also (ltb o locations) (and_also (ltb t locations) (and_also (not (eqb o t)) (ltb doors most_doors)))

-- "Doors are numbered in row order."
abbrev pub with_door : Draft → ℕ → ℕ → Draft
with_door d o t = record {
  people = d.people;
  locations = d.locations;
  doors = d.doors + 1;
  origin = set d.origin d.doors o;
  destination = set d.destination d.doors t;
  exit = d.exit;
  given = d.given;
  right = d.right;
}

unfoldable pub take_door : Draft → ℕ → ℕ → Taken
take_door d o t = cond (door_row_fits d.locations d.doors o t) (took (with_door d o t)) (not_taken d Range)

-- `exit,l,m`: "location l (1 to L-1) is signed to m (0 to L-1)"
unfoldable pub exit_row_fits : ℕ → ℕ → ℕ → Bool
exit_row_fits locations l m = and_also (leb 1 l) (and_also (ltb l locations) (ltb m locations))

abbrev pub with_exit : Draft → ℕ → ℕ → Draft
with_exit d l m = record {
  people = d.people;
  locations = d.locations;
  doors = d.doors;
  origin = d.origin;
  destination = d.destination;
  exit = set d.exit l m;
  given = set d.given l true;
  right = d.right;
}

-- 4: "second exit of a location"
unfoldable pub take_exit : Draft → ℕ → ℕ → Taken
take_exit d l m = cond (exit_row_fits d.locations l m) (cond (get_or d.given l false) (not_taken d Twice) (took (with_exit d l m))) (not_taken d Range)

-- `right,p,l`: "person p may be in l (1 to L-1)"
unfoldable pub right_row_fits : ℕ → ℕ → ℕ → ℕ → Bool
right_row_fits people locations p l = and_also (ltb p people) (and_also (leb 1 l) (ltb l locations))

abbrev pub with_right : Draft → ℕ → ℕ → Draft
with_right d p l = record {
  people = d.people;
  locations = d.locations;
  doors = d.doors;
  origin = d.origin;
  destination = d.destination;
  exit = d.exit;
  given = d.given;
  right = set d.right (p * most_locations + l) true;
}

-- 4: "same right again"
unfoldable pub take_right : Draft → ℕ → ℕ → Taken
take_right d p l =
    cond (right_row_fits d.people d.locations p l) (cond (get_or d.right (p * most_locations + l) false) (not_taken d Twice) (took (with_right d p l))) (not_taken d Range)

-- 5: "first data row is absent or not `site`"
abbrev pub after_site : Draft → Taken → Taken
after_site d t = cond (eqb d.locations 0) (not_taken d NoSite) t

-- "rows from the top, each tested for 2, 5, 3, 4"
unfoldable pub take_line : Draft → SiteLine → Taken
take_line d (Site p l) = take_site d p l
take_line d (Door o t) = after_site d (take_door d o t)
take_line d (Exit l m) = after_site d (take_exit d l m)
take_line d (Right p l) = after_site d (take_right d p l)
take_line d Bad = not_taken d Form
