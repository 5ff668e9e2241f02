-- The tables of a site and how they are read. 01, "The record": a table is a list of numbers, `get_or table i 0` its entry at i;
-- the rights are one flat list, as many entries to a person as a site may have locations.
use Rattle.std.specs.Prelude.{ℕ, ◌+◌, ◌*◌, Bool, true, false, List, get_or, ltb, eqb}

-- 01, "The panel's part": "People number 1 to 64, locations 2 to 32, doors 0 to 64."
abbrev pub most_people : ℕ
most_people = 64

abbrev pub most_locations : ℕ
most_locations = 32

abbrev pub most_doors : ℕ
most_doors = 64

-- The plan of a site: its counts, its doors and its exits. The rights stand beside it.
pub record Plan : Type 0 where
  -- `site,P,L`: "P people, L locations"
  pub people : ℕ
  pub locations : ℕ
  -- `door,o,t`: "a one-way door from o to t"; "Doors are numbered in row order."
  pub doors : ℕ
  pub origin : List ℕ
  pub destination : List ℕ
  -- `exit,l,m`: "location l is signed to m"
  pub exit : List ℕ

-- the plan of these counts and lists, which the code holds one by one
abbrev pub plan : ℕ → ℕ → ℕ → List ℕ → List ℕ → List ℕ → Plan
plan people locations doors origin destination exit =
    record {
      people = people;
      locations = locations;
      doors = doors;
      origin = origin;
      destination = destination;
      exit = exit;
    }

-- the first test decides, and where it fails the second
unfoldable pub or_else : Bool → Bool → Bool
or_else true b = true
or_else false b = b

-- both tests hold
unfoldable pub and_also : Bool → Bool → Bool
and_also true b = b
and_also false b = false

-- the entry of the rights' table for person p and location l
abbrev pub right_at : List Bool → ℕ → ℕ → Bool
right_at right p l = get_or right (p * most_locations + l) false

-- 01, "Site sheet": "person p may be in l. Location 0 is everybody's and has no row."
unfoldable pub may_be : List Bool → ℕ → ℕ → Bool
may_be right p l = or_else (eqb l 0) (and_also (ltb l most_locations) (right_at right p l))
