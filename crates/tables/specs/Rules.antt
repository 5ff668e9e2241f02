-- The rules of a site's tables, in the words of 01, "Site sheet" and "Numbers given back".
use Rattle.std.specs.Prelude.{ℕ, ◌≤◌, ◌<◌, ◌≡◌, Bool, true, false, List, [], ◌∷◌, get_or}
use Rattle.tables.specs.Tables.{Plan, may_be, most_locations, most_doors}
use Rattle.tables.specs.Way.{LeadsOut}

-- 3: "a number outside the ranges above, a door from a location to itself, a 65th door"
pub record PlanInRange (most : ℕ) (site : Plan) : Type 0 where
  -- "People number 1 to 64, locations 2 to 32, doors 0 to 64."; `most` is how many people there is room for
  pub people_from : 1 ≤ site.people
  pub people_to : site.people ≤ most
  pub locations_from : 2 ≤ site.locations
  pub locations_to : site.locations ≤ most_locations
  pub doors_to : site.doors ≤ most_doors
  -- "a one-way door from o to t, o and t different"
  pub origins : (d : ℕ) → d < site.doors → get_or site.origin d 0 < site.locations
  pub destinations : (d : ℕ) → d < site.doors → get_or site.destination d 0 < site.locations
  pub no_loop : (d : ℕ) → d < site.doors → get_or site.origin d 0 ≡ get_or site.destination d 0 → ⊥
  -- "location l is signed to m (0 to L-1)"
  pub exits : (l : ℕ) → l < site.locations → get_or site.exit l 0 < site.locations

-- 6: "every location but 0 has an exit". While a sheet is being read, `given` marks the locations whose exit has come.
pub record ExitsGiven (locations : ℕ) (given : List Bool) : Type 0 where
  pub each : (l : ℕ) → 1 ≤ l → l < locations → get_or given l false ≡ true

-- a door from one location to another
pub record DoorFrom (site : Plan) (from to : ℕ) : Type 0 where
  pub door : ℕ
  pub exists : door < site.doors
  pub starts : get_or site.origin door 0 ≡ from
  pub ends : get_or site.destination door 0 ≡ to

-- a location with a door from outside to which the person has a right
pub record FirstLocation (site : Plan) (right : List Bool) (p : ℕ) : Type 0 where
  pub location : ℕ
  pub may : may_be right p location ≡ true
  pub door : DoorFrom site 0 location

-- 8: "each exit l to m has a door from l to m"
abbrev pub ExitDoor : Plan → ℕ → Type 0
ExitDoor site l = 1 ≤ l → DoorFrom site l (get_or site.exit l 0)

-- 9, by SAF-3: "whoever has a right to l has a right to its exit"
abbrev pub ExitRight : Plan → List Bool → ℕ → ℕ → Type 0
ExitRight site right p l = 1 ≤ l → may_be right p l ≡ true → may_be right p (get_or site.exit l 0) ≡ true

-- Rules 3 and 7 to 10, which a record's tables obey (in a record every location has an exit, so that 6 asks nothing).
pub record Lawful (most : ℕ) (site : Plan) (right : List Bool) : Type 0 where
  pub in_range : PlanInRange most site
  -- 7: "following exits always comes to 0"
  pub leads_out : (l : ℕ) → l < site.locations → LeadsOut site.exit l
  pub exit_door : (l : ℕ) → l < site.locations → ExitDoor site l
  pub exit_right : (p : ℕ) → p < site.people → (l : ℕ) → l < site.locations → ExitRight site right p l
  -- 10: "everyone has a right to some location with a door from 0"
  pub first : (p : ℕ) → p < site.people → FirstLocation site right p

-- A way out of l for person p: to 0, through doors, by locations that they may be in.
pub data SafeWay (site : Plan) (right : List Bool) (p : ℕ) : ℕ → List ℕ → Type 0 where
  outside : SafeWay site right p 0 []
  onward : {l : ℕ} {m : ℕ} {rest : List ℕ} → DoorFrom site l m → may_be right p m ≡ true → SafeWay site right p m rest → SafeWay site right p l (m ∷ rest)
