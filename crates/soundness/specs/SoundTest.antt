-- What the code computes of lent lists to tell whether a record is sound (01, "The record").
use Rattle.std.specs.Prelude.{ℕ, ◌/◌, ◌%◌, Bool, false, not, cond, List, length, get_or, eqb, ltb}
use Rattle.tables.specs.Tables.{Plan, may_be, or_else, and_also, most_locations, most_doors}
use Rattle.tables.specs.Below.{all_below}
use Rattle.tables.specs.Tests.{lawful_b}
use Rattle.phases.specs.Phase.{grants}
use Rattle.door.specs.Door.{door_in}
use Rattle.door_fits.specs.Fits.{fields_fit, is_free}
use Rattle.sole_grants.specs.Sole.{sole_grants}

-- the entries of a table from `count` on are 0
unfoldable pub zero_at : ℕ → List ℕ → ℕ → Bool
zero_at count table i = or_else (ltb i count) (eqb (get_or table i 0) 0)

unfoldable pub zero_from : ℕ → List ℕ → Bool
zero_from count table = all_below (zero_at count table) (length table)

-- a right is one of a person to a location other than 0
unfoldable pub right_fits : ℕ → ℕ → List Bool → ℕ → Bool
right_fits people locations right i =
    or_else (not (get_or right i false))
    (and_also (ltb (i / most_locations) people) (and_also (ltb 0 (i % most_locations)) (ltb (i % most_locations) locations)))

unfoldable pub rights_fit : ℕ → ℕ → List Bool → Bool
rights_fit people locations right = all_below (right_fits people locations right) (length right)

-- a person is where they may be, and beyond the people stands 0
unfoldable pub place_fits : ℕ → List Bool → List ℕ → ℕ → Bool
place_fits people right place p = cond (ltb p people) (may_be right p (get_or place p 0)) (eqb (get_or place p 0) 0)

unfoldable pub places_fit : ℕ → List Bool → List ℕ → Bool
places_fit people right place = all_below (place_fits people right place) (length place)

-- a door's fields fit, and beyond the doors stands 0
unfoldable pub door_fits : ℕ → ℕ → List ℕ → List ℕ → List ℕ → ℕ → Bool
door_fits people doors phase holder count d =
    cond (ltb d doors) (fields_fit people (door_in phase holder count d)) (is_free (door_in phase holder count d))

unfoldable pub doors_fit : ℕ → ℕ → List ℕ → List ℕ → List ℕ → Bool
doors_fit people doors phase holder count = all_below (door_fits people doors phase holder count) most_doors

-- a grant's door starts where the person is, and the person has a right to its destination
unfoldable pub grant_fits : Plan → List Bool → List ℕ → List ℕ → List ℕ → ℕ → Bool
grant_fits site right place phase holder d =
    or_else (not (grants (get_or phase d 0)))
    (and_also (eqb (get_or place (get_or holder d 0) 0) (get_or site.origin d 0)) (may_be right (get_or holder d 0) (get_or site.destination d 0)))

unfoldable pub grants_fit : Plan → List Bool → List ℕ → List ℕ → List ℕ → Bool
grants_fit site right place phase holder = all_below (grant_fits site right place phase holder) site.doors

-- the tables hold 0 beyond the counts, and so do location 0's own exit and rights
unfoldable pub zero_beyond : Plan → List Bool → Bool
zero_beyond site right =
    and_also (zero_from site.doors site.origin)
    (and_also (zero_from site.doors site.destination)
    (and_also (zero_from site.locations site.exit)
    (and_also (eqb (get_or site.exit 0 0) 0)
    (rights_fit site.people site.locations right))))

-- the doors' fields fit, and no person has two grants
unfoldable pub doors_sound : Plan → List Bool → List ℕ → List ℕ → List ℕ → List ℕ → Bool
doors_sound site right place phase holder count =
    and_also (doors_fit site.people site.doors phase holder count)
    (and_also (grants_fit site right place phase holder)
    (sole_grants site.doors phase holder))

-- the whole test; there is room for as many people as there are places
unfoldable pub lists_sound : Plan → List Bool → List ℕ → List ℕ → List ℕ → List ℕ → Bool
lists_sound site right place phase holder count =
    and_also (lawful_b (length place) site right)
    (and_also (zero_beyond site right)
    (and_also (places_fit site.people right place)
    (doors_sound site right place phase holder count)))
