-- What the code computes of the rules: for each a test that a location, a person or a door breaks it, and the answer, none or
-- the smallest offender. That the tests tell the rules' facts is proved in `proofs/Answers.antt`.
use Rattle.std.specs.Prelude.{ℕ, ◌+◌, Bool, false, not, List, get_or, length, ltb, leb, eqb, Option}
use Rattle.tables.specs.Tables.{Plan, may_be, and_also, most_locations, most_doors}
use Rattle.tables.specs.Below.{all_below, some_below, least_below, least_pair, is_nothing, no_pair}
use Rattle.tables.specs.Way.{unvisited, way_out}

-- 3: a door is from a location to another one
unfoldable pub door_in_range : ℕ → List ℕ → List ℕ → ℕ → Bool
door_in_range locations origin destination d =
    and_also (ltb (get_or origin d 0) locations) (and_also (ltb (get_or destination d 0) locations) (not (eqb (get_or origin d 0) (get_or destination d 0))))

-- 3: an exit is a location
unfoldable pub exit_in_range : ℕ → List ℕ → ℕ → Bool
exit_in_range locations exit l = ltb (get_or exit l 0) locations

-- 3: the counts are in their ranges, where there is room for `most` people
unfoldable pub counts_fit : ℕ → ℕ → ℕ → ℕ → Bool
counts_fit most people locations doors =
    and_also (leb 1 people) (and_also (leb people most) (and_also (leb 2 locations) (and_also (leb locations most_locations) (leb doors most_doors))))

unfoldable pub plan_in_range : ℕ → Plan → Bool
plan_in_range most site =
    and_also (counts_fit most site.people site.locations site.doors)
    (and_also (all_below (door_in_range site.locations site.origin site.destination) site.doors)
    (all_below (exit_in_range site.locations site.exit) site.locations))

-- 6: "a location has no exit"
unfoldable pub lacks_exit : List Bool → ℕ → Bool
lacks_exit given l = and_also (ltb 0 l) (not (get_or given l false))

unfoldable pub first_no_exit : ℕ → List Bool → Option ℕ
first_no_exit locations given = least_below (lacks_exit given) locations

-- 7: "exits from a location never reach 0": with one step more than there are locations unvisited, the way takes them all
unfoldable pub strays : ℕ → List ℕ → ℕ → Bool
strays locations exit l = ltb (unvisited locations) (length (way_out (unvisited locations + 1) exit l))

unfoldable pub first_stray : ℕ → List ℕ → Option ℕ
first_stray locations exit = least_below (strays locations exit) locations

-- a door is from one location to another
unfoldable pub joins : List ℕ → List ℕ → ℕ → ℕ → ℕ → Bool
joins origin destination from to d = and_also (eqb (get_or origin d 0) from) (eqb (get_or destination d 0) to)

-- 8: "exit with no door"
unfoldable pub lacks_door : ℕ → List ℕ → List ℕ → List ℕ → ℕ → Bool
lacks_door doors origin destination exit l =
    and_also (ltb 0 l) (not (some_below (joins origin destination l (get_or exit l 0)) doors))

unfoldable pub first_no_door : Plan → Option ℕ
first_no_door site = least_below (lacks_door site.doors site.origin site.destination site.exit) site.locations

-- 9: "right to l but not to its exit"
unfoldable pub lacks_right : List ℕ → List Bool → ℕ → ℕ → Bool
lacks_right exit right p l = and_also (ltb 0 l) (and_also (may_be right p l) (not (may_be right p (get_or exit l 0))))

unfoldable pub first_no_right : Plan → List Bool → Option (ℕ × ℕ)
first_no_right site right = least_pair (lacks_right site.exit right) site.people site.locations

-- a door by which the person may come in from outside
unfoldable pub lets_in : List ℕ → List ℕ → List Bool → ℕ → ℕ → Bool
lets_in origin destination right p d = and_also (eqb (get_or origin d 0) 0) (may_be right p (get_or destination d 0))

-- 10: "person has no first location from outside"
unfoldable pub shut_out : ℕ → List ℕ → List ℕ → List Bool → ℕ → Bool
shut_out doors origin destination right p = not (some_below (lets_in origin destination right p) doors)

unfoldable pub first_shut_out : Plan → List Bool → Option ℕ
first_shut_out site right = least_below (shut_out site.doors site.origin site.destination right) site.people

-- "its tables pass 3 and 6 to 10": the whole test of a record's tables, each finished before the next
unfoldable pub lawful_b : ℕ → Plan → List Bool → Bool
lawful_b most site right =
    and_also (plan_in_range most site)
    (and_also (is_nothing (first_stray site.locations site.exit))
    (and_also (is_nothing (first_no_door site))
    (and_also (no_pair (first_no_right site right)) (is_nothing (first_shut_out site right)))))
