-- The theorems of the rules: what each test of `specs/Tests.antt` tells, and that each public function's answer is none exactly
-- when the rule's fact holds, and k exactly when k is the smallest offender.
--     in-range-tells         rule 3
--     rule-6, exits-given-tells
--                            rule 6: a search answers, and nothing is found exactly when every location but 0 has an exit
--     rule-7 .. rule-10      the other rules, 7 on tables whose numbers are in range
--     lawful-tells           the whole test
-- Assumes nothing.
use Prim.Native.Nat.{ℕ, ◌+◌, ◌≤◌, ◌<◌}
use mathlib.Core.Path.{◌≡◌, refl}
use mathlib.Core.Bool.{Bool, true, false, not}
use mathlib.Core.List.{List}
use native.Mathlib.Omega.{arith}
use borrow.Author.Tests.{le-ltb, ltb-false, not-true}
use lib.ListN.{get_or, length}
use Rattle.tables.specs.Tables.{Plan, may_be, most_locations}
use Rattle.tables.specs.Below.{some_below, is_nothing, Tells, Answers, AnswersPair}
use Rattle.tables.specs.Way.{LeadsOut, way_out, unvisited}
use Rattle.tables.specs.Rules.{PlanInRange, ExitsGiven, DoorFrom, FirstLocation, ExitDoor, ExitRight, Lawful}
use Rattle.tables.specs.Tests.{door_in_range, exit_in_range, counts_fit, plan_in_range, lacks_exit, first_no_exit, strays, first_stray}
use Rattle.tables.specs.Tests.{joins, lacks_door, first_no_door, lacks_right, first_no_right, lets_in, shut_out, first_shut_out, lawful_b}
use Rattle.tables.proofs.Laws.{some_yes, some_back, tell_lt, tell_le, tell_eq, tell_itself, tell_not, tell_and, tell_and_then, tell_then}
use Rattle.tables.proofs.Laws.{tell_not_not, tell_all, tell_as, answers, tell_nothing, answers_pair, tell_no_pair}
use Rattle.tables.proofs.Ways.{way_met, way_found_lem, way_short}

-- ---- rule 3

door_fits_tells : (locations : ℕ) (origin destination : List ℕ) (d : ℕ)
    → Tells (door_in_range locations origin destination d)
    ((get_or origin d 0 < locations) × ((get_or destination d 0 < locations) × (get_or origin d 0 ≡ get_or destination d 0 → ⊥)))
unfolding door_in_range
door_fits_tells locations origin destination d = tell_and (tell_lt _ _) (tell_and (tell_lt _ _) (tell_not (tell_eq _ _)))

pub in_range_tells : (most : ℕ) (site : Plan) → Tells (plan_in_range most site) (PlanInRange most site)
unfolding plan_in_range counts_fit exit_in_range
in_range_tells most site =
    tell_as
    (λ t. record {
      people_from = t.0.0;
      people_to = t.0.1.0;
      locations_from = t.0.1.1.0;
      locations_to = t.0.1.1.1.0;
      doors_to = t.0.1.1.1.1;
      origins = λ d h. (t.1.0 d h).0;
      destinations = λ d h. (t.1.0 d h).1.0;
      no_loop = λ d h. (t.1.0 d h).1.1;
      exits = t.1.1;
    })
    (λ r. (
      (r.people_from, (r.people_to, (r.locations_from, (r.locations_to, r.doors_to)))),
      ((λ d h. (r.origins d h, (r.destinations d h, r.no_loop d h))), r.exits),
    ))
    (tell_and (tell_and (tell_le _ _) (tell_and (tell_le _ _) (tell_and (tell_le _ _) (tell_and (tell_le _ _) (tell_le _ _)))))
    (tell_and (tell_all (door_in_range site.locations site.origin site.destination) _ site.doors (door_fits_tells site.locations site.origin site.destination))
    (tell_all (exit_in_range site.locations site.exit) (λ l. get_or site.exit l 0 < site.locations) site.locations (λ l. tell_lt _ _))))

-- ---- rule 6

pub rule_6 : (locations : ℕ) (given : List Bool) → Answers (first_no_exit locations given) (λ l. 1 ≤ l → get_or given l false ≡ true) locations
unfolding first_no_exit lacks_exit
rule_6 locations given =
    answers (lacks_exit given) _ locations (λ l h. tell_then _ (tell_lt 0 l) (tell_not_not (tell_itself (get_or given l false))))

pub exits_given_tells : (locations : ℕ) (given : List Bool) → Tells (is_nothing (first_no_exit locations given)) (ExitsGiven locations given)
exits_given_tells locations given =
    tell_as (λ all. record { each = λ l low h. all l h low }) (λ r l h low. r.each l low h)
    (tell_nothing (first_no_exit locations given) _ locations (rule_6 locations given))

-- ---- rule 7

module _ (locations : ℕ) (exit : List ℕ) (some : 1 ≤ locations) (most : locations ≤ most_locations)
    (inside : (l : ℕ) → l < locations → get_or exit l 0 < locations) where
  left_is : unvisited locations + 1 ≡ locations
  unfolding unvisited
  left_is = omega arith

  leads_out_tells : (l : ℕ) → l < locations → Tells (not (strays locations exit l)) (LeadsOut exit l)
  unfolding strays
  leads_out_tells l h =
      record {
        yes = λ e.
            let low = ltb-false (unvisited locations) (length (way_out (unvisited locations + 1) exit l)) (not-true _ e) in
            record { way = way_out (unvisited locations + 1) exit l; is_way = way_met (unvisited locations + 1) exit l (omega arith) };
        back = λ out.
            let short = way_short locations exit inside out.is_way h in
            let is = left_is in
            let found = way_found_lem out.is_way (unvisited locations + 1) (omega arith) in
            rw (found, le-ltb (unvisited locations) (length out.way) (omega arith));
      }

  pub rule_7 : Answers (first_stray locations exit) (LeadsOut exit) locations
  unfolding first_stray
  rule_7 = answers (strays locations exit) (LeadsOut exit) locations leads_out_tells

-- ---- rule 8

door_tells : (site : Plan) (from to : ℕ) → Tells (some_below (joins site.origin site.destination from to) site.doors) (DoorFrom site from to)
unfolding joins
door_tells site from to =
    let here : (d : ℕ) → Tells (joins site.origin site.destination from to d) ((get_or site.origin d 0 ≡ from) × (get_or site.destination d 0 ≡ to)) =
    λ d. tell_and (tell_eq _ _) (tell_eq _ _) in
    record {
      yes = λ e. let s = some_yes (joins site.origin site.destination from to) site.doors e in
          let t = (here s.0).yes s.2 in
          record { door = s.0; exists = s.1; starts = t.0; ends = t.1 };
      back = λ r.
          some_back (joins site.origin site.destination from to) site.doors r.door r.exists ((here r.door).back (r.starts, r.ends));
    }

pub rule_8 : (site : Plan) → Answers (first_no_door site) (ExitDoor site) site.locations
unfolding first_no_door lacks_door
rule_8 site =
    answers (lacks_door site.doors site.origin site.destination site.exit) _ site.locations
    (λ l h. tell_then _ (tell_lt 0 l) (tell_not_not (door_tells site l (get_or site.exit l 0))))

-- ---- rule 9

pub rule_9 : (site : Plan) (right : List Bool) → AnswersPair (first_no_right site right) (ExitRight site right) site.people site.locations
unfolding first_no_right lacks_right
rule_9 site right =
    answers_pair (lacks_right site.exit right) _ site.people site.locations
    (λ p l. tell_then _ (tell_lt 0 l) (tell_then _ (tell_itself (may_be right p l)) (tell_not_not (tell_itself (may_be right p (get_or site.exit l 0))))))

-- ---- rule 10

first_tells : (site : Plan) (right : List Bool) (p : ℕ)
    → Tells (some_below (lets_in site.origin site.destination right p) site.doors) (FirstLocation site right p)
unfolding lets_in
first_tells site right p =
    let here : (d : ℕ) → Tells (lets_in site.origin site.destination right p d) ((get_or site.origin d 0 ≡ 0) × (may_be right p (get_or site.destination d 0) ≡ true)) =
    λ d. tell_and (tell_eq _ _) (tell_itself _) in
    record {
      yes = λ e. let s = some_yes (lets_in site.origin site.destination right p) site.doors e in
          let t = (here s.0).yes s.2 in
          record { location = get_or site.destination s.0 0; may = t.1; door = record { door = s.0; exists = s.1; starts = t.0; ends = refl } };
      back = λ r. some_back (lets_in site.origin site.destination right p) site.doors r.door.door r.door.exists
          ((here r.door.door).back (r.door.starts, rw r.door.ends r.may));
    }

pub rule_10 : (site : Plan) (right : List Bool) → Answers (first_shut_out site right) (FirstLocation site right) site.people
unfolding first_shut_out shut_out
rule_10 site right =
    answers (shut_out site.doors site.origin site.destination right) _ site.people (λ p h. tell_not_not (first_tells site right p))

-- ---- the whole test

pub lawful_tells : (most : ℕ) (site : Plan) (right : List Bool) → Tells (lawful_b most site right) (Lawful most site right)
unfolding lawful_b
lawful_tells most site right =
    tell_as
    (λ t. record { in_range = t.0; leads_out = t.1.0; exit_door = t.1.1.0; exit_right = t.1.1.1.0; first = t.1.1.1.1 })
    (λ r. (r.in_range, (r.leads_out, (r.exit_door, (r.exit_right, r.first)))))
    (tell_and_then (in_range_tells most site) (λ r.
    tell_and
    (tell_nothing _ _ site.locations (rule_7 site.locations site.exit (let low = r.locations_from in omega arith) r.locations_to r.exits))
    (tell_and (tell_nothing _ _ site.locations (rule_8 site))
    (tell_and (tell_no_pair _ _ site.people site.locations (rule_9 site right)) (tell_nothing _ _ site.people (rule_10 site right))))))
