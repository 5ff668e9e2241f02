-- The rules said of lines are the rules of the tables that hold them, so that what is found first in the tables is found first in
-- the lines.
-- Assumes nothing.
use Prim.Native.Nat.{ℕ, zero, suc, ◌+◌, ◌*◌, ◌≤◌, ◌<◌}
use native.Mathlib.Omega.{arith}
use mathlib.Core.Path.{◌≡◌, refl, sym, ◌∙◌}
use mathlib.Core.Logic.{◌↔◌}
use mathlib.Core.Bool.{Bool, true, false}
use mathlib.Core.List.{List, [], ◌∷◌}
use lib.ListN.{length, get_or}
use lib.Dec.{ltb, eqb}
use borrow.Author.Tests.{eq-eqb, eqb-true, lt-ltb}
use Rattle.std.specs.Prelude.{Option}
use Rattle.tables.specs.Tables.{or_else, and_also, may_be, most_people, most_locations}
use Rattle.tables.specs.Below.{Smallest, Answers, AnswersPair}
use Rattle.tables.specs.Way as way
use Rattle.tables.specs.Rules.{DoorFrom, FirstLocation, ExitDoor, ExitRight, Lawful}
use Rattle.tables.specs.Tests.{first_no_exit, first_stray, first_no_door, first_no_right, first_shut_out}
use Rattle.tables.proofs.Laws.{and_right, and_both, or_left, or_right, not_so, clash, may_be_outside}
use Rattle.tables.proofs.Answers.{rule_6, rule_7, rule_8, rule_9, rule_10}
use Rattle.site_lines.specs.declared.SiteLine.{SiteLine}
use Rattle.site_lines.specs.declared.SiteLine.TheVariants.{Site, Door, Exit, Right, Bad}
use Rattle.site_lines.specs.declared.Draft.{Draft}
use Rattle.site_lines.specs.Draft.{plan_in}
use Rattle.site_lines.specs.Says.{Among, first, behind, HasExit, Holds, people_in, locations_in, origins_in, destinations_in, is_exit, has_exit, exit_in, LineInRange, exit_range, second_exit}
use Rattle.site_lines.specs.Gives.{FineLines, all_fine, one_fine, RowsFine, ExitOf, ComesOut, outside, onward, ExitHasDoor, MayBeIn, everybodys, by_row, RightToExit, ComesIn, Six, Seven, Eight, Nine, Ten}
use Rattle.site_lines.proofs.Said.{exit_more, has_exit_lem, exit_has, right_row, right_has}
use Rattle.site_lines.proofs.Held.{Held, Ranged}

-- ---- the doors that lines give

door_row : (lines : List SiteLine) (k : ℕ) → k < length (origins_in lines) → Among (Door (get_or (origins_in lines) k 0) (get_or (destinations_in lines) k 0)) lines
unfolding origins_in destinations_in
door_row [] k h = absurd (omega arith)
door_row (Site p l ∷ lines) k h = behind (door_row lines k h)
door_row (Exit l m ∷ lines) k h = behind (door_row lines k h)
door_row (Right p l ∷ lines) k h = behind (door_row lines k h)
door_row (Bad ∷ lines) k h = behind (door_row lines k h)
door_row (Door o t ∷ lines) zero h = first
door_row (Door o t ∷ lines) (suc k) h = behind (door_row lines k (omega arith))

record DoorAt (lines : List SiteLine) (o t : ℕ) : Type 0 where
  place : ℕ
  exists : place < length (origins_in lines)
  starts : get_or (origins_in lines) place 0 ≡ o
  ends : get_or (destinations_in lines) place 0 ≡ t

door_at_lem : {o t : ℕ} {lines : List SiteLine} → Among (Door o t) lines → DoorAt lines o t
unfolding origins_in destinations_in
door_at_lem first = record { place = 0; exists = omega arith; starts = refl; ends = refl }
door_at_lem (behind {other = Site p l} b) = let d = door_at_lem b in record { place = d.place; exists = d.exists; starts = d.starts; ends = d.ends }
door_at_lem (behind {other = Exit l m} b) = let d = door_at_lem b in record { place = d.place; exists = d.exists; starts = d.starts; ends = d.ends }
door_at_lem (behind {other = Right p l} b) = let d = door_at_lem b in record { place = d.place; exists = d.exists; starts = d.starts; ends = d.ends }
door_at_lem (behind {other = Bad} b) = let d = door_at_lem b in record { place = d.place; exists = d.exists; starts = d.starts; ends = d.ends }
door_at_lem (behind {other = Door o t} b) = let d = door_at_lem b in let h = d.exists in record { place = suc d.place; exists = omega arith; starts = d.starts; ends = d.ends }

-- ---- where all lines are right, a location has one exit

record ExitLine (before lines : List SiteLine) (l m : ℕ) : Type 0 where
  inside : 1 ≤ l
  new : has_exit l before ≡ false
  is : exit_in l lines ≡ m

exit_inside : {before : List SiteLine} {l m : ℕ} → LineInRange before (Exit l m) → 1 ≤ l
exit_inside (exit_range i a b) = i

exit_line : {before lines : List SiteLine} {l m : ℕ} → FineLines before lines → Among (Exit l m) lines → ExitLine before lines l m
unfolding exit_in has_exit
exit_line {l = l} {m = m} (all_fine {before = before}) a = elim a [ ]
exit_line {before} {l = l} (one_fine f a) first =
    record { inside = exit_inside f.in_range; new = not_so _ (λ e. f.new (second_exit (has_exit_lem l before e))); is = rw (eq-eqb l l refl) }
exit_line {before} {l = l} (one_fine {line = line} f a) (behind b) =
    let r = exit_line a b in
    let e : or_else (has_exit l before) (or_else (is_exit l line) false) ≡ false = sym (exit_more l before (line ∷ [])) ∙ r.new in
    let n : is_exit l line ≡ false = not_so _ (λ t. clash (or_right _ _ (or_left _ false t)) e) in
    record { inside = r.inside; new = not_so _ (λ t. clash (or_left _ _ t) e); is = rw n r.is }

-- ---- the rules

module _ (lines : List SiteLine) (d : Draft) (fine : FineLines [] lines) (h : Holds lines d) (r : Ranged d) where
  exit_as : {l m : ℕ} → Among (Exit l m) lines → get_or d.exit l 0 ≡ m
  exit_as {l} a = h.exits l ∙ (exit_line fine a).is

  door_as : {o t : ℕ} → Among (Door o t) lines → DoorFrom (plan_in d) o t
  door_as a =
      let x = door_at_lem a in
      record { door = x.place; exists = rw h.doors x.exists; starts = h.origins x.place ∙ x.starts; ends = h.destinations x.place ∙ x.ends }

  as_door : {o t : ℕ} → DoorFrom (plan_in d) o t → Among (Door o t) lines
  as_door x =
      let a = sym (h.origins x.door) ∙ x.starts in
      let b = sym (h.destinations x.door) ∙ x.ends in
      rw (a, b) at (door_row lines x.door (rw h.doors at x.exists))

  in_table : {l : ℕ} → l < d.locations → l < most_locations
  in_table k = let w = r.locations_to in omega arith

  may_as : {p l : ℕ} → l < d.locations → MayBeIn lines p l → may_be d.right p l ≡ true
  unfolding may_be
  may_as {p} k everybodys = may_be_outside d.right p
  may_as {p} {l} k (by_row a) = or_right _ _ (and_both _ _ (lt-ltb l most_locations (in_table k)) (h.rights p l (in_table k) ∙ right_has p l a))

  as_may : {p l : ℕ} → l < d.locations → may_be d.right p l ≡ true → MayBeIn lines p l
  unfolding may_be or_else
  as_may {p} {l} k e = go (eqb l 0) refl e
    where
      go : (q : Bool) → eqb l 0 ≡ q → or_else q (and_also (ltb l most_locations) (get_or d.right (p * most_locations + l) false)) ≡ true → MayBeIn lines p l
      go true q e' = rw (eqb-true l 0 q) everybodys
      go false q e' = by_row (right_row p l lines (sym (h.rights p l (in_table k)) ∙ and_right (ltb l most_locations) _ e'))

  exit_to : {l m : ℕ} → l < d.locations → Among (Exit l m) lines → m < d.locations
  exit_to {l} k a = rw (exit_as a) at (r.exits l k)

  door_to : {o t : ℕ} → DoorFrom (plan_in d) o t → t < d.locations
  door_to x = rw x.ends at (r.destinations x.door x.exists)

  as_6 : (l : ℕ) → l < d.locations → (1 ≤ l → get_or d.given l false ≡ true) ↔ ExitOf lines l
  as_6 l k = ((λ f low. has_exit_lem l lines (sym (h.given l) ∙ f low)), (λ g low. h.given l ∙ exit_has l (g low).row))

  as_10 : (p : ℕ) → p < d.people → FirstLocation (plan_in d) d.right p ↔ ComesIn lines p
  as_10 p k = (
    (λ f. come_in f.door (as_may (door_to f.door) f.may)),
    (λ g. let x = door_as g.door in record { location = g.location; may = may_as (door_to x) (by_row g.right); door = x }),
  )
    where
      come_in : {l : ℕ} → DoorFrom (plan_in d) 0 l → MayBeIn lines p l → ComesIn lines p
      come_in x everybodys = absurd (r.no_loop x.door x.exists (x.starts ∙ sym x.ends))
      come_in {l} x (by_row a) = record { location = l; right = a; door = as_door x }

  module _ (six : Six lines) where
    exit_row : {l : ℕ} → l < d.locations → 1 ≤ l → HasExit lines l
    exit_row {l} k low = six l (rw h.locations at k) low

    out_as : {l : ℕ} {w : List ℕ} → way.Way d.exit l w → l < d.locations → ComesOut lines l
    out_as way.outside k = outside
    out_as {l} (way.onward n e w) k =
        let x = exit_row k (omega (arith, n)) in
        let q = e ∙ exit_as x.row in
        onward x.row (rw q at (out_as w (rw q (exit_to k x.row))))

    as_out : {l : ℕ} → ComesOut lines l → way.LeadsOut d.exit l
    as_out outside = record { way = []; is_way = way.outside }
    as_out (onward {l = l} {m = m} a c) =
        let x = as_out c in
        let i = (exit_line fine a).inside in
        let n : l ≡ 0 → ⊥ = λ e. omega arith in
        record { way = m ∷ x.way; is_way = way.onward n (sym (exit_as a)) x.is_way }

    as_7 : (l : ℕ) → l < d.locations → way.LeadsOut d.exit l ↔ ComesOut lines l
    as_7 l k = ((λ f. out_as f.is_way k), (λ g. as_out g))

    as_8 : (l : ℕ) → l < d.locations → ExitDoor (plan_in d) l ↔ ExitHasDoor lines l
    as_8 l k = (
      (λ f m a. as_door (rw (exit_as a) at (f (exit_line fine a).inside))),
      (λ g low. let x = exit_row k low in rw (exit_as x.row) (door_as (g x.to x.row))),
    )

    by_exit : {p l : ℕ} → l < d.locations → 1 ≤ l → RightToExit lines p l → MayBeIn lines p l → may_be d.right p (get_or d.exit l 0) ≡ true
    by_exit k low g everybodys = absurd (omega arith)
    by_exit k low g (by_row a) = let x = exit_row k low in rw (exit_as x.row) (may_as (exit_to k x.row) (g x.to a x.row))

    as_9 : (p l : ℕ) → l < d.locations → ExitRight (plan_in d) d.right p l ↔ RightToExit lines p l
    as_9 p l k = (
      (λ f m a b. as_may (exit_to k b) (rw (exit_as b) at (f (exit_line fine b).inside (may_as k (by_row a))))),
      (λ g low e. by_exit k low g (as_may k e)),
    )

    -- lines that obey the rules have lawful tables
    pub lawful_as : Seven lines → Eight lines → Nine lines → Ten lines → Lawful most_people (plan_in d) d.right
    lawful_as seven eight nine ten = record {
      in_range = r;
      leads_out = λ l k. (as_7 l k).1 (seven l (rw h.locations at k));
      exit_door = λ l k. (as_8 l k).1 (eight l (rw h.locations at k));
      exit_right = λ p q l k. (as_9 p l k).1 (nine p (rw h.people at q) l (rw h.locations at k));
      first = λ p q. (as_10 p q).1 (ten p (rw h.people at q));
    }

-- ---- what is found first

-- a search that answers by one fact answers by another that is the same
module _ {F G : ℕ → Type 0} {n m : ℕ} (e : n ≡ m) (same : (k : ℕ) → k < n → F k ↔ G k) where
  smallest_as : {k : ℕ} → Smallest F n k → Smallest G m k
  smallest_as {k} s =
      let x = s.exists in
      record { exists = omega arith; offends = λ g. s.offends ((same k x).1 g); before = λ j b. (same j (omega arith)).0 (s.before j b) }

  as_smallest : {k : ℕ} → Smallest G m k → Smallest F n k
  as_smallest {k} s =
      let x = s.exists in
      let y : k < n = omega arith in
      record { exists = y; offends = λ f. s.offends ((same k y).0 f); before = λ j b. (same j (omega arith)).1 (s.before j b) }

  answers_as : {a : Option ℕ} → Answers a F n → Answers a G m
  answers_as s = record {
    none_yes = λ q k b. let c : k < n = omega arith in (same k c).0 (s.none_yes q k c);
    none_back = λ g. s.none_back (λ k b. (same k b).1 (g k (omega arith)));
    at_yes = λ k q. smallest_as (s.at_yes k q);
    at_back = λ k x. s.at_back k (as_smallest x);
  }

module _ {F G : ℕ → ℕ → Type 0} {people persons n m : ℕ} (o : people ≡ persons) (e : n ≡ m) (same : (p l : ℕ) → l < n → F p l ↔ G p l) where
  pairs_as : {a : Option (ℕ × ℕ)} → AnswersPair a F people n → AnswersPair a G persons m
  pairs_as s = record {
    none_yes = λ q p b l c. (same p l (omega arith)).0 (s.none_yes q p (omega arith) l (omega arith));
    none_back = λ g. s.none_back (λ p b l c. (same p l c).1 (g p (omega arith) l (omega arith)));
    at_yes = λ p l q.
        let x = s.at_yes p l q in
        let b = x.person in
        record { person = omega arith; before = λ u i j c. (same u j (omega arith)).0 (x.before u i j (omega arith)); location = smallest_as e (same p) x.location };
    at_back = λ p l x.
        let b = x.person in
        s.at_back p l (record { person = omega arith; before = λ u i j c. (same u j c).1 (x.before u i j (omega arith)); location = as_smallest e (same p) x.location });
  }

-- what the searches in the tables find, said of the lines
pub record Ruled (lines : List SiteLine) (d : Draft) : Type 0 where
  pub six : Answers (first_no_exit d.locations d.given) (ExitOf lines) (locations_in lines)
  pub seven : Six lines → Answers (first_stray d.locations d.exit) (ComesOut lines) (locations_in lines)
  pub eight : Six lines → Answers (first_no_door (plan_in d)) (ExitHasDoor lines) (locations_in lines)
  pub nine : Six lines → AnswersPair (first_no_right (plan_in d) d.right) (RightToExit lines) (people_in lines) (locations_in lines)
  pub ten : Answers (first_shut_out (plan_in d) d.right) (ComesIn lines) (people_in lines)

pub rules_of : {most : ℕ} {s : List ℕ} {lines : List SiteLine} {d : Draft} → RowsFine most s lines → Held lines d → Ruled lines d
rules_of {lines = lines} {d = d} t k =
    let h = k.holds in
    let r = k.ranged t.some in
    let f = r.locations_from in
    record {
      six = answers_as h.locations (as_6 lines d t.fine h r) (rule_6 d.locations d.given);
      seven = λ six. answers_as h.locations (as_7 lines d t.fine h r six) (rule_7 d.locations d.exit (omega arith) r.locations_to r.exits);
      eight = λ six. answers_as h.locations (as_8 lines d t.fine h r six) (rule_8 (plan_in d));
      nine = λ six. pairs_as h.people h.locations (as_9 lines d t.fine h r six) (rule_9 (plan_in d) d.right);
      ten = answers_as h.people (as_10 lines d t.fine h r) (rule_10 (plan_in d) d.right);
    }
