-- The tables hold exactly what the lines before say, and a line that is taken keeps it so.
-- Assumes nothing.
use Prim.Native.Nat.{ℕ, suc, ◌+◌, ◌*◌, ◌≤◌, ◌<◌}
use native.Mathlib.Omega.{arith}
use mathlib.Core.Path.{◌≡◌, refl, sym, ap, subst, ◌∙◌}
use mathlib.Core.Logic.{⊎_elim}
use mathlib.Core.Bool.{Bool, true, false, cond, true≢false}
use mathlib.Core.List.{List, [], ◌∷◌, ◌++◌, append-nil}
use lib.ListN.{length, get_or, set, length-append, length-set, length-replicate, get_or-eq_default, get_or-append}
use lib.Seq.{get_or-set_same, get_or-set_other, get_or-append_seam}
use lib.Dec.{eqb}
use borrow.Author.Tests.{eq-eqb, ne_eqb}
use Rattle.tables.specs.Tables.{or_else, and_also, most_people, most_locations, most_doors}
use Rattle.tables.specs.Rules.{PlanInRange}
use Rattle.tables.specs.Zero.{ZeroBeyond, zeros}
use Rattle.tables.proofs.Zero.{same_at, zeros_at, zeros_long}
use Rattle.tables.proofs.Cases.{same_or_not, below_or_not}
use Rattle.site_lines.specs.declared.SiteLine.{SiteLine}
use Rattle.site_lines.specs.declared.SiteLine.TheVariants.{Site, Door, Exit, Right, Bad}
use Rattle.site_lines.specs.declared.Draft.{Draft}
use Rattle.site_lines.specs.Draft.{Bounded, counts_of, blank_draft, plan_in, unmarked, with_site, with_door, with_exit, with_right}
use Rattle.site_lines.specs.Says.{Holds, origins_in, destinations_in, is_exit, has_exit, exit_in, has_right}
use Rattle.site_lines.proofs.Fits.{SiteIn, DoorRowIn, ExitIn, RightIn}
use Rattle.site_lines.proofs.Bounds.{bounded_blank}
use Rattle.site_lines.proofs.Said.{people_more, locations_more, origins_more, destinations_more, exit_more, right_more, target_more}

-- each list of the tables is as long as its array
pub record Shape (d : Draft) : Type 0 where
  pub origins : length d.origin ≡ most_doors
  pub destinations : length d.destination ≡ most_doors
  pub exits : length d.exit ≡ most_locations
  pub given : length d.given ≡ most_locations
  pub rights : length d.right ≡ most_people * most_locations

abbrev pub Ranged : Draft → Type 0
Ranged d = PlanInRange most_people (plan_in d)

abbrev pub Zero : Draft → Type 0
Zero d = ZeroBeyond (plan_in d) d.right

pub record Held (before : List SiteLine) (d : Draft) : Type 0 where
  pub holds : Holds before d
  pub shape : Shape d
  pub bounded : Bounded (counts_of d)
  -- the tables have locations once the first line has come
  pub unbegun : before ≡ [] → d.locations ≡ 0
  pub begun : (before ≡ [] → ⊥) → 1 ≤ d.locations
  -- and then they pass 3
  pub ranged : (before ≡ [] → ⊥) → Ranged d
  -- places beyond the counts are 0
  pub zero : Zero d

pub unmarked_at : (n k : ℕ) → get_or (unmarked n) k false ≡ false
unfolding unmarked
unmarked_at n k = same_at n k false

pub held_blank : Held [] blank_draft
unfolding origins_in destinations_in has_exit exit_in has_right zeros unmarked
held_blank = record {
  holds = record {
    people = refl;
    locations = refl;
    doors = refl;
    origins = zeros_at most_doors;
    destinations = zeros_at most_doors;
    exits = zeros_at most_locations;
    given = unmarked_at most_locations;
    rights = λ q k h. unmarked_at (most_people * most_locations) (q * most_locations + k);
  };
  shape = record {
    origins = zeros_long most_doors;
    destinations = zeros_long most_doors;
    exits = zeros_long most_locations;
    given = length-replicate most_locations false;
    rights = length-replicate (most_people * most_locations) false;
  };
  bounded = bounded_blank;
  unbegun = λ e. refl;
  begun = λ n. absurd (n refl);
  ranged = λ n. absurd (n refl);
  zero = record {
    origins = λ k b. zeros_at most_doors k;
    destinations = λ k b. zeros_at most_doors k;
    exits = λ k b. zeros_at most_locations k;
    rights_of = λ q k b w. unmarked_at (most_people * most_locations) (q * most_locations + k);
    rights_to = λ q k b w. unmarked_at (most_people * most_locations) (q * most_locations + k);
    exit_of_outside = zeros_at most_locations 0;
    rights_to_outside = λ q. unmarked_at (most_people * most_locations) (q * most_locations + 0);
  };
}

-- one more entry behind those that a list holds
put_next : (xs ys : List ℕ) (v n : ℕ) → n ≡ length ys → n < length xs → ((k : ℕ) → get_or xs k 0 ≡ get_or ys k 0) → (k : ℕ)
    → get_or (set xs n v) k 0 ≡ get_or (ys ++ (v ∷ [])) k 0
put_next xs ys v n e h all k = ⊎_elim same other (same_or_not k n)
  where
    same : k ≡ n → get_or (set xs n v) k 0 ≡ get_or (ys ++ (v ∷ [])) k 0
    same q = rw (q, get_or-set_same xs n v 0 h, e) (sym (get_or-append_seam ys v [] 0))

    behind : length ys < k → get_or ys k 0 ≡ get_or (ys ++ (v ∷ [])) k 0
    behind l =
        let a : length ys ≤ k = omega arith in
        let b : length (ys ++ (v ∷ [])) ≤ k = rw (length-append ys (v ∷ [])) (omega arith) in
        get_or-eq_default ys 0 a ∙ sym (get_or-eq_default (ys ++ (v ∷ [])) 0 b)

    other : (k ≡ n → ⊥) → get_or (set xs n v) k 0 ≡ get_or (ys ++ (v ∷ [])) k 0
    other q =
        get_or-set_other xs n k v 0 q ∙ all k
        ∙ ⊎_elim (λ l. sym (get_or-append ys (v ∷ []) 0 k l)) (λ l. let m : length ys < k = omega (arith, q, e) in behind m) (below_or_not k (length ys))

exit_none : (k : ℕ) (lines : List SiteLine) → has_exit k lines ≡ false → exit_in k lines ≡ 0
unfolding has_exit exit_in or_else
exit_none k [] e = refl
exit_none k (line ∷ lines) e = go (is_exit k line) refl (exit_none k lines)
  where
    go : (q : Bool) → is_exit k line ≡ q → (has_exit k lines ≡ false → exit_in k lines ≡ 0) → exit_in k (line ∷ lines) ≡ 0
    go true q more = let h : true ≡ false = rw q at e in absurd (true≢false h)
    go false q more = rw q (more (rw q at e))

or_true : (b : Bool) → or_else b true ≡ true
unfolding or_else
or_true true = refl
or_true false = refl

-- another place of the rights' table is another person's, or to another location
differs : (p l q k : ℕ) → (q * most_locations + k ≡ p * most_locations + l → ⊥) → and_also (eqb p q) (eqb l k) ≡ false
unfolding and_also
differs p l q k n = ⊎_elim (λ e. rw (eq-eqb p q e) (ne_eqb l k (λ f. n (omega arith)))) (λ e. rw (ne_eqb p q e)) (same_or_not p q)

or_false : (b : Bool) → or_else b false ≡ b
unfolding or_else
or_false true = refl
or_false false = refl

-- lines behind that give no exit leave the exits as they were
kept_exit : (k : ℕ) (lines : List SiteLine) → cond (has_exit k lines) (exit_in k lines) 0 ≡ exit_in k lines
kept_exit k lines = go (has_exit k lines) refl
  where
    go : (q : Bool) → has_exit k lines ≡ q → cond (has_exit k lines) (exit_in k lines) 0 ≡ exit_in k lines
    go true q = rw q
    go false q = rw (q, exit_none k lines q)

same_doors : (lines : List SiteLine) → length (origins_in lines) ≡ length (destinations_in lines)
unfolding origins_in destinations_in
same_doors [] = refl
same_doors (Site p l ∷ lines) = same_doors lines
same_doors (Door o t ∷ lines) = ap suc (same_doors lines)
same_doors (Exit l m ∷ lines) = same_doors lines
same_doors (Right p l ∷ lines) = same_doors lines
same_doors (Bad ∷ lines) = same_doors lines

module _ (before : List SiteLine) (d : Draft) (h : Held before d) where
  some_before : (before ≡ [] → ⊥) → (line : SiteLine) → before ++ (line ∷ []) ≡ [] → ⊥
  some_before n line e = let z = ap length e ∙ refl in let y : length (before ++ (line ∷ [])) ≡ length before + 1 = length-append before (line ∷ []) in omega arith

  same_ranged : Ranged d → Ranged d
  same_ranged r = r

  module _ (o t : ℕ) (r : Ranged d) (i : DoorRowIn d.locations d.doors o t) (a : d.doors < length d.origin) (b : d.doors < length d.destination) where
    start_at : (k : ℕ) → k ≡ d.doors → get_or (set d.origin d.doors o) k 0 ≡ o
    start_at k e = rw e (get_or-set_same d.origin d.doors o 0 a)

    end_at : (k : ℕ) → k ≡ d.doors → get_or (set d.destination d.doors t) k 0 ≡ t
    end_at k e = rw e (get_or-set_same d.destination d.doors t 0 b)

    start_other : (k : ℕ) → (k ≡ d.doors → ⊥) → get_or (set d.origin d.doors o) k 0 ≡ get_or d.origin k 0
    start_other k e = get_or-set_other d.origin d.doors k o 0 e

    end_other : (k : ℕ) → (k ≡ d.doors → ⊥) → get_or (set d.destination d.doors t) k 0 ≡ get_or d.destination k 0
    end_other k e = get_or-set_other d.destination d.doors k t 0 e

    door_ranged : Ranged (with_door d o t)
    door_ranged =
        let room = i.room in
        record {
          people_from = r.people_from;
          people_to = r.people_to;
          locations_from = r.locations_from;
          locations_to = r.locations_to;
          doors_to = omega arith;
          origins = λ k w. ⊎_elim (λ e. rw (start_at k e) i.from) (λ e. rw (start_other k e) (r.origins k (omega (arith, e)))) (same_or_not k d.doors);
          destinations = λ k w. ⊎_elim (λ e. rw (end_at k e) i.to) (λ e. rw (end_other k e) (r.destinations k (omega (arith, e)))) (same_or_not k d.doors);
          no_loop = λ k w. ⊎_elim (λ e. rw (start_at k e, end_at k e) i.differ) (λ e. rw (start_other k e, end_other k e) (r.no_loop k (omega (arith, e)))) (same_or_not k d.doors);
          exits = r.exits;
        }

  exit_ranged : (l m : ℕ) → Ranged d → ExitIn d.locations l m → l < length d.exit → Ranged (with_exit d l m)
  exit_ranged l m r i w = record {
    people_from = r.people_from;
    people_to = r.people_to;
    locations_from = r.locations_from;
    locations_to = r.locations_to;
    doors_to = r.doors_to;
    origins = r.origins;
    destinations = r.destinations;
    no_loop = r.no_loop;
    exits = λ k b. ⊎_elim (λ e. subst (λ (x : ℕ). get_or (set d.exit l m) x 0 < d.locations) (sym e) (rw (get_or-set_same d.exit l m 0 w) i.to))
        (λ e. rw (get_or-set_other d.exit l k m 0 e) (r.exits k b)) (same_or_not k l);
  }

  pub held_door : (o t : ℕ) → (before ≡ [] → ⊥) → DoorRowIn d.locations d.doors o t → Held (before ++ (Door o t ∷ [])) (with_door d o t)
  unfolding origins_in destinations_in has_exit exit_in has_right or_else
  held_door o t n i =
      let hd = h.holds.doors in
      let r = i.room in
      let so = h.shape.origins in
      let sd = h.shape.destinations in
      let a : d.doors < length d.origin = omega arith in
      let b : d.doors < length d.destination = omega arith in
      record {
        holds = record {
          people = h.holds.people ∙ sym (people_more before (Door o t ∷ []) n);
          locations = h.holds.locations ∙ sym (locations_more before (Door o t ∷ []) n);
          doors = rw (origins_more before (Door o t ∷ []), length-append (origins_in before) (o ∷ [])) (omega arith);
          origins = λ k. rw (origins_more before (Door o t ∷ [])) (put_next d.origin (origins_in before) o d.doors hd a h.holds.origins k);
          destinations = λ k. rw (destinations_more before (Door o t ∷ [])) (put_next d.destination (destinations_in before) t d.doors (hd ∙ same_doors before) b h.holds.destinations k);
          exits = λ k. h.holds.exits k ∙ sym (rw (target_more k before (Door o t ∷ [])) (kept_exit k before));
          given = λ k. h.holds.given k ∙ sym (rw (exit_more k before (Door o t ∷ [])) (or_false (has_exit k before)));
          rights = λ q k l. h.holds.rights q k l ∙ sym (rw (right_more q k before (Door o t ∷ [])) (or_false (has_right q k before)));
        };
        shape = record {
          origins = length-set d.origin d.doors o ∙ so;
          destinations = length-set d.destination d.doors t ∙ sd;
          exits = h.shape.exits;
          given = h.shape.given;
          rights = h.shape.rights;
        };
        bounded = record { people = h.bounded.people; locations = h.bounded.locations; doors = omega arith };
        unbegun = λ e. absurd (some_before n (Door o t) e);
        begun = λ e. h.begun n;
        ranged = λ e. door_ranged o t (h.ranged n) i a b;
        zero = record {
          origins = λ k w. get_or-set_other d.origin d.doors k o 0 (λ e. omega arith) ∙ h.zero.origins k (omega arith);
          destinations = λ k w. get_or-set_other d.destination d.doors k t 0 (λ e. omega arith) ∙ h.zero.destinations k (omega arith);
          exits = h.zero.exits;
          rights_of = h.zero.rights_of;
          rights_to = h.zero.rights_to;
          exit_of_outside = h.zero.exit_of_outside;
          rights_to_outside = h.zero.rights_to_outside;
        };
      }

  -- a line that is no door leaves the doors as they were
  doors_stay : (line : SiteLine) → origins_in (line ∷ []) ≡ [] → origins_in (before ++ (line ∷ [])) ≡ origins_in before
  doors_stay line e = origins_more before (line ∷ []) ∙ ap (λ (x : List ℕ). origins_in before ++ x) e ∙ append-nil (origins_in before)

  ends_stay : (line : SiteLine) → destinations_in (line ∷ []) ≡ [] → destinations_in (before ++ (line ∷ [])) ≡ destinations_in before
  ends_stay line e = destinations_more before (line ∷ []) ∙ ap (λ (x : List ℕ). destinations_in before ++ x) e ∙ append-nil (destinations_in before)

  pub held_exit : (l m : ℕ) → (before ≡ [] → ⊥) → ExitIn d.locations l m → has_exit l before ≡ false → Held (before ++ (Exit l m ∷ [])) (with_exit d l m)
  unfolding origins_in destinations_in has_exit exit_in has_right or_else
  held_exit l m n i new =
      let f = i.from in
      let b = h.bounded.locations in
      let se = h.shape.exits in
      let sg = h.shape.given in
      let in_exits : l < length d.exit = omega arith in
      let in_given : l < length d.given = omega arith in
      record {
        holds = record {
          people = h.holds.people ∙ sym (people_more before (Exit l m ∷ []) n);
          locations = h.holds.locations ∙ sym (locations_more before (Exit l m ∷ []) n);
          doors = h.holds.doors ∙ ap length (sym (doors_stay (Exit l m) refl));
          origins = λ k. h.holds.origins k ∙ ap (λ (x : List ℕ). get_or x k 0) (sym (doors_stay (Exit l m) refl));
          destinations = λ k. h.holds.destinations k ∙ ap (λ (x : List ℕ). get_or x k 0) (sym (ends_stay (Exit l m) refl));
          exits = λ k. rw (target_more k before (Exit l m ∷ [])) (⊎_elim
              (λ e. subst (λ (x : ℕ). get_or (set d.exit l m) x 0 ≡ cond (has_exit x before) (exit_in x before) (cond (eqb l x) m 0)) (sym e) (rw (new, eq-eqb l l refl) (get_or-set_same d.exit l m 0 in_exits)))
              (λ e. rw (ne_eqb l k (λ q. e (sym q))) (get_or-set_other d.exit l k m 0 e ∙ h.holds.exits k ∙ sym (kept_exit k before)))
              (same_or_not k l));
          given = λ k. rw (exit_more k before (Exit l m ∷ [])) (⊎_elim
              (λ e. subst (λ (x : ℕ). get_or (set d.given l true) x false ≡ or_else (has_exit x before) (or_else (eqb l x) false)) (sym e) (rw (new, eq-eqb l l refl) (get_or-set_same d.given l true false in_given)))
              (λ e. rw (ne_eqb l k (λ q. e (sym q))) (get_or-set_other d.given l k true false e ∙ h.holds.given k ∙ sym (or_false (has_exit k before))))
              (same_or_not k l));
          rights = λ q k w. h.holds.rights q k w ∙ sym (rw (right_more q k before (Exit l m ∷ [])) (or_false (has_right q k before)));
        };
        shape = record {
          origins = h.shape.origins;
          destinations = h.shape.destinations;
          exits = length-set d.exit l m ∙ se;
          given = length-set d.given l true ∙ sg;
          rights = h.shape.rights;
        };
        bounded = record { people = h.bounded.people; locations = h.bounded.locations; doors = h.bounded.doors };
        unbegun = λ e. absurd (some_before n (Exit l m) e);
        begun = λ e. h.begun n;
        ranged = λ e. exit_ranged l m (h.ranged n) i in_exits;
        zero = record {
          origins = h.zero.origins;
          destinations = h.zero.destinations;
          exits = λ k w. get_or-set_other d.exit l k m 0 (λ e. omega arith) ∙ h.zero.exits k w;
          rights_of = h.zero.rights_of;
          rights_to = h.zero.rights_to;
          exit_of_outside = let j = i.inside in get_or-set_other d.exit l 0 m 0 (λ e. omega arith) ∙ h.zero.exit_of_outside;
          rights_to_outside = h.zero.rights_to_outside;
        };
      }

  right_index : (p l q k : ℕ) → l < most_locations → k < most_locations → q * most_locations + k ≡ p * most_locations + l → (p ≡ q) × (l ≡ k)
  right_index p l q k a b e = (omega arith, omega arith)

  pub held_right : (p l : ℕ) → (before ≡ [] → ⊥) → RightIn d.people d.locations p l → has_right p l before ≡ false → Held (before ++ (Right p l ∷ [])) (with_right d p l)
  unfolding origins_in destinations_in has_exit exit_in has_right or_else and_also
  held_right p l n i new =
      let f = i.location in
      let g = i.person in
      let b = h.bounded.locations in
      let c = h.bounded.people in
      let sr = h.shape.rights in
      let in_rights : p * most_locations + l < length d.right = omega arith in
      let in_row : l < most_locations = omega arith in
      record {
        holds = record {
          people = h.holds.people ∙ sym (people_more before (Right p l ∷ []) n);
          locations = h.holds.locations ∙ sym (locations_more before (Right p l ∷ []) n);
          doors = h.holds.doors ∙ ap length (sym (doors_stay (Right p l) refl));
          origins = λ k. h.holds.origins k ∙ ap (λ (x : List ℕ). get_or x k 0) (sym (doors_stay (Right p l) refl));
          destinations = λ k. h.holds.destinations k ∙ ap (λ (x : List ℕ). get_or x k 0) (sym (ends_stay (Right p l) refl));
          exits = λ k. h.holds.exits k ∙ sym (rw (target_more k before (Right p l ∷ [])) (kept_exit k before));
          given = λ k. h.holds.given k ∙ sym (rw (exit_more k before (Right p l ∷ [])) (or_false (has_exit k before)));
          rights = λ q k w. rw (right_more q k before (Right p l ∷ [])) (⊎_elim
              (λ e. let x = right_index p l q k in_row w e in
              subst (λ (j : ℕ). get_or (set d.right (p * most_locations + l) true) j false ≡ or_else (has_right q k before) (or_else (and_also (eqb p q) (eqb l k)) false)) (sym e)
              (rw (eq-eqb p q x.0, eq-eqb l k x.1) (get_or-set_same d.right (p * most_locations + l) true false in_rights ∙ sym (or_true (has_right q k before)))))
              (λ e. get_or-set_other d.right (p * most_locations + l) (q * most_locations + k) true false e ∙ h.holds.rights q k w
              ∙ sym (rw (differs p l q k e) (or_false (has_right q k before))))
              (same_or_not (q * most_locations + k) (p * most_locations + l)));
        };
        shape = record {
          origins = h.shape.origins;
          destinations = h.shape.destinations;
          exits = h.shape.exits;
          given = h.shape.given;
          rights = length-set d.right (p * most_locations + l) true ∙ sr;
        };
        bounded = record { people = h.bounded.people; locations = h.bounded.locations; doors = h.bounded.doors };
        unbegun = λ e. absurd (some_before n (Right p l) e);
        begun = λ e. h.begun n;
        ranged = λ e. same_ranged (h.ranged n);
        zero = record {
          origins = h.zero.origins;
          destinations = h.zero.destinations;
          exits = h.zero.exits;
          rights_of = λ q k y w. get_or-set_other d.right (p * most_locations + l) (q * most_locations + k) true false (λ e. omega arith) ∙ h.zero.rights_of q k y w;
          rights_to = λ q k y w. get_or-set_other d.right (p * most_locations + l) (q * most_locations + k) true false (λ e. omega arith) ∙ h.zero.rights_to q k y w;
          exit_of_outside = h.zero.exit_of_outside;
          rights_to_outside = λ q. let j = i.inside in get_or-set_other d.right (p * most_locations + l) (q * most_locations + 0) true false (λ e. omega arith) ∙ h.zero.rights_to_outside q;
        };
      }

pub held_site : (d : Draft) (p l : ℕ) → Held [] d → SiteIn p l → Held (Site p l ∷ []) (with_site d p l)
unfolding origins_in destinations_in has_exit exit_in has_right or_else
held_site d p l h i =
    let lo = i.locations_from in
    record {
      holds = record {
        people = refl;
        locations = refl;
        doors = h.holds.doors;
        origins = h.holds.origins;
        destinations = h.holds.destinations;
        exits = h.holds.exits;
        given = h.holds.given;
        rights = h.holds.rights;
      };
      shape = record {
        origins = h.shape.origins;
        destinations = h.shape.destinations;
        exits = h.shape.exits;
        given = h.shape.given;
        rights = h.shape.rights;
      };
      bounded = record { people = i.people_to; locations = i.locations_to; doors = h.bounded.doors };
      unbegun = λ e. let z = ap length e in absurd (omega arith);
      begun = λ n. omega arith;
      ranged = λ n. record {
        people_from = i.people_from;
        people_to = i.people_to;
        locations_from = lo;
        locations_to = i.locations_to;
        doors_to = h.bounded.doors;
        origins = λ k b. let z = h.holds.doors in absurd (omega arith);
        destinations = λ k b. let z = h.holds.doors in absurd (omega arith);
        no_loop = λ k b. let z = h.holds.doors in absurd (omega arith);
        exits = λ k b. let z = h.holds.exits k in omega arith;
      };
      zero = record {
        origins = h.zero.origins;
        destinations = h.zero.destinations;
        exits = λ k b. h.holds.exits k;
        rights_of = λ q k b w. h.holds.rights q k w;
        rights_to = λ q k b w. h.holds.rights q k w;
        exit_of_outside = h.zero.exit_of_outside;
        rights_to_outside = h.zero.rights_to_outside;
      };
    }
