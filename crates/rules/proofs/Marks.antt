-- Marks of locations, made by one walk over the doors: a location is marked exactly when some door names it. Assumes nothing.
use Prim.Native.Nat.{ℕ, ◌+◌, ◌≤◌, ◌<◌}
use mathlib.Core.Path.{◌≡◌, refl, sym, ap, ◌∙◌}
use mathlib.Core.Bool.{Bool, true, false, not}
use mathlib.Core.List.{List}
use mathlib.Core.Logic.{⊎_elim}
use native.Mathlib.Omega.{arith}
use borrow.Author.Tests.{eqb-true, eq-eqb}
use lib.ListN.{length, get_or, set, replicate, length-set, length-replicate}
use lib.Seq.{get_or-set_same, get_or-set_other}
use lib.Dec.{eqb}
use Rattle.tables.specs.Tables.{may_be, or_else, most_locations}
use Rattle.tables.specs.Below.{some_below}
use Rattle.tables.specs.Tests.{joins, lets_in, shut_out}
use Rattle.tables.proofs.Laws.{no_right_past, clash, not_so, and_left, and_right, and_both, some_yes, some_back, tell_itself, tell_same}
use Rattle.tables.proofs.Zero.{same_at}
use Rattle.tables.proofs.Chains.{some_more}
use Rattle.tables.proofs.Cases.{below_or_not, same_or_not}
use Rattle.rules.specs.Marks.{most_marks, is_first, has_no_first}

module _ (names : ℕ → ℕ → Bool) where
  -- the walk has come to door d of n; location l is marked exactly when a door before d names it
  pub record Marks (n d : ℕ) (marks : List Bool) : Type 0 where
    pub low : d ≤ n
    pub long : length marks ≡ most_marks
    pub each : (l : ℕ) → get_or marks l false ≡ some_below (names l) d

  pub marks_start : {n : ℕ} {marks : List Bool} → marks ≡ replicate most_marks false → Marks n 0 marks
  unfolding some_below
  marks_start is =
      record {
        low = omega arith;
        long = rw is (length-replicate most_marks false);
        each = λ l. rw is (same_at most_marks l false);
      }

  module _ {n d : ℕ} {marks : List Bool} (m : Marks n d marks) (h : d < n) where
    -- a door that doesn't name l leaves its mark
    unnamed : (l : ℕ) → names l d ≡ false → get_or marks l false ≡ some_below (names l) (d + 1)
    unfolding or_else
    unnamed l e = m.each l ∙ sym (some_more (names l) d ∙ rest (some_below (names l) d))
      where
        rest : (b : Bool) → or_else b (names l d) ≡ b
        rest true = refl
        rest false = e

    -- a door that names no location is passed
    marks_past : ((l : ℕ) → names l d ≡ false) → Marks n (d + 1) marks
    marks_past none = record { low = omega arith; long = m.long; each = λ l. unnamed l (none l) }

    -- a door that names one location marks it
    marks_on : (at : ℕ) → at < most_marks → names at d ≡ true → ((l : ℕ) → (l ≡ at → ⊥) → names l d ≡ false) → Marks n (d + 1) (set marks at true)
    marks_on at fits here others =
        record {
          low = omega arith;
          long = length-set marks at true ∙ m.long;
          each = λ l. ⊎_elim (named l) (λ ne. get_or-set_other marks at l true false ne ∙ unnamed l (others l ne)) (same_or_not l at);
        }
      where
        named : (l : ℕ) → l ≡ at → get_or (set marks at true) l false ≡ some_below (names l) (d + 1)
        named l is =
            let long = m.long in
            rw is (get_or-set_same marks at true false (omega arith) ∙ sym (some_back (names at) (d + 1) d (omega arith) here))

  pub marks_end : {n d : ℕ} {marks : List Bool} → Marks n d marks → n ≤ d → (l : ℕ) → get_or marks l false ≡ some_below (names l) n
  marks_end {n} {d} m end l = let low = m.low in let is : n ≡ d = omega arith in rw is (m.each l)

-- ---- rule 8

module _ (origin destination exit : List ℕ) where
  -- door d names a location if it leads from there to its exit
  abbrev pub Led : ℕ → ℕ → Bool
  Led l d = joins origin destination l (get_or exit l 0) d

  module _ {n d from to out : ℕ} {marks : List Bool} (m : Marks Led n d marks) (h : d < n) (starts : from ≡ get_or origin d 0)
      (ends : to ≡ get_or destination d 0) (signed : out ≡ get_or exit from 0) where
    pub led_on : out ≡ to → from < most_marks → Marks Led n (d + 1) (set marks from true)
    unfolding joins
    led_on e fits =
        marks_on Led m h from fits
        (and_both _ _ (eq-eqb _ _ (sym starts)) (eq-eqb _ _ (sym ends ∙ (sym e ∙ signed))))
        (λ l ne. not_so _ (λ q. ne (sym (starts ∙ eqb-true _ _ (and_left _ _ q)))))

    pub led_past : (out ≡ to → ⊥) → Marks Led n (d + 1) marks
    unfolding joins
    led_past ne =
        marks_past Led m h
        (λ l. not_so _ (λ q.
        let is : from ≡ l = starts ∙ eqb-true _ _ (and_left _ _ q) in
        ne (signed ∙ (ap (λ x. get_or exit x 0) is ∙ (sym (eqb-true _ _ (and_right (eqb (get_or origin d 0) l) _ q)) ∙ sym ends)))))

-- ---- rule 10

module _ (origin destination : List ℕ) where
  -- door d names the location to which it leads from outside
  abbrev pub Firsts : ℕ → ℕ → Bool
  Firsts l d = joins origin destination 0 l d

  module _ {n d from to : ℕ} {marks : List Bool} (m : Marks Firsts n d marks) (h : d < n) (starts : from ≡ get_or origin d 0)
      (ends : to ≡ get_or destination d 0) where
    pub first_on : from ≡ 0 → to < most_marks → Marks Firsts n (d + 1) (set marks to true)
    unfolding joins
    first_on e fits =
        marks_on Firsts m h to fits (and_both _ _ (eq-eqb _ _ (sym starts ∙ e)) (eq-eqb _ _ (sym ends)))
        (λ l ne. not_so _ (λ q. ne (sym (ends ∙ eqb-true _ _ (and_right (eqb (get_or origin d 0) 0) _ q)))))

    pub first_past : (from ≡ 0 → ⊥) → Marks Firsts n (d + 1) marks
    unfolding joins
    first_past ne = marks_past Firsts m h (λ l. not_so _ (λ q. ne (starts ∙ eqb-true _ _ (and_left _ _ q))))

  -- where a person may be is one of the locations that a site may have
  may_be_near : (right : List Bool) (p l : ℕ) → may_be right p l ≡ true → l < most_locations
  may_be_near right p l e = ⊎_elim (λ h. h) (λ far. clash e (no_right_past right p l far)) (below_or_not l most_locations)

  -- a person has a first location among the marked ones exactly when a door lets them in
  pub no_first_same : (doors : ℕ) (first right : List Bool) → ((l : ℕ) → get_or first l false ≡ some_below (Firsts l) doors)
      → (p : ℕ) → has_no_first first right p ≡ shut_out doors origin destination right p
  unfolding has_no_first shut_out is_first lets_in joins
  no_first_same doors first right marks p = ap not (tell_same (record { yes = by_door; back = by_mark }) (tell_itself _))
    where
      by_door : some_below (is_first first right p) most_locations ≡ true → some_below (lets_in origin destination right p) doors ≡ true
      by_door e =
          let s = some_yes (is_first first right p) most_locations e in
          let l = s.0 in
          let t = some_yes (Firsts l) doors (sym (marks l) ∙ and_left _ _ s.2) in
          let ends : get_or destination t.0 0 ≡ l = eqb-true _ _ (and_right (eqb (get_or origin t.0 0) 0) _ t.2) in
          some_back (lets_in origin destination right p) doors t.0 t.1
          (and_both _ _ (and_left _ _ t.2) (rw ends (and_right (get_or first l false) _ s.2)))

      by_mark : some_below (lets_in origin destination right p) doors ≡ true → some_below (is_first first right p) most_locations ≡ true
      by_mark e =
          let s = some_yes (lets_in origin destination right p) doors e in
          let d = s.0 in
          let may = and_right (eqb (get_or origin d 0) 0) _ s.2 in
          some_back (is_first first right p) most_locations (get_or destination d 0) (may_be_near right p (get_or destination d 0) may)
          (and_both _ _ (marks (get_or destination d 0) ∙ some_back (Firsts (get_or destination d 0)) doors d s.1 (and_both _ _ (and_left _ _ s.2) (eq-eqb (get_or destination d 0) (get_or destination d 0) refl))) may)
