-- A walk over the doors: what is marked, and what is known of the doors that it has passed. Assumes nothing.
--     so-far-start, so-far-past, so-far-on, so-far-beyond    a walk begins, and goes on past a door
--     so-far-twice, so-far-end                               it ends where a person is met again, or after the last door
--     cleared-start, cleared_more, cleared-all                  what several walks tell together
use Prim.Native.Nat.{ℕ, ◌+◌, ◌-◌, ◌≤◌, ◌<◌}
use mathlib.Core.Path.{◌≡◌, refl, sym, subst, ◌∙◌}
use mathlib.Core.Bool.{Bool, true, false, not, cond}
use mathlib.Core.List.{List}
use mathlib.Core.Logic.{⊎_elim}
use native.Mathlib.Nat.{not-suc-le-zero}
use native.Mathlib.Omega.{arith}
use borrow.Author.Tests.{leb-true, le-leb, leb-false}
use lib.ListN.{length, get_or, set, replicate, length-set, length-replicate, get_or-eq_default}
use lib.Seq.{get_or-set_same, get_or-set_other}
use borrow.Author.Count.{below_more}
use lib.Dec.{leb}
use Rattle.tables.specs.Tables.{or_else, most_people}
use Rattle.tables.proofs.Laws.{clash, not_so, and_left, and_right, and_both, or_right, all_yes, all_back}
use Rattle.tables.proofs.Zero.{same_at}
use Rattle.tables.proofs.Cases.{below_or_not, same_or_not}
use Rattle.phases.specs.Phase.{grants}
use Rattle.granting.specs.Grants.{GrantAt, has_grant}
use Rattle.granting.proofs.Granting.{no_grant, has_grant_lem, none_found, one_found}
use Rattle.sole_grants.specs.Sole.{sole_grant, sole_grants}
use Rattle.sole_grants.specs.Marks.{is_marked, with_mark, most_holder, WalkTells}
use Rattle.sole_grants.specs.declared.Walked.{Walked}
use Rattle.sole_grants.specs.declared.Walked.TheVariants.{Twice, Sole, Beyond}

module _ (phase holder : List ℕ) where
  -- a door that holds no grant of a person gives them none
  same_more : (d q : ℕ) → (GrantAt (d + 1) phase holder q d → ⊥) → has_grant (d + 1) phase holder q ≡ has_grant d phase holder q
  same_more d q no_way = go (has_grant d phase holder q) refl
    where
      here : (k : ℕ) → d ≤ k → GrantAt (d + 1) phase holder q k → ⊥
      here k low g = let h = g.exists in let same : k ≡ d = omega arith in no_way (subst (GrantAt (d + 1) phase holder q) same g)

      go : (b : Bool) → has_grant d phase holder q ≡ b → has_grant (d + 1) phase holder q ≡ b
      go true e =
          let g = has_grant_lem d phase holder q e in
          let h = g.1.exists in
          one_found (d + 1) phase holder q g.0 (record { exists = omega arith; holds = g.1.holds; person = g.1.person })
      go false e =
          none_found (d + 1) phase holder q
          (λ k g.
          ⊎_elim (λ h. no_grant d phase holder q e k (record { exists = h; holds = g.holds; person = g.person }))
          (λ low. here k low g) (below_or_not k d))

  -- a door without a grant, and one whose person has none before, is no second grant
  no_second : (d : ℕ) → grants (get_or phase d 0) ≡ false → sole_grant phase holder d ≡ true
  unfolding sole_grant or_else
  no_second d e = rw e

  first_one : (d : ℕ) → has_grant d phase holder (get_or holder d 0) ≡ false → sole_grant phase holder d ≡ true
  unfolding sole_grant
  first_one d e = rw e (or_right (not (grants (get_or phase d 0))) true refl)

  second_one : (d : ℕ) → grants (get_or phase d 0) ≡ true → has_grant d phase holder (get_or holder d 0) ≡ true → sole_grant phase holder d ≡ false
  unfolding sole_grant or_else
  second_one d e f = rw (e, f)

  -- one second grant is enough
  not_sole : (doors d : ℕ) → d < doors → sole_grant phase holder d ≡ false → sole_grants doors phase holder ≡ false
  unfolding sole_grants
  not_sole doors d h e = not_so _ (λ all. clash (all_yes (sole_grant phase holder) doors all d h) e)

  module _ (from : ℕ) where
    -- before door d every person who has a mark is marked if they have a grant, and nobody else
    pub record Marked (d : ℕ) (met : List Bool) : Type 0 where
      pub long : length met ≡ most_people
      pub each : (i : ℕ) → i < most_people → get_or met i false ≡ has_grant d phase holder (from + i)

    -- what is told so far of the people beyond the marks
    abbrev pub BeyondTold : ℕ → Walked → Type 0
    BeyondTold d Twice = ⊥
    BeyondTold d Sole = (e : ℕ) → e < d → from + most_people ≤ get_or holder e 0 → sole_grant phase holder e ≡ true
    BeyondTold d Beyond = from + most_people ≤ most_holder

    -- the walk has come to door d
    pub record WalkSoFar (doors : ℕ) (met : List Bool) (told : Walked) (d : ℕ) : Type 0 where
      pub low : d ≤ doors
      pub marked : Marked d met
      pub sole : (e : ℕ) → e < d → from ≤ get_or holder e 0 → get_or holder e 0 < from + most_people → sole_grant phase holder e ≡ true
      pub beyond : BeyondTold d told

    pub so_far_start : {doors : ℕ} {met : List Bool} → met ≡ replicate most_people false → WalkSoFar doors met Sole 0
    so_far_start is =
        record {
          low = omega arith;
          marked =
              record {
                long = rw is (length-replicate most_people false);
                each = λ i h. rw is (same_at most_people i false ∙ sym (none_found 0 phase holder (from + i) (λ k g. not-suc-le-zero g.exists)));
              };
          sole = λ e h. absurd (not-suc-le-zero h);
          beyond = λ e h. absurd (not-suc-le-zero h);
        }

    -- what was told beyond the marks stays told where the next door is no second grant there
    beyond_more : (d : ℕ) (told : Walked) → BeyondTold d told → (from + most_people ≤ get_or holder d 0 → sole_grant phase holder d ≡ true) → BeyondTold (d + 1) told
    beyond_more d Twice b here = b
    beyond_more d Sole b here = below_more (λ e. from + most_people ≤ get_or holder e 0 → sole_grant phase holder e ≡ true) d b here
    beyond_more d Beyond b here = b

    -- the walk goes on to the next door
    so_far_next : {doors d : ℕ} {met next : List Bool} {told now : Walked} → WalkSoFar doors met told d → d < doors → Marked (d + 1) next
        → (from ≤ get_or holder d 0 → get_or holder d 0 < from + most_people → sole_grant phase holder d ≡ true) → BeyondTold (d + 1) now
        → WalkSoFar doors next now (d + 1)
    so_far_next {doors} {d} s h marked here beyond =
        record {
          low = omega arith;
          marked = marked;
          sole = below_more (λ e. from ≤ get_or holder e 0 → get_or holder e 0 < from + most_people → sole_grant phase holder e ≡ true) d s.sole here;
          beyond = beyond;
        }

    -- past a door without a grant
    pub so_far_past : {doors d : ℕ} {met : List Bool} {told : Walked} → WalkSoFar doors met told d → d < doors → grants (get_or phase d 0) ≡ false
        → WalkSoFar doors met told (d + 1)
    so_far_past {doors} {d} {met} {told} s h free =
        so_far_next s h
        (record {
          long = s.marked.long;
          each = λ i k. s.marked.each i k ∙ sym (same_more d (from + i) (λ g. clash g.holds free));
        })
        (λ _ _. no_second d free)
        (beyond_more d told s.beyond (λ _. no_second d free))

    -- a person who has a mark has it at their number less the first
    marked_is : {d p : ℕ} {met : List Bool} → Marked d met → from ≤ p → p < from + most_people → get_or met (p - from) false ≡ has_grant d phase holder p
    marked_is {d} {p} {met} m low high =
        let is : from + (p - from) ≡ p = omega arith in
        let e = m.each (p - from) (omega arith) in
        subst (λ q. get_or met (p - from) false ≡ has_grant d phase holder q) is e

    -- a person met again has a second grant
    met_again : {d : ℕ} {met : List Bool} → Marked d met → grants (get_or phase d 0) ≡ true → is_marked met from (get_or holder d 0) ≡ true
        → sole_grant phase holder d ≡ false
    unfolding is_marked
    met_again {d} {met} m g again =
        let low = leb-true from (get_or holder d 0) (and_left _ _ again) in
        let mark = and_right (leb from (get_or holder d 0)) _ again in
        ⊎_elim
        (λ near. second_one d g (sym (marked_is m low near) ∙ mark))
        (λ far. let long = m.long in clash mark (get_or-eq_default met false (omega arith)))
        (below_or_not (get_or holder d 0) (from + most_people))

    -- the person of a grant, met for the first time, is marked
    mark_one : {d : ℕ} {met : List Bool} → Marked d met → grants (get_or phase d 0) ≡ true → Marked (d + 1) (with_mark met from (get_or holder d 0))
    unfolding with_mark
    mark_one {d} {met} m g = go (leb from (get_or holder d 0)) refl
      where
        other : (i : ℕ) → (get_or holder d 0 ≡ from + i → ⊥) → has_grant (d + 1) phase holder (from + i) ≡ has_grant d phase holder (from + i)
        other i ne = same_more d (from + i) (λ o. ne o.person)

        set_one : (i : ℕ) → from ≤ get_or holder d 0 → i < most_people
            → get_or (set met (get_or holder d 0 - from) true) i false ≡ has_grant (d + 1) phase holder (from + i)
        set_one i low h =
            ⊎_elim
            (λ is. let long = m.long in
            let at : i ≡ get_or holder d 0 - from = omega arith in
            rw at (get_or-set_same met (get_or holder d 0 - from) true false (omega arith) ∙ sym (one_found (d + 1) phase holder (from + (get_or holder d 0 - from)) d (record { exists = omega arith; holds = g; person = omega arith }))))
            (λ ne. get_or-set_other met (get_or holder d 0 - from) i true false (λ is. ne (omega arith)) ∙ (m.each i h ∙ sym (other i ne)))
            (same_or_not (get_or holder d 0) (from + i))

        go : (b : Bool) → leb from (get_or holder d 0) ≡ b → Marked (d + 1) (cond b (set met (get_or holder d 0 - from) true) met)
        go true e =
            let low = leb-true from (get_or holder d 0) e in
            record { long = length-set met (get_or holder d 0 - from) true ∙ m.long; each = λ i h. set_one i low h }
        go false e =
            let high = leb-false from (get_or holder d 0) e in
            record { long = m.long; each = λ i h. m.each i h ∙ sym (other i (λ is. omega arith)) }

    -- a person who has a mark that isn't set had no grant before
    first_met : {d : ℕ} {met : List Bool} → Marked d met → is_marked met from (get_or holder d 0) ≡ false → from ≤ get_or holder d 0 → get_or holder d 0 < from + most_people
        → sole_grant phase holder d ≡ true
    unfolding is_marked
    first_met {d} {met} m new low high =
        let unmarked = not_so (get_or met (get_or holder d 0 - from) false) (λ e. clash (and_both _ _ (le-leb from (get_or holder d 0) low) e) new) in
        first_one d (sym (marked_is m low high) ∙ unmarked)

    -- at a grant: p is the person, as the code reads them, and `again` what their mark told
    module _ {doors d p : ℕ} {met : List Bool} {told : Walked} {again : Bool} (s : WalkSoFar doors met told d) (h : d < doors)
        (g : grants (get_or phase d 0) ≡ true) (is : p ≡ get_or holder d 0) (tells : again ≡ is_marked met from p) where
      mark_told : {b : Bool} → again ≡ b → is_marked met from (get_or holder d 0) ≡ b
      mark_told e = rw (← is) (sym tells ∙ e)

      -- a person met again ends the walk
      pub so_far_twice : again ≡ true → sole_grants doors phase holder ≡ false
      so_far_twice e = not_sole doors d h (met_again s.marked g (mark_told e))

      module _ {next : List Bool} (marks : next ≡ with_mark met from p) (new : again ≡ false) where
        marked_next : Marked (d + 1) next
        marked_next = rw (marks, is) (mark_one s.marked g)

        -- a person beyond the marks is told of from then on
        pub so_far_beyond : from + most_people ≤ p → p ≤ most_holder → WalkSoFar doors next Beyond (d + 1)
        so_far_beyond far most = so_far_next s h marked_next (first_met s.marked (mark_told new)) (omega arith)

        -- and the walk goes past everybody else whom it meets for the first time
        pub so_far_on : p < from + most_people → WalkSoFar doors next told (d + 1)
        so_far_on near =
            so_far_next s h marked_next (first_met s.marked (mark_told new)) (beyond_more d told s.beyond (λ far. absurd (omega arith)))

    pub so_far_end : {doors d : ℕ} {met : List Bool} {told : Walked} → WalkSoFar doors met told d → doors ≤ d → WalkTells from doors phase holder told
    so_far_end {doors} {d} {met} {told} s end = go told s.beyond
      where
        go : (t : Walked) → BeyondTold d t → WalkTells from doors phase holder t
        go Twice b = absurd b
        go Sole b = λ e h low. ⊎_elim (λ near. s.sole e (omega arith) low near) (λ far. b e (omega arith) far) (below_or_not (get_or holder e 0) (from + most_people))
        go Beyond b = (λ e h low near. s.sole e (omega arith) low near, b)

  -- the walks so far had marks for everybody below `from`
  pub record Cleared (doors from : ℕ) : Type 0 where
    pub within : from ≤ most_holder
    pub sole : (d : ℕ) → d < doors → get_or holder d 0 < from → sole_grant phase holder d ≡ true

  pub cleared_start : {doors : ℕ} → Cleared doors 0
  cleared_start = record { within = omega arith; sole = λ d h none. absurd (not-suc-le-zero none) }

  pub cleared_all : {doors from : ℕ} → Cleared doors from → WalkTells from doors phase holder Sole → sole_grants doors phase holder ≡ true
  unfolding sole_grants
  cleared_all {doors} {from} b t =
      all_back (sole_grant phase holder) doors (λ d h. ⊎_elim (λ low. b.sole d h low) (λ high. t d h high) (below_or_not (get_or holder d 0) from))

  pub cleared_more : {doors from : ℕ} → Cleared doors from → WalkTells from doors phase holder Beyond → Cleared doors (from + most_people)
  cleared_more {doors} {from} b t =
      record {
        within = t.1;
        sole = λ d h near. ⊎_elim (λ low. b.sole d h low) (λ high. t.0 d h high near) (below_or_not (get_or holder d 0) from);
      }
