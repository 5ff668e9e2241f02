-- Two corollaries of demand 3 in words that a warden can use; what they say is in `specs/Warden.antt`.
--     put-by-passages        no order or lateness of messages puts a person where no recorded passage put them
--     refused-moves-nobody   a refused card moves nobody
-- Each holds for every fresh record and every list of steps. Assumes nothing.
use Prim.Native.Nat.{ℕ, ◌<◌}
use mathlib.Core.Path.{◌≡◌, refl, sym, ap, subst, ◌∙◌}
use mathlib.Core.Bool.{Bool, true, false, cond, false≢true, true≢false}
use mathlib.Core.Logic.{⊎_elim, ◌⊎◌, inl, inr}
use mathlib.Core.List.{List, [], ◌∷◌, ◌++◌}
use native.Mathlib.Omega.{arith}
use lib.ListN.{length, get_or, set, length-set}
use lib.Seq.{get_or-set_same, get_or-set_other}
use Rattle.tables.specs.Tables.{most_people}
use Rattle.record.specs.declared.record.Record.{Record}
use Rattle.phases.specs.declared.table.Kind.{Kind}
use Rattle.phases.specs.declared.table.Kind.TheVariants.{Card, Decide, Passed}
use Rattle.record.specs.Run.{last_of}
use Rattle.phases.specs.declared.table.StepRow.{StepRow}
use Rattle.tables.proofs.Cases.{same_or_not}
use Rattle.record.proofs.Laws.{places_stay}
use Rattle.run_events.specs.Events.{What, Grant, Denial, Passage, Lapse, RunEvent}
use Rattle.card_by_card.specs.Serving.{recorded_in}
use Rattle.card_by_card.specs.Served.{Fresh}
use Rattle.card_by_card.specs.Warden.{is_passage, places_by, NoPassage, end, then, StandsBy, never, last, PutByPassages, Struck, no_more, keep, strike, RefusedMovesNobody}
use Rattle.tables.proofs.Zero.{zeros_at}
use Rattle.card_by_card.proofs.Serial.{placed, Serves}
use Rattle.card_by_card.proofs.Runs.{ServesAll, none, more, serves_both, all_lead, all_decide, last_both}
use Rattle.card_by_card.proofs.DemandThree.{all_served}

-- ---- places by recorded passages

-- services one after the other leave everyone where the passages among them put them
all_moved : {x y : Record} {es : List RunEvent} → ServesAll x es y → y.place ≡ places_by x.destination x.place es
unfolding places_by
all_moved none = refl
all_moved (more {es} s on) = all_moved on ∙ rw (ap (λ (y : Record). y.destination) s.rest, s.moved)

passage : (e : What) → is_passage e ≡ true → e ≡ Passage
unfolding is_passage
passage Grant is = absurd (false≢true is)
passage (Denial why held) is = absurd (false≢true is)
passage Passage is = refl
passage Lapse is = absurd (false≢true is)

no_passage : (e : What) → is_passage e ≡ false → e ≡ Passage → ⊥
unfolding is_passage
no_passage e is_not is = true≢false (sym (ap is_passage is) ∙ is_not)

-- a passage later in the list decides; where there is none, what the first event left
stands_on : {destination : List ℕ} {p start from n : ℕ} {e : RunEvent} {es : List RunEvent} → StandsBy destination p from es n
    → (NoPassage p es → StandsBy destination p start (e ∷ es) from) → StandsBy destination p start (e ∷ es) n
stands_on (never free) first = first free
stands_on {e} (last before after e' split is person free) first =
    last (e ∷ before) after e' (ap (λ (l : List RunEvent). e ∷ l) split) is person free

-- one person's place by the list of everyone's
stands : (destination : List ℕ) (p : ℕ) (es : List RunEvent) (place : List ℕ) → p < length place
    → StandsBy destination p (get_or place p 0) es (get_or (places_by destination place es) p 0)
unfolding places_by
stands destination p [] place h = never end
stands destination p (e ∷ es) place h =
    let l = get_or destination e.at 0 in
    go l refl (is_passage e.what) refl (stands destination p es (set place e.person l) (rw length-set h)) (stands destination p es place h)
  where
    go : (l : ℕ) → l ≡ get_or destination e.at 0 → (b : Bool) → is_passage e.what ≡ b
        → StandsBy destination p (get_or (set place e.person l) p 0) es (get_or (places_by destination (set place e.person l) es) p 0)
        → StandsBy destination p (get_or place p 0) es (get_or (places_by destination place es) p 0)
        → StandsBy destination p (get_or place p 0) (e ∷ es) (get_or (places_by destination (cond b (set place e.person l) place) es) p 0)
    go l to true is moved still =
        stands_on moved
        (λ free.
        ⊎_elim
        (λ (same : p ≡ e.person).
        rw (same, get_or-set_same place e.person l 0 (rw same at h), to) (last [] es e refl (passage e.what is) refl (rw same at free)))
        (λ other. rw (get_or-set_other place e.person p l 0 other) (never (then (λ _ same. other (sym same)) free)))
        (same_or_not p e.person))
    go l to false is_not moved still = stands_on still (λ free. never (then (λ is _. no_passage e.what is_not is) free))

-- "No order or lateness of messages puts a person where no recorded passage put them."
pub put_by_passages : (r : Record) → Fresh r → (rows : List StepRow) → PutByPassages r rows
put_by_passages r f rows =
    let places : (last_of r rows).place ≡ places_by r.destination r.place (recorded_in r rows) = all_moved (all_served r f rows) in
    let outside : (p : ℕ) → get_or r.place p 0 ≡ 0 = λ p. ap (λ (x : Record). get_or x.place p 0) f.fresh ∙ zeros_at most_people p in
    record {
      places = places;
      each = λ p h.
          let most = f.sound.tables.in_range.people_to in
          rw places
          (subst (λ (l : ℕ). StandsBy r.destination p l (recorded_in r rows) (get_or (places_by r.destination r.place (recorded_in r rows)) p 0)) (outside p)
          (stands r.destination p (recorded_in r rows) r.place (omega arith)));
    }

-- ---- refused cards

-- the records before and after one service of many
served_at_lem : {x z : Record} (before : List RunEvent) (e : RunEvent) (after : List RunEvent) → ServesAll x (before ++ (e ∷ after)) z
    → (y : Record) × (y' : Record) × ServesAll x before y × Serves y e y'
served_at_lem {x} [] e after (more {y} s on) = (x, y, none, s)
served_at_lem (b ∷ before) e after (more s on) = let at = served_at_lem before e after on in (at.0, at.1, more s at.2, at.3)

-- a refusal among the events moves nobody
refusal_still : (destination place : List ℕ) (e : RunEvent) (es : List RunEvent) (why held : ℕ) → e.what ≡ Denial why held
    → places_by destination place (e ∷ es) ≡ places_by destination place es
unfolding places_by is_passage
refusal_still destination place e es why held is = rw is

-- and its service alters nothing, so that the others are served without it
denial_still : {x y : Record} {e : RunEvent} → Serves x e y → (why held : ℕ) → e.what ≡ Denial why held → y ≡ x
unfolding places_by
denial_still {x} {e} s why held is = s.rest ∙ ap (placed x) (s.moved ∙ refusal_still x.destination x.place e [] why held is)

struck_served : {x z : Record} {es left : List RunEvent} → ServesAll x es z → Struck es left → ServesAll x left z
struck_served none no_more = none
struck_served (more s on) (keep struck) = more s (struck_served on struck)
struck_served {z} {left} (more s on) (strike why held is struck) = subst (λ (y : Record). ServesAll y left z) (denial_still s why held is) (struck_served on struck)

moves_nobody : (k : Kind) → (k ≡ Decide) ⊎ (k ≡ Card) → k ≡ Passed → ⊥
moves_nobody k (inl e) is = let z : ◌≡◌ {A = ℕ} 0 1 = cc in omega arith
moves_nobody k (inr e) is = let z : ◌≡◌ {A = ℕ} 0 1 = cc in omega arith

-- "A refused card moves nobody."
pub refused_moves_nobody : (r : Record) → Fresh r → (rows : List StepRow) → RefusedMovesNobody r rows
unfolding last_of places_by
refused_moves_nobody r f rows =
    record {
      in_the_run = λ before after row _ kind.
          ap (λ (x : Record). x.place) (last_both r before (row ∷ []))
          ∙ places_stay (last_of r before) row.kind row.at row.person (moves_nobody row.kind kind);
      in_the_serving = λ before after e why held split is.
          let at = served_at_lem before e after (rw split at (all_served r f rows)) in
          ap (λ (x : Record). x.place) (all_lead (serves_both at.2 (more at.3 none))).last
          ∙ (at.3.moved ∙ refusal_still at.0.destination at.0.place e [] why held is)
          ∙ ap (λ (x : Record). x.place) (sym (all_lead at.2).last);
      struck_out = λ events struck.
          let served = struck_served (all_served r f rows) struck in
          record { acts = (all_lead served).acts; decides = all_decide served; places = ap (λ (x : Record). x.place) (all_lead served).last };
    }
