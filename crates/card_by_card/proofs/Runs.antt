-- A real run beside the serving of what it records: each step keeps them together (`kept`), and so does a list (`whole`).
-- The serial record is the real one with its doors cleared. Assumes nothing.
use Prim.Native.Nat.{ℕ, ◌+◌, ◌<◌}
use mathlib.Core.Path.{◌≡◌, refl, sym, ap, subst, ◌∙◌}
use mathlib.Core.Bool.{Bool, true, false}
use mathlib.Core.List.{List, [], ◌∷◌, ◌++◌}
use borrow.Author.Tests.{eqb-true, eqb-false}
use lib.Dec.{eqb, ltb}
use Rattle.tables.specs.Tables.{and_also}
use Rattle.door.specs.declared.Door.{Door}
use Rattle.record.specs.declared.record.Record.{Record}
use Rattle.phases.specs.declared.table.Kind.{Kind}
use Rattle.phases.specs.declared.table.Kind.TheVariants.{Card, Decide, Green, Red, Walk, Tick, Passed, Lapsed, Dark, Ack, Unknown}
use Rattle.phases.specs.declared.answer.Answer.{Answer}
use Rattle.phases.specs.declared.answer.Answer.TheVariants.{Done}
use Rattle.record.specs.declared.steps.Step.{Step}
use Rattle.phases.specs.Answers.{answer_no}
use Rattle.phases.specs.Phase.{read, green, walked, expired, red, keeps, grants}
use Rattle.record.specs.Doors.{door_of, Shaped}
use Rattle.record.specs.Sound.{Sound}
use Rattle.phases.specs.declared.table.StepRow.{StepRow}
use Rattle.phases.specs.Kinds.{allows}
use Rattle.door_does.specs.declared.Does.{Does}
use Rattle.door_does.specs.Does.{effect}
use Rattle.record.specs.Steps.{reason_for, First, held_for, act, refused, doing}
use Rattle.record.specs.Run.{row_of, last_of}
use Rattle.tables.proofs.Cases.{either}
use Rattle.record.proofs.Right.{reason_first, grants_keeps}
use Rattle.record.proofs.Laws.{Allowed, step_cases, act_done, sound_stays, shaped_stays}
use Rattle.run_events.specs.Events.{RunEvent}
use Rattle.run_events.specs.Told.{what_by, seen_of, events_seen}
use Rattle.run_events.proofs.Steps.{not_done}
use Rattle.card_by_card.specs.Serving.{ends_card, recorded, service_of, services}
use Rattle.card_by_card.specs.Served.{Acts, end, then, Decides}
use Rattle.card_by_card.proofs.Cleared.{cleared}
use Rattle.card_by_card.proofs.Serial.{LeadsTo, leads_end, Serves, serves_denial, serves_lapse, serves_passage}
use Rattle.card_by_card.proofs.Cards.{recorded_by, recorded_both}

-- ---- events served one after the other

pub data ServesAll : Record → List RunEvent → Record → Type 0 where
  none : {x : Record} → ServesAll x [] x
  more : {x y z : Record} {e : RunEvent} {es : List RunEvent} → Serves x e y → ServesAll y es z → ServesAll x (e ∷ es) z

pub serves_both : {x y z : Record} {es fs : List RunEvent} → ServesAll x es y → ServesAll y fs z → ServesAll x (es ++ fs) z
serves_both none b = b
serves_both (more s a) b = more s (serves_both a b)

acts_both : {x : Record} {rows more_rows : List StepRow} → Acts x rows → Acts (last_of x rows) more_rows → Acts x (rows ++ more_rows)
unfolding last_of
acts_both end b = b
acts_both (then done a) b = then done (acts_both a b)

pub last_both : (x : Record) (rows more_rows : List StepRow) → last_of x (rows ++ more_rows) ≡ last_of (last_of x rows) more_rows
unfolding last_of
last_both x [] more_rows = refl
last_both x (row ∷ rows) more_rows = last_both (row_of x row).next rows more_rows

pub all_lead : {x y : Record} {es : List RunEvent} → ServesAll x es y → LeadsTo x (services es) y
unfolding services
all_lead {x} none = leads_end x
all_lead {x} (more {e} {es} s on) =
    let rest = all_lead on in
    record {
      acts = acts_both s.leads.acts (subst (λ (y : Record). Acts y (services es)) (sym s.leads.last) rest.acts);
      last = last_both x (service_of e) (services es) ∙ ap (λ (y : Record). last_of y (services es)) s.leads.last ∙ rest.last;
    }

pub all_decide : {x y : Record} {es : List RunEvent} → ServesAll x es y → Decides x es
all_decide none = end
all_decide (more {es} s on) = then s.decides (subst (λ (y : Record). Decides y es) (sym s.leads.last) (all_decide on))

-- ---- one step of the real run

-- what a step that is done records is served from the cleared record before it to the cleared record after it
module _ (n : ℕ) (r : Record) (sh : Shaped r) (s : Sound r) (d : ℕ) (hd : d < r.doors) where
  abbrev c : Door
  c = door_of r d

  abbrev Recorded : Kind → ℕ → Does → Type 0
  Recorded k why x = ServesAll (cleared r) (recorded_by n d c.holder k why (held_for r c.holder why)) (cleared (act r d x).next)

  a_person : keeps c.phase ≡ true → c.holder < r.people
  a_person k = (s.doors d hd).held k

  serves_decide : (p why : ℕ) → c.phase ≡ read → First r d c.holder why → Recorded Decide why (effect Decide p why c)
  unfolding act effect what_by recorded ends_card keeps and_also
  serves_decide p why is first = go (eqb why 0) refl
    where
      go : (t : Bool) → eqb why 0 ≡ t → Recorded Decide why (effect Decide p why c)
      go true e = rw e none
      go false e = rw e (more (serves_denial r sh s d hd c.holder (a_person (rw is)) n why (eqb-false why 0 e) first) none)

  serves_done : (k : Kind) (p : ℕ) → allows k c.phase ≡ true → Recorded k (reason_for r d c.holder) (effect k p (reason_for r d c.holder) c)
  unfolding allows act effect what_by recorded ends_card grants and_also
  serves_done Card p ok = none
  serves_done Decide p ok = serves_decide p (reason_for r d c.holder) (eqb-true _ _ ok) (reason_first r d c.holder)
  serves_done Green p ok = none
  serves_done Red p ok = none
  serves_done Walk p ok = none
  serves_done Tick p ok =
      either (Recorded Tick 0) (eqb c.phase green) (λ _. either (Recorded Tick 0) (ltb 1 c.count) (λ _. none) (λ _. none))
      (λ _. either (Recorded Tick 0) (eqb c.phase red) (λ _. either (Recorded Tick 0) (ltb 1 c.count) (λ _. none) (λ _. none)) (λ _. none))
  serves_done Passed p ok =
      let g : grants c.phase ≡ true = rw (eqb-true c.phase walked ok) in
      more (serves_passage r sh s d hd c.holder (a_person (grants_keeps c.phase g)) n ((s.doors d hd).starts g) ((s.doors d hd).may g)) none
  serves_done Lapsed p ok =
      let g : grants c.phase ≡ true = rw (eqb-true c.phase expired ok) in
      more (serves_lapse r sh s d hd c.holder (a_person (grants_keeps c.phase g)) n ((s.doors d hd).starts g) ((s.doors d hd).may g)) none
  serves_done Dark p ok = none
  serves_done Ack p ok = none
  serves_done Unknown p ok = none

module _ (n : ℕ) (r : Record) (sh : Shaped r) (s : Sound r) (row : StepRow) where
  -- what one step of the real run records, with what it handed back
  abbrev Kept : Step → Type 0
  Kept z = ServesAll (cleared r) (recorded (seen_of n r row z)) (cleared z.next)

  -- a refused step records nothing
  kept_refused : (a : Answer) (ph : ℕ) → (a ≡ Done → ⊥) → Kept (refused r a ph)
  unfolding recorded
  kept_refused a ph no_way = rw (not_done a no_way) none

  kept_done : Allowed r row.kind row.at row.person → Kept (act r row.at (doing r row.kind row.at row.person))
  kept_done w =
      rw (ap (λ (a : Answer). eqb (answer_no a) 0) (act_done r row.at (doing r row.kind row.at row.person)))
      (serves_done n r sh s row.at w.a_door row.kind row.person w.allowed)

  -- any step
  kept : Kept (row_of r row)
  kept = step_cases Kept r row.kind row.at row.person kept_refused kept_done

-- ---- the whole run

-- what the run of a list records, its events seen in the record from row n on
pub whole : (rows : List StepRow) (n : ℕ) (r : Record) → Shaped r → Sound r
    → ServesAll (cleared r) (recorded (events_seen n r rows)) (cleared (last_of r rows))
unfolding last_of events_seen recorded
whole [] n r sh s = none
whole (row ∷ rows) n r sh s =
    rw (recorded_both (seen_of n r row (row_of r row)) (events_seen (n + 1) (row_of r row).next rows))
    (serves_both (kept n r sh s row)
    (whole rows (n + 1) (row_of r row).next (shaped_stays r row.kind row.at row.person sh) (sound_stays r row.kind row.at row.person sh s)))
