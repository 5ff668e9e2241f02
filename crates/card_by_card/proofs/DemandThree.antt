-- Demand 3: served one after the other, what was recorded acts, is decided as it was, and leaves everyone where they are. What it
-- says is in `specs/Served.antt`; what is recorded and how it is served in `specs/Serving.antt`. Assumes nothing.
use Prim.Native.Nat.{ℕ}
use mathlib.Core.Path.{◌≡◌, refl, sym, ap, subst, ◌∙◌}
use mathlib.Core.List.{List, [], ◌++◌}
use Rattle.record.specs.declared.record.Record.{Record}
use Rattle.tables.specs.Tables.{most_people}
use Rattle.door.specs.Door.{free_door}
use Rattle.record.specs.Doors.{plan_of, door_of}
use Rattle.tables.specs.Zero.{zeros}
use Rattle.record.specs.Run.{last_of}
use Rattle.phases.specs.declared.table.StepRow.{StepRow}
use Rattle.run_events.specs.Lines.{Line, heard_of}
use Rattle.run_events.specs.Events.{RunEvent, no_spells, spells_in}
use Rattle.run_events.specs.Told.{Standing, Free, standing, standing_at, TellsTruly}
use Rattle.run_events.proofs.Theorems.{fresh_agree, fresh_truly}
use Rattle.run_events.proofs.Open.{fresh_names}
use Rattle.card_by_card.specs.Serving.{recorded_in}
use Rattle.card_by_card.specs.Served.{Fresh, DemandThree, done_at, events_at, taken_by, person_of, open_of, decision_by, grant_open}
use Rattle.card_by_card.proofs.Cleared.{clear, cleared, clear_free}
use Rattle.card_by_card.proofs.Runs.{ServesAll, all_lead, all_decide, whole}
use Rattle.card_by_card.proofs.Cards.{Fair, whole_account, decision_ends, persons_fair, decisions_fair}
use Rattle.card_by_card.proofs.Decided.{alike_both, alike_open, alike_served}

-- a fresh record is its own cleared record, and every door is free
fresh_clear : (r : Record) → Fresh r → cleared r ≡ r
fresh_clear r f = ap (λ (x : Record). clear (plan_of r) r.right x.place) f.fresh ∙ sym f.fresh

fresh_free : (r : Record) → Fresh r → (d : ℕ) → door_of r d ≡ free_door
fresh_free r f d = ap (λ (x : Record). door_of x d) f.fresh ∙ clear_free (plan_of r) r.right (zeros most_people) d

truly : (r : Record) → Fresh r → (rows : List StepRow) → TellsTruly no_spells 1 r rows
truly r f rows = fresh_truly r f.shaped f.sound (fresh_free r f) rows

-- what was recorded is served from the fresh record to the real one with its doors cleared
pub all_served : (r : Record) → Fresh r → (rows : List StepRow) → ServesAll r (recorded_in r rows) (cleared (last_of r rows))
all_served r f rows =
    subst (λ (x : Record). ServesAll x (recorded_in r rows) (cleared (last_of r rows))) (fresh_clear r f)
    (rw (truly r f rows).events (whole rows 1 r f.shaped f.sound))

-- an account of a door that has nothing open at first: what its lines say, its events say and what is open at the end
counted : {A : Type 0} (say : Line → List A) (ends : RunEvent → List A) (left : Standing → List A) → Fair say ends left → left Free ≡ []
    → (r : Record) → Fresh r → (rows : List StepRow) (d : ℕ)
    → done_at say d (heard_of r rows) ≡ events_at ends d (recorded_in r rows) ++ left (standing (spells_in r rows d))
counted {A} say ends left fair nothing r f rows d =
    let shut : left (standing_at (door_of r d)) ≡ [] = ap left (sym ((fresh_agree r (fresh_free r f)).each d)) ∙ nothing in
    rw ((truly r f rows).agree.each d, (truly r f rows).events)
    (ap (λ (l : List A). l ++ done_at say d (heard_of r rows)) (sym shut) ∙ whole_account say ends left fair rows 1 r f.shaped f.sound d)

-- Demand 3, for every fresh record and every list of steps
pub demand_3 : (r : Record) → Fresh r → (rows : List StepRow) → DemandThree r rows
unfolding open_of grant_open
demand_3 r f rows =
    let led = all_lead (all_served r f rows) in
    let told = truly r f rows in
    record {
      acts = led.acts;
      decides = all_decide (all_served r f rows);
      all_free = λ d. ap (λ (x : Record). door_of x d) led.last ∙ clear_free (plan_of (last_of r rows)) (last_of r rows).right (last_of r rows).place d;
      places = ap (λ (x : Record). x.place) led.last;
      told = told;
      held_open = fresh_names r f.shaped f.sound (fresh_free r f) rows;
      open_at_end = told.agree.each;
      unserved = λ d. counted taken_by person_of open_of persons_fair refl r f rows d;
      decided = λ d.
          rw (counted decision_by decision_ends grant_open decisions_fair refl r f rows d)
          (alike_both (alike_served d (all_served r f rows)) (alike_open (standing (spells_in r rows d))));
    }
