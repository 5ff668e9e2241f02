-- The theorems about the panel and the chapter, by name. A record is shaped (its lists are as long as its arrays) and sound.
-- `constants_of r` are the chapter's constants in its tables, `state_of r` is its reading as a state of the fourth refinement.
--     fresh-reads                                     the fresh record reads as the initial state
--     step-acts, step_follows, tick-skips,            each step acts exactly when it may, and does what its event does
--     refusal-alters-nothing, stands-for-one, uneventful-stands-for-none
--     again-refused                                   the one place where the panel is stricter than the chapter
--     denial-first                                    the reason told is the first conjunct that fails, and the door is dap(p)
--     constants-obey, invariants-hold                 every axiom and every invariant holds of every sound record
--     the-chapter                                     each machine keeps its invariants and refines the one before, and pass happens
--                                                     no less often in the second refinement than in the first
--     starts-each                                     the initial state reads as that of each machine before
--     panel-runs                                      a run of the panel is row by row a run of each machine, down to the initial model
--     one-move-a-row                                  the event that a row stands for, or that it is nothing, is one alone
--     nobody-astray                                   FUN-3
--     nobody-blocked, nobody-confined, led-outside    SAF-1 to SAF-3
--     pass-goes-on                                    the first refinement never comes to a halt
--     everybody-gets-in                               axm1-7
--     open-for-one                                    FUN-4: a turnstile is open for one accepted person and else blocked
--     one-light                                       EQP-3: no door has both its lights on
--     no-door-stuck                                   at each door some event is enabled and some step acts
-- Assumes nothing.
use Prim.Native.Nat.{ℕ}
use mathlib.Core.Path.{◌≡◌, subst}
use mathlib.Core.Bool.{Bool}
use mathlib.Core.Logic.{◌⊎◌, inl, ⊎_elim, ◌↔◌}
use mathlib.Core.List.{List}
use lib.ListN.{get_or}
use Rattle.tables.specs.Way.{way_of}
use Rattle.record.specs.declared.record.Record.{Record}
use Rattle.phases.specs.declared.table.Kind.{Kind}
use Rattle.phases.specs.declared.table.Kind.TheVariants.{Decide}
use Rattle.phases.specs.declared.answer.Answer.TheVariants.{Done}
use Rattle.tables.specs.Tables.{Plan}
use Rattle.record.specs.Doors.{fresh_record, Shaped}
use Rattle.record.specs.Sound.{Sound}
use Rattle.record.specs.Steps.{step_of}
use Rattle.record.specs.Run.{last_of}
use Rattle.phases.specs.declared.table.StepRow.{StepRow}
use Rattle.record.proofs.Laws.{refused_stays}
use Rattle.machines.specs.Context.{Constants, Axioms, SAF-1, SAF-2, SAF-3, Leads}
use Rattle.machines.specs.Machines.{State, Same}
use Rattle.chapter.specs.Whole.{Chapter}
use Rattle.machines.specs.M0 as m0
use Rattle.machines.specs.M1 as m1
use Rattle.machines.specs.M3.{dap}
use Rattle.machines.specs.M4 as m4
use Rattle.chapter.specs.Reading.{constants_of, state_of, state_of3, state_of2, state_of1, StandsFor, LitAlready, MayAct, Uneventful, FirstFailing}
use Rattle.chapter.specs.Panel.{StartOfEach, OrderedAgain, OneMove, RunOfEach, EQP-3, Live}
use Rattle.machines.proofs.Safety.{saf_1, saf_2}
use Rattle.chapter.proofs.Site.{axioms, saf_3, way_leads}
use Rattle.chapter.proofs.Steps.{follows, ordered_again, enabled, uneventful_done}
use Rattle.chapter.proofs.Stands.{stands_once, uneventful_stands, live, fresh_starts, first_failing}
use Rattle.machines.proofs.Refine as refine
use Rattle.chapter.proofs.Panel as panel

-- ---- steps and events

-- The fresh record reads as the initial state: "Initially, everyone is outside", no light is lit, no reader is blocked and no
-- message is under way.
pub fresh_reads : (site : Plan) (right : List Bool) → m4.Start (constants_of (fresh_record site right)) (state_of (fresh_record site right))
fresh_reads = fresh_starts

-- A step is done exactly when it may act (its event is enabled, and the light that it orders isn't burning already), or it is a tick that
-- stands for nothing.
pub step_acts : (r : Record) → Shaped r → Sound r → (k : Kind) (d p : ℕ) → ((step_of r k d p).answer ≡ Done) ↔ (MayAct r k d p ⊎ Uneventful r k d)
step_acts r sh s k d p =
    (enabled r sh s d p k, ⊎_elim (λ may. let e = may.enabled in (follows r sh s d p k e.event e.stands e.guard may.unlit).0) (uneventful_done r sh s d p k))

-- And where it is done and its event is enabled, the next record reads as the state after the event's action.
pub step_follows : (r : Record) → Shaped r → Sound r → (k : Kind) (d p : ℕ) (e : m4.Event) → (step_of r k d p).answer ≡ Done → StandsFor r d p k e
    → m4.Guard (constants_of r) (state_of r) e → Same (state_of (step_of r k d p).next) (m4.action (constants_of r) (state_of r) e)
step_follows r sh s k d p e done stands guard =
    ⊎_elim (λ may. (follows r sh s d p k e stands guard may.unlit).1) (λ i. absurd (uneventful_stands r k d p e i stands)) (enabled r sh s d p k done)

-- An order for a light that is burning already is refused and alters nothing, though its event is enabled, which would alter nothing either.
pub again_refused : (r : Record) → Shaped r → Sound r → (k : Kind) (d p : ℕ) → LitAlready (state_of r) d k → OrderedAgain r k d p
again_refused r sh s k d p = ordered_again r sh s d p k

-- A tick that stands for nothing alters nothing of the reading.
pub tick_skips : (r : Record) → Shaped r → Sound r → (k : Kind) (d p : ℕ) → Uneventful r k d → Same (state_of (step_of r k d p).next) (state_of r)
tick_skips r sh s k d p i = panel.tick_same r k d p sh s i

-- A step that isn't done alters nothing at all.
pub refusal_alters_nothing : (r : Record) (k : Kind) (d p : ℕ) → ((step_of r k d p).answer ≡ Done → ⊥) → (step_of r k d p).next ≡ r
refusal_alters_nothing = refused_stays

-- A step stands for at most one event that is enabled ..
pub stands_for_one : (r : Record) (k : Kind) (d p : ℕ) (e f : m4.Event) → StandsFor r d p k e → m4.Guard (constants_of r) (state_of r) e
    → StandsFor r d p k f → m4.Guard (constants_of r) (state_of r) f → e ≡ f
stands_for_one = stands_once

-- .. and a tick that is no event for none.
pub uneventful_stands_for_none : (r : Record) (k : Kind) (d p : ℕ) (e : m4.Event) → Uneventful r k d → StandsFor r d p k e → ⊥
uneventful_stands_for_none = uneventful_stands

-- What `decide` tells is the first of accept's three guards that fails for the card's person, and 0 where none does; with reason 3, dap(p).
pub denial_first : (r : Record) → Sound r → (d p : ℕ) → (step_of r Decide d p).answer ≡ Done
    → FirstFailing (constants_of r) (state_of r) (get_or r.holder d 0) d (step_of r Decide d p).reason (step_of r Decide d p).held
denial_first = first_failing

-- ---- axioms, invariants, refinements

-- The tables of a sound record obey axm0-1 to axm2-3.
pub constants_obey : (r : Record) → Sound r → Axioms (constants_of r)
constants_obey = axioms

-- Every invariant, inv0-1 to inv4-7, holds of a sound record's reading.
pub invariants_hold : (r : Record) → Sound r → m4.All (constants_of r) (state_of r)
invariants_hold = panel.all_of

-- Whatever the constants that obey the axioms: each machine keeps its invariants, and refines the one before.
pub the_chapter : (c : Constants) → Axioms c → Chapter c
the_chapter c ax =
    record {
      M0-keeps = refine.M0-keeps c ax;
      M1-keeps = refine.M1-keeps c ax;
      M2-keeps = refine.M2-keeps c ax;
      M3-keeps = refine.M3-keeps c ax;
      M4-keeps = refine.M4-keeps c ax;
      M1-refines-M0 = refine.M1-refines-M0 c ax;
      M2-refines-M1 = refine.M2-refines-M1 c ax;
      M3-refines-M2 = refine.M3-refines-M2 c ax;
      M4-refines-M3 = refine.M4-refines-M3 c ax;
      pass_not_less_often = refine.pass_not_less_often c ax;
    }

-- A record that reads as the initial state of the fourth refinement reads as that of each machine before.
pub starts_each : (r : Record) → Sound r → m4.Start (constants_of r) (state_of r) → StartOfEach r
starts_each r s fourth =
    let ax = axioms r s in
    let third = (refine.M4-refines-M3 _ ax).starts (state_of r) fourth in
    let second = (refine.M3-refines-M2 _ ax).starts (state_of3 r) third in
    let first = (refine.M2-refines-M1 _ ax).starts (state_of2 r) second in
    record { fourth = fourth; third = third; second = second; first = first; initial = (refine.M1-refines-M0 _ ax).starts (state_of1 r) first }

-- Any list of steps, done or refused, is row by row a run of each machine: the row's event, or nothing.
pub panel_runs : (r : Record) → Shaped r → Sound r → (rows : List StepRow) → RunOfEach (constants_of r) r rows
panel_runs r sh s rows = panel.runs r rows sh s

-- No row is two moves.
pub one_move_a_row : (r : Record) (row : StepRow) → OneMove r row
one_move_a_row = panel.only_move

-- ---- safety

-- FUN-3: "A person which is in a location must be authorized to be there", after any list of steps.
pub nobody_astray : (r : Record) → Shaped r → Sound r → (rows : List StepRow) (p : ℕ) → (constants_of r).P p → (constants_of r).aut p ((state_of (last_of r rows)).sit p)
nobody_astray r sh s rows p h =
    let after = panel.last_sound r rows sh s in
    let there = (invariants_hold (last_of r rows) after.1).0.0.0.inv0_2 in
    subst (λ (c : Constants). (q : ℕ) → c.P q → c.aut q ((state_of (last_of r rows)).sit q)) after.2 there p h

-- SAF-1: "No persons must remain blocked in a location", after any list of steps.
pub nobody_blocked : (r : Record) → Shaped r → Sound r → (rows : List StepRow) → SAF-1 (constants_of r) (state_of (last_of r rows)).sit
nobody_blocked r sh s rows = saf_1 (constants_of r) (axioms r s) (state_of (last_of r rows)).sit (nobody_astray r sh s rows)

-- SAF-2 and SAF-3, of every sound record's tables.
pub nobody_confined : (r : Record) → Sound r → SAF-2 (constants_of r) × SAF-3 (constants_of r)
nobody_confined r s = (saf_2 (constants_of r) (axioms r s), saf_3 r s)

-- After any list of steps, the signed way leads everybody outside from where they are, by locations that they may be in.
pub led_outside : (r : Record) → Shaped r → Sound r → (rows : List StepRow) (p : ℕ) → (constants_of r).P p
    → Leads (constants_of r) p ((state_of (last_of r rows)).sit p) (way_of r.locations r.exit ((state_of (last_of r rows)).sit p))
led_outside r sh s rows p h = way_leads r s p ((state_of (last_of r rows)).sit p) h (nobody_astray r sh s rows p h).2

-- 001, 4.2: in the first refinement the event pass is always enabled for somebody.
pub pass_goes_on : (c : Constants) → Axioms c → (s : State m0.names) → m0.Inv c s → (e : m1.Event) × m1.Guard c s e
pass_goes_on c ax s i =
    let p = ax.some_p in
    let on = saf_1 c ax s.sit i.inv0_2 p.0 p.1 in
    (m1.pass p.0 on.0, (on.1, on.2))

-- axm1-7: "people can enter into the building"
pub everybody_gets_in : (r : Record) → Sound r → (p : ℕ) → (constants_of r).P p → (l : ℕ) × (constants_of r).aut p l × (constants_of r).«com» 0 l
everybody_gets_in r s = (axioms r s).axm1_7

-- FUN-4: a turnstile is open only for one person, whom the door was granted, who stands in front of it and may go behind it.
pub open_for_one : (c : Constants) (s : State m4.names) → m4.All c s → (d : ℕ) → s.set m4.GRN d
    → (p : ℕ) × s.map dap p d × (s.sit p ≡ c.org d) × c.aut p (c.dst d) × ((q : ℕ) → s.map dap q d → q ≡ p)
open_for_one c s all d g =
    let inv2 = all.0.0.1 in
    let who = (inv2.inv2_6 d).0 (inl (all.1.inv4_4 d g)) in
    (who.0, who.1, inv2.inv2_2 who.0 d who.1, inv2.inv2_3 who.0 d who.1, λ q m. inv2.inv2_1.back q who.0 d m who.1)

-- EQP-3: no door has both its lights on.
pub one_light : (c : Constants) (s : State m4.names) → m4.All c s → EQP-3 s
one_light c s all d lit =
    let inv4 = all.1 in
    all.0.0.1.inv2_7 d ((inv4.inv4_1 d).0 (inl (inv4.inv4_4 d lit.0)), (inv4.inv4_5 d).0 (inl (inv4.inv4_7 d lit.1)))

-- At each door of a sound record an event of that very door is enabled, and some step at it acts and alters the record.
pub no_door_stuck : (r : Record) → Shaped r → Sound r → (d : ℕ) → (constants_of r).D d → Live r d
no_door_stuck = live
