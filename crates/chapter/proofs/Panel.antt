-- A run of the panel is, row by row, a run of each machine. Assumes nothing.
use Prim.Native.Nat.{ℕ}
use mathlib.Core.Path.{◌≡◌, refl, sym, subst, ap, ◌∙◌}
use mathlib.Core.Logic.{◌⊎◌, inl, inr, ⊎_elim}
use mathlib.Core.List.{List, [], ◌∷◌}
use native.Mathlib.Omega.{arith}
use Rattle.record.specs.declared.record.Record.{Record}
use Rattle.phases.specs.declared.table.Kind.{Kind}
use Rattle.phases.specs.declared.answer.Answer.{Answer}
use Rattle.phases.specs.declared.answer.Answer.TheVariants.{Done, NoSuch, NotAllowed, TooShort, Unsound}
use Rattle.phases.specs.Answers.{answer_no}
use Rattle.record.specs.Doors.{Shaped}
use Rattle.record.specs.Sound.{Sound}
use Rattle.record.specs.Steps.{step_of}
use Rattle.record.specs.Run.{row_of, last_of}
use Rattle.phases.specs.declared.table.StepRow.{StepRow}
use Rattle.record.proofs.Laws.{refused_stays, sound_stays, shaped_stays, plan_stays, rights_stay}
use Rattle.machines.specs.Context.{Constants, Axioms}
use Rattle.machines.specs.Machines.{Same, Move, event, skip, MachineStep}
use Rattle.machines.specs.M0 as m0
use Rattle.machines.specs.M1 as m1
use Rattle.machines.specs.M2 as m2
use Rattle.machines.specs.M3 as m3
use Rattle.machines.specs.M4 as m4
use Rattle.chapter.specs.Reading.{constants_in, constants_of, state_of, state_of3, state_of2, state_of1, MayAct, Uneventful}
use Rattle.chapter.specs.Panel.{MoveOf, done, uneventful, refused, move3, move2, move1, move0, StepOfEach, OneMove, RunOfEach, stop, step}
use Rattle.chapter.proofs.Site.{axioms}
use Rattle.chapter.proofs.Invariants.{inv0, inv2, inv3, inv4}
use Rattle.machines.proofs.Refine.{same_refl, M1-refines-M0, M2-refines-M1, M3-refines-M2, M4-refines-M3, step_seen}
use Rattle.chapter.proofs.Steps.{follows, enabled, by_tick}
use Rattle.chapter.proofs.Stands.{stands_once, uneventful_stands}

-- ---- the invariants

pub all_of : (r : Record) → Sound r → m4.All (constants_of r) (state_of r)
all_of r s = (((inv0 r s, inv2 r s), inv3 r s), inv4 r)

-- ---- steps and runs

done_or_not : (a : Answer) → (a ≡ Done) ⊎ (a ≡ Done → ⊥)
done_or_not Done = inl refl
done_or_not NoSuch = inr (λ e. omega (arith, ap answer_no e))
done_or_not NotAllowed = inr (λ e. omega (arith, ap answer_no e))
done_or_not TooShort = inr (λ e. omega (arith, ap answer_no e))
done_or_not Unsound = inr (λ e. omega (arith, ap answer_no e))

pub tick_same : (r : Record) (k : Kind) (d p : ℕ) → Shaped r → Sound r → Uneventful r k d → Same (state_of (step_of r k d p).next) (state_of r)
tick_same r k d p sh s i =
    subst (λ (x : Kind). Same (state_of (step_of r x d p).next) (state_of r)) (sym i.tick) (by_tick r sh s d p i.exists i.green_on i.red_on)

-- every step, refused or done, is one step of a run of the fourth refinement, by the move that it is
abbrev Moved : Record → StepRow → Type 0
Moved r row = (o : Move m4.Event) × MoveOf r row o × MachineStep (m4.machine (constants_of r)) (state_of r) o (state_of (row_of r row).next)

one_move : (r : Record) (row : StepRow) → Shaped r → Sound r → Moved r row
one_move r row sh s = ⊎_elim (λ e. acts e (enabled r sh s row.at row.person row.kind e)) stays (done_or_not (row_of r row).answer)
  where
    acts : (row_of r row).answer ≡ Done → MayAct r row.kind row.at row.person ⊎ Uneventful r row.kind row.at → Moved r row
    acts ok (inl may) =
        let e = may.enabled in
        (event e.event, done e.event ok e.stands, (e.guard, (follows r sh s row.at row.person row.kind e.event e.stands e.guard may.unlit).1))
    acts ok (inr i) = (skip, uneventful i, tick_same r row.kind row.at row.person sh s i)

    stays : ((row_of r row).answer ≡ Done → ⊥) → Moved r row
    stays ne =
        let same = refused_stays r row.kind row.at row.person ne in
        (skip, refused ne, subst (λ (x : Record). Same (state_of x) (state_of r)) (sym same) (same_refl (state_of r)))

-- and so one of each machine
each_step : (r next : Record) (o : Move m4.Event) → Sound r → MachineStep (m4.machine (constants_of r)) (state_of r) o (state_of next) → StepOfEach (constants_of r) r o next
each_step r next o s fourth = record { fourth = fourth; third = third; second = second; first = first; initial = initial }
  where
    ax : Axioms (constants_of r)
    ax = axioms r s

    third : MachineStep (m3.machine (constants_of r)) (state_of3 r) (move3 o) (state_of3 next)
    third = step_seen (M4-refines-M3 _ ax) (state_of r) (state_of next) o (all_of r s) fourth

    second : MachineStep (m2.machine (constants_of r)) (state_of2 r) (move2 o) (state_of2 next)
    second = step_seen (M3-refines-M2 _ ax) (state_of3 r) (state_of3 next) (move3 o) (all_of r s).0 third

    first : MachineStep (m1.machine (constants_of r)) (state_of1 r) (move1 (constants_of r) o) (state_of1 next)
    first = step_seen (M2-refines-M1 _ ax) (state_of2 r) (state_of2 next) (move2 o) (all_of r s).0.0 second

    initial : MachineStep (m0.machine (constants_of r)) (state_of1 r) (move0 (constants_of r) o) (state_of1 next)
    initial = step_seen (M1-refines-M0 _ ax) (state_of1 r) (state_of1 next) (move1 (constants_of r) o) ((all_of r s).0.0.0, tt) first

-- no row is two moves
pub only_move : (r : Record) (row : StepRow) → OneMove r row
only_move r row o u (done e a st) x (done f b sf) y = ap event (stands_once r row.kind row.at row.person e f st x.fourth.0 sf y.fourth.0)
only_move r row o u (done e a st) x (uneventful i) y = absurd (uneventful_stands r row.kind row.at row.person e i st)
only_move r row o u (done e a st) x (refused ne) y = absurd (ne a)
only_move r row o u (uneventful i) x (done f b st) y = absurd (uneventful_stands r row.kind row.at row.person f i st)
only_move r row o u (uneventful i) x (uneventful j) y = refl
only_move r row o u (uneventful i) x (refused ne) y = refl
only_move r row o u (refused ne) x (done f b st) y = absurd (ne b)
only_move r row o u (refused ne) x (uneventful i) y = refl
only_move r row o u (refused ne) x (refused nf) y = refl

-- a step leaves the constants as they were
constants_stay : (r : Record) (k : Kind) (d p : ℕ) → constants_of (step_of r k d p).next ≡ constants_of r
constants_stay r k d p = λ i. constants_in (plan_stays r k d p i) (rights_stay r k d p i)

pub runs : (r : Record) (rows : List StepRow) → Shaped r → Sound r → RunOfEach (constants_of r) r rows
runs r [] sh s = stop
runs r (row ∷ rows) sh s =
    let k = row.kind in
    let d = row.at in
    let p = row.person in
    let m = one_move r row sh s in
    step m.0 m.1 (each_step r (row_of r row).next m.0 s m.2)
    (subst (λ (c : Constants). RunOfEach c (row_of r row).next rows) (constants_stay r k d p)
    (runs (row_of r row).next rows (shaped_stays r k d p sh) (sound_stays r k d p sh s)))

-- the record after a list of steps
pub last_sound : (r : Record) (rows : List StepRow) → Shaped r → Sound r → Shaped (last_of r rows) × Sound (last_of r rows) × (constants_of (last_of r rows) ≡ constants_of r)
unfolding last_of
last_sound r [] sh s = (sh, s, refl)
last_sound r (row ∷ rows) sh s =
    let k = row.kind in
    let on = last_sound (row_of r row).next rows (shaped_stays r k row.at row.person sh) (sound_stays r k row.at row.person sh s) in
    (on.0, on.1, on.2 ∙ constants_stay r k row.at row.person)
