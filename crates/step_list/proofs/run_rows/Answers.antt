-- `run_rows` meets its contract: each turn is one step of the fold. Assumes nothing.
use native.Mathlib.Omega.{arith}
use Rattle.record.specs.Doors.{Shaped}
use Rattle.record.proofs.Deeds.{stepped}
use mathlib.Core.Path.{◌∙◌}
use Rattle.step_list.proofs.Running.{Has, run_start, run_more, run_last, run_answers, run_phases, run_reasons, run_held}
use borrow.Author.Rules.{rules}
use Rattle.step_list.proofs.run_rows.Goals as goal

pub loop-at-init : goal.loop-at-init
loop-at-init c =
    let shaped : Shaped c.args.start = search rules in
    let lists = c.moving-moving.ensures in
    rw (lists.places, lists.phases, lists.holders, lists.counts) (run_start c.requires.sound shaped (search rules))

pub loop-at-preserved : goal.loop-at-preserved
loop-at-preserved c =
    let a = c.args in
    let p = c.requires.room in
    let has : Has a.steps.now a.doors.now a.persons.now c.loop-at.at = record { a_step = omega arith; a_door = omega arith; a_person = omega arith } in
    let run = c.loop-at.invariant in
    let e = c.carry_out-told.ensures in
    let site = c.tables.ensures in
    let lists = c.door_lists.ensures in
    let deed = rw (site.plan, site.rights, lists.phases, lists.holders, lists.counts) at c.judge-deed.ensures.told in
    let is =
    rw (c.from.ensures, c.entry_at-door.ensures, c.entry_at.ensures) at
    (stepped _ _ _ _ run.room run.sound _ deed _ _ _ _ _ (e.told, (e.places, (e.phases, (e.holders, e.counts)))))
    in
    rw c.number.ensures (run_more _ run has is)

pub returns : goal.returns
returns c =
    let run = c.loop-at.invariant in
    let over = c.loop-at-test.false in
    record { last = c.hold.ensures ∙ run_last run over; answers = run_answers run over; phases = run_phases run over; reasons = run_reasons run over; held = run_held run over }
