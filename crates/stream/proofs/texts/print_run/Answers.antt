-- `print_run` meets its contract: the steps are run, and their events printed. Assumes nothing.
use Prim.Native.Nat.{ℕ, ◌≤◌}
use borrow.Author.Rules.{rules}
use lib.ListN.{length, replicate, length-replicate}
use Rattle.record.specs.Doors.{Shaped}
use Rattle.steps_sheet.specs.Lent.{most_steps}
use Rattle.text.proofs.Printing.{text_is}
use Rattle.stream_text.proofs.Sheets.{run_heard}
use Rattle.stream.proofs.texts.print_run.Goals as goal

pub invariant_of-run : goal.invariant_of-run
invariant_of-run c =
    let a = c.args.steps in
    let e = c.run-ran.ensures in
    let shaped : Shaped c.args.fresh = search rules in
    let blank = replicate most_steps 0 in
    let few : length a.kinds.now ≤ length blank = rw (length-replicate {A = ℕ} most_steps 0) a.few in
    let so = run_heard c.args.fresh a.kinds.now a.doors.now a.persons.now a.doors_long a.persons_long shaped c.requires blank blank blank blank few few few few e.answers e.phases e.reasons e.held in
    record { heard = so.heard }

pub returns : goal.returns
returns c =
    let a = c.args.steps in
    let e = c.run-ran.ensures in
    let shaped : Shaped c.args.fresh = search rules in
    let blank = replicate most_steps 0 in
    let few : length a.kinds.now ≤ length blank = rw (length-replicate {A = ℕ} most_steps 0) a.few in
    let so = run_heard c.args.fresh a.kinds.now a.doors.now a.persons.now a.doors_long a.persons_long shaped c.requires blank blank blank blank few few few few e.answers e.phases e.reasons e.held in
    text_is _ _ c.args.out.now so.stream c.print_events.ensures
