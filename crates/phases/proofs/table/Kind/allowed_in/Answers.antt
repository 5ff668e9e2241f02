-- `Kind::allowed_in` tells what `asked` says: its entry in the table. Assumes nothing.
use native.Mathlib.Omega.{arith}
use borrow.Author.Tests.{lt-ltb}
use Rattle.tables.specs.Tables.{and_also}
use Rattle.phases.specs.Kinds.{number_of_kind}
use Rattle.phases.specs.Table.{asked}
use Rattle.phases.proofs.Packed.{entry_is}
use Rattle.phases.proofs.table.Kind.allowed_in.Goals as goal

pub returns-then-phase-le-CLOSED : goal.returns-then-phase-le-CLOSED
unfolding asked and_also
returns-then-phase-le-CLOSED c =
    let a = c.args in
    let is = c.from-step.ensures in
    let known = c.if-phase-le-CLOSED.true in
    simp (lt-ltb (number_of_kind a.self) 10 (omega arith), lt-ltb a.phase 10 (omega arith), ← is) (entry_is a.phase c.from-step.result (omega arith) (omega arith))
