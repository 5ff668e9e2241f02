-- `mark_first` meets its contract: each turn goes past a door, and marks the location that the door names. Assumes nothing.
use mathlib.Core.Path.{refl}
use native.Mathlib.Omega.{arith}
use Rattle.rules.proofs.Marks.{marks_start, marks_end, first_on, first_past}
use Rattle.rules.proofs.Tables.mark_first.Goals.{then-from_outside, else-from_outside}
use Rattle.rules.proofs.Tables.mark_first.Goals as goal

pub loop-door-init : goal.loop-door-init
loop-door-init c = marks_start _ refl

pub loop-door-preserved : goal.loop-door-preserved
loop-door-preserved c =
    let m = c.loop-door.invariant in
    elim c.if-from_outside.branch [
      | then-from_outside w ↦
          rw w.first-is (first_on _ _ m c.loop-door-test.true c.entry_at-from_outside.ensures w.entry_at.ensures w.if-from_outside.true (omega (arith, w.entry_at.type_inv)))
      | else-from_outside w ↦ rw w.first-is (first_past _ _ m c.loop-door-test.true c.entry_at-from_outside.ensures refl w.if-from_outside.false)
    ]

pub returns : goal.returns
returns c = marks_end _ c.loop-door.invariant c.loop-door-test.false
