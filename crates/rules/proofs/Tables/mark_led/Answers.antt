-- `mark_led` meets its contract: each turn goes past a door, and marks the location that the door names. Assumes nothing.
use mathlib.Core.Path.{refl}
use native.Mathlib.Omega.{arith}
use Rattle.rules.proofs.Marks.{marks_start, marks_end, led_on, led_past}
use Rattle.rules.proofs.Tables.mark_led.Goals.{then-entry_at-to, else-entry_at-to}
use Rattle.rules.proofs.Tables.mark_led.Goals as goal

pub loop-door-init : goal.loop-door-init
loop-door-init c = marks_start _ refl

pub loop-door-preserved : goal.loop-door-preserved
loop-door-preserved c =
    let m = c.loop-door.invariant in
    elim c.if-entry_at-to.branch [
      | then-entry_at-to w ↦
          rw w.led-is (led_on _ _ c.args.self.exit.now m c.loop-door-test.true c.entry_at-from.ensures c.entry_at-to.ensures c.entry_at.ensures w.if-entry_at-to.true (omega (arith, c.entry_at-from.type_inv)))
      | else-entry_at-to w ↦
          rw w.led-is (led_past _ _ c.args.self.exit.now m c.loop-door-test.true c.entry_at-from.ensures c.entry_at-to.ensures c.entry_at.ensures w.if-entry_at-to.false)
    ]

pub returns : goal.returns
returns c = marks_end _ c.loop-door.invariant c.loop-door-test.false
