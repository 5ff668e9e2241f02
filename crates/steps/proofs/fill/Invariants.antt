-- `fill` meets its contract: each turn is one row more. Assumes nothing.
use Prim.Native.Nat.{◌-◌}
use lib.ListN.{length}
use Rattle.steps_sheet.proofs.Decoding.{Decoding}
use Rattle.steps.proofs.fill.Given as goal

abbrev pub invariant-loop-cells : goal.invariant-loop-cells
invariant-loop-cells l = Decoding l.s l.from l.initial.kinds l.initial.doors l.initial.persons l.kinds l.doors l.persons l.count l.at

abbrev pub decreases-loop-cells : goal.decreases-loop-cells
decreases-loop-cells l = length l.s - l.at
