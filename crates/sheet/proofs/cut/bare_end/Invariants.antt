-- `bare_end` meets its contract. The invariant of its loop is the contract, of the place that it has come to.
-- Assumes nothing.
use Prim.Native.Nat.{◌≤◌, max}
use lib.ListN.{length}
use Rattle.sheet.specs.Bare.{BareUpTo}
use Rattle.sheet.proofs.cut.bare_end.Given as goal

abbrev pub invariant-loop-i : goal.invariant-loop-i
invariant-loop-i l = (l.i ≤ max l.at (length l.s)) × BareUpTo l.s l.at l.i
