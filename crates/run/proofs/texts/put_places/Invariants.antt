-- `put_places` meets its contract: the header, and each turn one row more. Assumes nothing.
use Prim.Native.Nat.{◌-◌}
use Rattle.run_text.proofs.Texts.{Placing}
use Rattle.run.proofs.texts.put_places.Given as goal

abbrev pub invariant-loop-i : goal.invariant-loop-i
invariant-loop-i l = Placing l.places l.initial.out l.initial.next l.out l.next l.i
