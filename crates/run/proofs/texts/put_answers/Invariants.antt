-- `put_answers` meets its contract: each turn writes one row more. Assumes nothing.
use Prim.Native.Nat.{◌-◌}
use Rattle.run_text.proofs.Texts.{Answering}
use Rattle.run.proofs.texts.put_answers.Given as goal

abbrev pub invariant-loop-i : goal.invariant-loop-i
invariant-loop-i l = Answering l.replies.answers.now l.replies.phases.now l.replies.reasons.now l.replies.held.now l.initial.out l.at l.out l.next l.i
