-- `put_answers` meets its contract: each turn writes one row more. Assumes nothing.
use mathlib.Core.Path.{refl}
use native.Mathlib.Omega.{arith}
use Rattle.run_text.proofs.Texts.{answer_start, answer_more, answer_end}
use Rattle.run.proofs.texts.put_answers.Goals as goal

pub loop-i-init : goal.loop-i-init
loop-i-init c = answer_start (omega arith) (omega arith)

pub loop-i-preserved : goal.loop-i-preserved
loop-i-preserved c =
    let told = c.args.replies in
    answer_more c.loop-i.invariant told.phases_told told.reasons_told told.held_told (omega arith) refl refl refl refl c.put_row-next.ensures

pub returns : goal.returns
returns c = answer_end c.loop-i.invariant (omega arith)
