-- `is_put` meets its contract: what is put is compared, if it is as long. Assumes nothing.
use native.Mathlib.Omega.{arith}
use Rattle.syslog.proofs.Written.{own_text, own_tells, own_longer}
use Rattle.syslog_read.proofs.is_put.Goals as goal
use Rattle.syslog_read.proofs.is_put.Goals.{then-end-text, else-end-text}

pub returns : goal.returns
returns g c = λ own few puts.
    let o = own_text (puts _ _ _ c.put-end.ensures) (omega arith) (omega arith) in
    elim c.if-end-text.branch [ then-end-text w ↦ rw w.result-is (own_tells own c.put-end.new.arg2 _ o w.if-end-text.true w.starts_with.ensures.value) | else-end-text w ↦ rw w.result-is (own_longer o.0 w.if-end-text.false) ]
