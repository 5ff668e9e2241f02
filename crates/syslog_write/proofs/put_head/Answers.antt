-- `put_head` meets its contract, by what the event is. Assumes nothing.
use mathlib.Core.Path.{sym, ap}
use Rattle.text.specs.Text.{digits, decimal}
use Rattle.text.proofs.Writing.{said}
use Rattle.syslog.specs.Line.{head_of}
use Rattle.syslog_write.proofs.put_head.Goals as goal

pub returns-in-Grant : goal.returns-in-Grant
unfolding decimal digits
returns-in-Grant c = said (ap head_of (sym c.in-Grant.is)) c.put_bytes.ensures

pub returns-in-Deny : goal.returns-in-Deny
unfolding decimal digits
returns-in-Deny c = said (ap head_of (sym c.in-Deny.is)) c.put_bytes-in-Deny.ensures

pub returns-in-Pass : goal.returns-in-Pass
unfolding decimal digits
returns-in-Pass c = said (ap head_of (sym c.in-Pass.is)) c.put_bytes-in-Pass.ensures

pub returns-in-Lapse : goal.returns-in-Lapse
unfolding decimal digits
returns-in-Lapse c = said (ap head_of (sym c.in-Lapse.is)) c.put_bytes-in-Lapse.ensures
