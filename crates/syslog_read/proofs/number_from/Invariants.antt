-- `number_from` meets its contract: each turn reads one digit more. Assumes nothing.
use Rattle.syslog.proofs.Loops.{Numbering}
use Rattle.syslog_read.proofs.number_from.Given as goal

abbrev pub invariant-loop-byte : goal.invariant-loop-byte
invariant-loop-byte l = Numbering l.text l.n l.byte-index
