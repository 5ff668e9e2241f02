-- `put_bytes` meets its contract: each turn writes one byte more. Assumes nothing.
use lib.ListN.{drop}
use Rattle.text.proofs.Writing.{Pending}
use Rattle.text.proofs.write.put_bytes.Given as goal

abbrev pub invariant-loop-byte : goal.invariant-loop-byte
invariant-loop-byte l = Pending l.initial.out l.at l.bytes l.out l.next (drop l.byte-index l.bytes)
