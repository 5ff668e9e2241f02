-- `put_bytes` meets its contract: each turn writes one byte more. Assumes nothing.
use native.Mathlib.Numerals.{add-one}
use lib.ListN.{drop_of_length-le}
use lib.Seq.{drop-cons}
use Rattle.text.proofs.Writing.{more, ended}
use Rattle.text.proofs.write.put_bytes.Goals as goal

pub loop-byte-preserved : goal.loop-byte-preserved
loop-byte-preserved c = more c.loop-byte.invariant (rw (add-one c.loop-byte.byte-index) (drop-cons c.args.bytes.now c.loop-byte.byte-index 0 c.loop-byte-test.true)) c.put-next.ensures

pub returns : goal.returns
returns c = ended c.loop-byte.invariant (drop_of_length-le _ c.loop-byte-test.false)
