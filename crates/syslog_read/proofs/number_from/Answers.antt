-- `number_from` meets its contract: each turn reads one digit more. Assumes nothing.
use native.Mathlib.Omega.{arith}
use Rattle.syslog.proofs.Loops.{number_start, number_bounded, front_more, front_stops, front_full}
use Rattle.syslog_read.proofs.number_from.Goals as goal

pub loop-byte-init : goal.loop-byte-init
loop-byte-init c = number_start

pub returns-then-not-is_ascii_digit : goal.returns-then-not-is_ascii_digit
returns-then-not-is_ascii_digit c =
    let at = c.loop-byte.invariant in
    record { number = front_stops c.min.ensures at c.loop-byte-test.true c.if-not-is_ascii_digit.ensures.value; small = number_bounded at }

pub overflow_mul-n : goal.overflow_mul-n
overflow_mul-n c = let s = number_bounded c.loop-byte.invariant in omega arith

pub overflow_add-n : goal.overflow_add-n
overflow_add-n c = let s = number_bounded c.loop-byte.invariant in omega arith

pub loop-byte-preserved : goal.loop-byte-preserved
loop-byte-preserved c = front_more c.min.ensures c.loop-byte.invariant c.loop-byte-test.true c.if-not-is_ascii_digit.ensures.value

pub returns : goal.returns
returns c = let at = c.loop-byte.invariant in record { number = front_full c.min.ensures at c.loop-byte-test.false; small = number_bounded at }
