-- `put_long` meets its contract: one digit, or two, or those of the hundredth and then two. The measure is the number. Assumes nothing.
use Rattle.text.proofs.write.+put_long.Given as goal

abbrev pub decreases-put_long : goal.decreases-put_long
decreases-put_long l = l.n
