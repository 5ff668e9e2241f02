-- `write_way` meets its contract. The measure is the count of locations still unvisited, which falls at each call. Assumes nothing.
use Rattle.rules.proofs.+write_way.Given as goal

abbrev pub decreases-write_way : goal.decreases-write_way
decreases-write_way l = l.left
