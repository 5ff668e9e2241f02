-- `way_length` meets its contract. The measure is the count of locations still unvisited, which falls at each call. Assumes nothing.
use Rattle.rules.proofs.+way_length.Given as goal

abbrev pub decreases-way_length : goal.decreases-way_length
decreases-way_length l = l.left
