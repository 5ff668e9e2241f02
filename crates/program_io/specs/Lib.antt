-- What the promise of a number asked for means. What the command line holds is no input of a function, so that no promise can say
-- which number it is.
use Rattle.std.specs.Prelude.{ℕ, ◌^◌, ◌<◌}
use Rattle.grammar.specs.Sizes.{width}

-- the answer is a number of at most three digits, or what was to be taken without one
pub data Asked (otherwise : ℕ) : ℕ → Type 0 where
  given : {n : ℕ} → n < 10 ^ width → Asked otherwise n
  none : Asked otherwise otherwise
