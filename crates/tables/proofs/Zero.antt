-- A list of one thing over and over has it at each place and beyond; how long a list of zeros is, and that there is a 0 everywhere.
-- Assumes nothing.
use Prim.Native.Nat.{ℕ, ◌≤◌}
use mathlib.Core.Path.{◌≡◌, sym, subst}
use mathlib.Core.Logic.{⊎_elim}
use lib.ListN.{length, get_or, replicate, length-replicate, get_or-replicate, get_or-eq_default}
use Rattle.tables.specs.Zero.{zeros}
use Rattle.tables.proofs.Cases.{below_or_not}

pub same_at : {A : Type 0} (n i : ℕ) (a : A) → get_or (replicate n a) i a ≡ a
same_at n i a =
    ⊎_elim (λ h. get_or-replicate n i a a h) (λ h. get_or-eq_default (replicate n a) a (subst (λ (k : ℕ). k ≤ i) (sym (length-replicate n a)) h))
    (below_or_not i n)

pub zeros_long : (n : ℕ) → length (zeros n) ≡ n
unfolding zeros
zeros_long n = length-replicate n 0

pub zeros_at : (n i : ℕ) → get_or (zeros n) i 0 ≡ 0
unfolding zeros
zeros_at n i = same_at n i 0
