-- Rows of numbers: how long they are. Assumes nothing.
use Prim.Native.Nat.{ℕ, ◌+◌, ◌≤◌}
use mathlib.Core.Path.{◌≡◌}
use mathlib.Core.List.{List, [], ◌∷◌}
use native.Mathlib.Omega.{arith}
use lib.ListN.{length, length-append}
use Rattle.grammar.specs.Grammar.{comma, cr, lf}
use Rattle.text.specs.Text.{decimal, row_of_numbers}
use Rattle.text.proofs.Decimal.{decimal_some}

pub last_length : (n : ℕ) → length (row_of_numbers n []) ≡ length (decimal n) + 2
unfolding row_of_numbers
last_length n = length-append (decimal n) (cr ∷ lf ∷ [])

pub more_length : (n m : ℕ) (ns : List ℕ) → length (row_of_numbers n (m ∷ ns)) ≡ length (decimal n) + 1 + length (row_of_numbers m ns)
unfolding row_of_numbers
more_length n m ns = let l = length-append (decimal n) (comma ∷ row_of_numbers m ns) in omega arith

pub row_some : (n : ℕ) (ns : List ℕ) → 3 ≤ length (row_of_numbers n ns)
row_some n [] = let l = last_length n in let d = decimal_some n in omega arith
row_some n (m ∷ ns) = let l = more_length n m ns in let d = row_some m ns in omega arith
