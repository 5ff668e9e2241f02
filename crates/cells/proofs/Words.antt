-- Two lists of bytes are the same where `==` says so. Assumes nothing.
use Prim.Native.Nat.{ℕ}
use mathlib.Core.Path.{◌≡◌, refl}
use mathlib.Core.Bool.{Bool, true, false, cond, ◌&&◌}
use mathlib.Core.List.{List, [], ◌∷◌}
use lib.Dec.{eqb}
use Rattle.std.specs.Str.{bytes_eq}
use Rattle.cell_meaning.specs.Say.{same_bytes}

pub same_equal : (a b : List ℕ) → same_bytes a b ≡ bytes_eq a b
unfolding same_bytes
same_equal [] [] = refl
same_equal [] (y ∷ ys) = refl
same_equal (x ∷ xs) [] = refl
same_equal (x ∷ xs) (y ∷ ys) = go (eqb x y) (same_equal xs ys)
  where
    go : (q : Bool) → same_bytes xs ys ≡ bytes_eq xs ys → cond q (same_bytes xs ys) false ≡ q && bytes_eq xs ys
    go true e = e
    go false e = refl
