-- How the demands speak of an answer: by the number of the first fact that fails, as one of some numbers, and as the only one.
use Rattle.std.specs.Prelude.{ℕ, ◌≡◌, List, [], ◌∷◌, ◌⊎◌}
use Rattle.numbers.specs.Numbers.{done_no}

-- "Steps and questions: 14, then 11, then 12 or 13.": a number, the fact without which it is given, and what is asked next
infixr 5 ◌unless◌then◌
pub data Order : Type 1 where
  done : Order
  ◌unless◌then◌ : ℕ → Type 0 → Order → Order

-- n is the number of the first fact that fails, and 0 where none does
abbrev pub NumberBy : Order → ℕ → Type 0
NumberBy done n = n ≡ done_no
NumberBy (m unless Fact then order) n = ((Fact → ⊥) × (n ≡ m)) ⊎ (Fact × NumberBy order n)

-- n is one of these numbers
abbrev pub OneOf : List ℕ → ℕ → Type 0
OneOf [] n = ⊥
OneOf (m ∷ ms) n = (n ≡ m) ⊎ OneOf ms n

-- two answers that a promise allows are equal
abbrev pub Unique : {A : Type 0} → (A → Type 0) → Type 0
Unique {A} Promise = (x y : A) → Promise x → Promise y → x ≡ y
