-- Sets of numbers and relations between numbers, with the chapter's signs. People, locations and doors are numbers.
use Rattle.std.specs.Prelude.{ℕ, ◌≡◌, ◌⊎◌, ◌↔◌}

abbrev pub Set : Type 1
Set = ℕ → Type 0

abbrev pub Relation : Type 1
Relation = ℕ → ℕ → Type 0

infixr 30 ◌∪◌ ◌∩◌ ◌∖◌
infix 20 ◌⊆◌ ◌≐◌
-- the set of one number
abbrev pub only : ℕ → Set
only d x = x ≡ d

abbrev pub ◌∪◌ : Set → Set → Set
(A ∪ B) x = A x ⊎ B x

abbrev pub ◌∩◌ : Set → Set → Set
(A ∩ B) x = A x × B x

abbrev pub ◌∖◌ : Set → Set → Set
(A ∖ B) x = A x × (B x → ⊥)

abbrev pub ◌⊆◌ : Set → Set → Type 0
A ⊆ B = (x : ℕ) → A x → B x

-- A = B
abbrev pub ◌≐◌ : Set → Set → Type 0
A ≐ B = (x : ℕ) → A x ↔ B x

-- A = ∅
abbrev pub Empty : Set → Type 0
Empty A = (x : ℕ) → A x → ⊥

abbrev pub dom : Relation → Set
dom f x = (y : ℕ) × f x y

abbrev pub ran : Relation → Set
ran f y = (x : ℕ) × f x y

-- f ∈ A ↔ B
abbrev pub Between : Set → Set → Relation → Type 0
Between A B f = (x y : ℕ) → f x y → A x × B y

-- f ∈ A → B
abbrev pub Total : Set → Set → (ℕ → ℕ) → Type 0
Total A B f = (x : ℕ) → A x → B (f x)

-- f ∈ A ⇸ B: "a partial function"
pub record Partial (A B : Set) (f : Relation) : Type 0 where
  pub between : Between A B f
  pub one : (x y z : ℕ) → f x y → f x z → y ≡ z

-- f ∈ A ⤔ B: "it is also an injective function"
pub record Injective (A B : Set) (f : Relation) : Type 0 where
  pub «function» : Partial A B f
  pub back : (x y z : ℕ) → f x z → f y z → x ≡ y
