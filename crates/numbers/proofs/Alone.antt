-- What a promise by equations allows is one thing. Assumes nothing.
use Prim.Native.Nat.{ℕ}
use mathlib.Core.Path.{◌≡◌, sym, ◌∙◌}
use mathlib.Core.List.{List}
use Rattle.numbers.specs.Telling.{Unique}

-- an equation allows one answer,
pub alone : {A : Type 0} {a : A} → Unique (λ (x : A). x ≡ a)
alone x y p q = p ∙ sym q

-- two equations one answer and one list or record,
pub beside : {A B : Type 0} {a : A} {b : B} → Unique (λ (x : A × B). (x.0 ≡ a) × (x.1 ≡ b))
beside x y p q = let e = p.0 ∙ sym q.0 in let f = p.1 ∙ sym q.1 in λ i. (e i, f i)

-- four one answer and three lists,
pub beside_three : {A : Type 0} {a : A} {l m n : List ℕ}
    → Unique (λ (x : A × List ℕ × List ℕ × List ℕ). (x.0 ≡ a) × (x.1 ≡ l) × (x.2 ≡ m) × (x.3 ≡ n))
beside_three x y p q =
    let e = p.0 ∙ sym q.0 in
    let f = p.1 ∙ sym q.1 in
    let g = p.2 ∙ sym q.2 in
    let h = p.3 ∙ sym q.3 in
    λ i. (e i, f i, g i, h i)

-- and five one answer and four lists
pub beside_four : {A : Type 0} {a : A} {l m n o : List ℕ}
    → Unique (λ (x : A × List ℕ × List ℕ × List ℕ × List ℕ). (x.0 ≡ a) × (x.1 ≡ l) × (x.2 ≡ m) × (x.3 ≡ n) × (x.4 ≡ o))
beside_four x y p q =
    let rest = beside_three (x.0, x.1, x.2, x.3) (y.0, y.1, y.2, y.3) (p.0, p.1, p.2, p.3) (q.0, q.1, q.2, q.3) in
    let f = p.4 ∙ sym q.4 in
    λ i. ((rest i).0, (rest i).1, (rest i).2, (rest i).3, f i)
