-- Words and numbers: what the loops of `cells` have to know of specs/Say.antt, and that its tests are its facts.
-- Assumes nothing.
use Prim.Native.Nat.{ℕ, zero, suc, ◌+◌, ◌-◌, ◌*◌, ◌^◌, ◌≤◌, ◌<◌}
use native.Mathlib.Nat.{pow-suc, pow-succ', pow-le-pow_right, mul_assoc, mul-le-mul_right}
use native.Mathlib.Numerals.{add-one}
use native.Mathlib.Omega.{arith}
use mathlib.Core.Path.{◌≡◌, refl, ap₂, ◌∙◌}
use mathlib.Core.Bool.{Bool, true, false, cond}
use mathlib.Core.List.{List, [], ◌∷◌}
use lib.ListN.{length, get_or, drop, drop_of_length-le}
use lib.Dec.{ltb, eqb}
use borrow.Author.Tests.{ltb-true, ltb-false, le-ltb, eqb-true, eqb-false, eq-eqb, ne_eqb}
use Rattle.std.specs.Prelude.{Some, None}
use Rattle.grammar.specs.declared.cut.Cell.{Cell}
use Rattle.cell_meaning.specs.Say.{Digit, value_from, ProperNumber, same_bytes, digits_from, needless_zero, number_in, number_at}
use Rattle.grammar.specs.Sizes.{width}
use Rattle.grammar.proofs.Steps.{here}

-- ---- two lists of bytes

pub same_self : (a : List ℕ) → same_bytes a a ≡ true
unfolding same_bytes
same_self [] = refl
same_self (x ∷ xs) = rw (eq-eqb x x refl) (same_self xs)

pub same_true : (a b : List ℕ) → same_bytes a b ≡ true → a ≡ b
unfolding same_bytes
same_true [] [] e = refl
same_true [] (y ∷ ys) e = let z : ◌≡◌ {A = ℕ} 0 1 = cc in absurd (omega arith)
same_true (x ∷ xs) [] e = let z : ◌≡◌ {A = ℕ} 0 1 = cc in absurd (omega arith)
same_true (x ∷ xs) (y ∷ ys) e = go (eqb x y) refl (λ h. same_true xs ys h)
  where
    go : (q : Bool) → eqb x y ≡ q → (same_bytes xs ys ≡ true → xs ≡ ys) → x ∷ xs ≡ y ∷ ys
    go true q more = ap₂ (λ (n : ℕ) (l : List ℕ). n ∷ l) (eqb-true x y q) (more (rw q at e))
    go false q more =
        let h : false ≡ true = rw q at e in
        let z : ◌≡◌ {A = ℕ} 0 1 = cc in
        absurd (omega arith)

pub same_false : (a b : List ℕ) → (a ≡ b → ⊥) → same_bytes a b ≡ false
same_false a b n = go (same_bytes a b) refl
  where
    go : (q : Bool) → same_bytes a b ≡ q → q ≡ false
    go true q = absurd (n (same_true a b q))
    go false q = refl

-- the loop that compares: the answer from byte i on is the answer from the start
pub record SameSoFar (a b : List ℕ) (i : ℕ) : Type 0 where
  pub answer : same_bytes a b ≡ same_bytes (drop i a) (drop i b)
  pub long : length a ≡ length b
  pub within : i ≤ length a

module _ {a b : List ℕ} {i : ℕ} (so : SameSoFar a b i) where
  pub same_turn : i < length a → same_bytes a b ≡ cond (eqb (get_or a i 0) (get_or b i 0)) (same_bytes (drop (i + 1) a) (drop (i + 1) b)) false
  unfolding same_bytes
  same_turn h =
      let k : i < length b = rw so.long at h in
      so.answer ∙ rw (here a i h, here b i k)

  pub same_more : i < length a → get_or a i 0 ≡ get_or b i 0 → SameSoFar a b (i + 1)
  same_more h e = record { answer = same_turn h ∙ rw (eq-eqb (get_or a i 0) (get_or b i 0) e); long = so.long; within = omega arith }

  pub same_end : length a ≤ i → same_bytes a b ≡ true
  unfolding same_bytes
  same_end h =
      let l = so.long in
      let k : length b ≤ i = omega arith in
      so.answer ∙ rw (drop_of_length-le a h, drop_of_length-le b k)

pub same_start : (a b : List ℕ) → length a ≡ length b → SameSoFar a b 0
same_start a b h = record { answer = refl; long = h; within = omega arith }

-- ---- digits

-- the loop over the digits
pub record DigitsSoFar (c : List ℕ) (value i : ℕ) : Type 0 where
  pub answer : digits_from 0 c ≡ digits_from value (drop i c)
  pub small : value < 10 ^ i
  pub within : i ≤ length c

module _ {c : List ℕ} {value i : ℕ} (so : DigitsSoFar c value i) where
  pub digits_limit : length c ≤ width → value < 10 ^ width
  digits_limit h =
      let w = so.within in
      let s = so.small in
      let z : 0 < 10 = omega arith in
      let n : i ≤ width = omega arith in
      let p : 10 ^ i ≤ 10 ^ width = pow-le-pow_right z n in
      omega arith

  pub digits_turn : i < length c
      → digits_from 0 c ≡ cond (ltb (get_or c i 0) 48) None (cond (ltb 57 (get_or c i 0)) None (digits_from (value * 10 + (get_or c i 0 - 48)) (drop (i + 1) c)))
  unfolding digits_from
  digits_turn h = so.answer ∙ rw (here c i h)

  pub digits_more : i < length c → 48 ≤ get_or c i 0 → get_or c i 0 ≤ 57 → DigitsSoFar c (value * 10 + (get_or c i 0 - 48)) (i + 1)
  digits_more h from to =
      let s = so.small in
      record {
        answer = digits_turn h ∙ rw (le-ltb (get_or c i 0) 48 from, le-ltb 57 (get_or c i 0) to);
        small = rw (add-one, pow-suc) (omega arith);
        within = omega arith;
      }

  pub digits_end : length c ≤ i → digits_from 0 c ≡ Some value
  unfolding digits_from
  digits_end h = so.answer ∙ rw (drop_of_length-le c h)

pub digits_start : (c : List ℕ) → DigitsSoFar c 0 0
digits_start c = record { answer = refl; small = omega arith; within = omega arith }

-- ---- proper numbers

-- true is not false
pub untrue : {A : Type 0} → true ≡ false → A
untrue e = let z : ◌≡◌ {A = ℕ} 0 1 = cc in absurd (omega arith)

pub none_is_some : {n : ℕ} {A : Type 0} → None ≡ Some n → A
none_is_some e = let z : ◌≡◌ {A = ℕ} 0 1 = cc in absurd (omega arith)

abbrev AllDigits : List ℕ → Type 0
AllDigits c = (i : ℕ) → i < length c → Digit (get_or c i 0)

digits_value : (v : ℕ) (c : List ℕ) → AllDigits c → digits_from v c ≡ Some (value_from v c)
unfolding digits_from value_from
digits_value v [] d = refl
digits_value v (b ∷ c) d =
    let b_is = d 0 (omega arith) in
    rw (le-ltb b 48 b_is.from, le-ltb 57 b b_is.to) (digits_value (v * 10 + (b - 48)) c (λ i h. d (suc i) (omega arith)))

record DigitsAre (v n : ℕ) (c : List ℕ) : Type 0 where
  digits : AllDigits c
  value : n ≡ value_from v c

digits_are : (v : ℕ) (c : List ℕ) {n : ℕ} → digits_from v c ≡ Some n → DigitsAre v n c
unfolding digits_from value_from
digits_are v [] {n} e = record { digits = λ i h. absurd (omega arith); value = cc }
digits_are v (b ∷ c) {n} e = low (ltb b 48) refl (λ h. digits_are (v * 10 + (b - 48)) c h)
  where
    all : Digit b → AllDigits c → AllDigits (b ∷ c)
    all d ds zero h = d
    all d ds (suc i) h = ds i (omega arith)

    high : (q : Bool) → ltb b 48 ≡ false → ltb 57 b ≡ q → (digits_from (v * 10 + (b - 48)) c ≡ Some n → DigitsAre (v * 10 + (b - 48)) n c) → DigitsAre v n (b ∷ c)
    high true p q more = none_is_some (rw (p, q) at e)
    high false p q more =
        let m = more (rw (p, q) at e) in
        record { digits = all (record { from = ltb-false b 48 p; to = ltb-false 57 b q }) m.digits; value = m.value }

    low : (q : Bool) → ltb b 48 ≡ q → (digits_from (v * 10 + (b - 48)) c ≡ Some n → DigitsAre (v * 10 + (b - 48)) n c) → DigitsAre v n (b ∷ c)
    low true p more = none_is_some (rw p at e)
    low false p more = high (ltb 57 b) p refl more

needless_none : (c : List ℕ) → (get_or c 0 0 ≡ 48 → length c ≤ 1) → needless_zero c ≡ false
unfolding needless_zero
needless_none c h = go (ltb (length c) 2) refl
  where
    go : (q : Bool) → ltb (length c) 2 ≡ q → cond (ltb (length c) 2) false (eqb (get_or c 0 0) 48) ≡ false
    go true q = rw q
    go false q = let l = ltb-false (length c) 2 q in rw q (ne_eqb _ _ (λ e. let m = h e in omega arith))

needless_not : (c : List ℕ) → needless_zero c ≡ false → get_or c 0 0 ≡ 48 → length c ≤ 1
unfolding needless_zero
needless_not c z h = go (ltb (length c) 2) refl
  where
    go : (q : Bool) → ltb (length c) 2 ≡ q → length c ≤ 1
    go true q = let l = ltb-true (length c) 2 q in omega arith
    go false q = absurd (eqb-false (get_or c 0 0) 48 (rw q at z) h)

-- a proper number is read, with its value
pub proper_read : (c : List ℕ) {n : ℕ} → ProperNumber c n → number_in c ≡ Some n
unfolding number_in
proper_read c p =
    let a : length c ≡ 0 → ⊥ = λ e. let s = p.some in omega arith in
    rw (ne_eqb (length c) 0 a, le-ltb width (length c) p.few, needless_none c p.no_needless_zero, p.value) (digits_value 0 c p.digits)

-- and only a proper number is read
pub read_proper : (c : List ℕ) {n : ℕ} → number_in c ≡ Some n → ProperNumber c n
unfolding number_in
read_proper c {n} e = go₁ (eqb (length c) 0) refl
  where
    go₃ : (q : Bool) → eqb (length c) 0 ≡ false → ltb width (length c) ≡ false → needless_zero c ≡ q → ProperNumber c n
    go₃ true p₁ p₂ q = none_is_some (rw (p₁, p₂, q) at e)
    go₃ false p₁ p₂ q =
        let d = digits_are 0 c (rw (p₁, p₂, q) at e) in
        let l = eqb-false (length c) 0 p₁ in
        record { some = omega arith; few = ltb-false width (length c) p₂; digits = d.digits; no_needless_zero = needless_not c q; value = d.value }

    go₂ : (q : Bool) → eqb (length c) 0 ≡ false → ltb width (length c) ≡ q → ProperNumber c n
    go₂ true p₁ q = none_is_some (rw (p₁, q) at e)
    go₂ false p₁ q = go₃ (needless_zero c) p₁ q refl

    go₁ : (q : Bool) → eqb (length c) 0 ≡ q → ProperNumber c n
    go₁ true q = none_is_some (rw q at e)
    go₁ false q = go₂ (ltb width (length c)) q refl

-- digits behind those that make v are worth less than one more of v's last
value_small : (v : ℕ) (c : List ℕ) → AllDigits c → value_from v c < (v + 1) * 10 ^ length c
unfolding value_from
value_small v [] d = omega arith
value_small v (b ∷ c) d =
    let to = (d 0 (omega arith)).to in
    let rest = value_small (v * 10 + (b - 48)) c (λ i h. d (suc i) (omega arith)) in
    let fits : v * 10 + (b - 48) + 1 ≤ (v + 1) * 10 = omega arith in
    let m = mul-le-mul_right (10 ^ length c) fits in
    let step : (v + 1) * 10 * 10 ^ length c ≡ (v + 1) * 10 ^ length (b ∷ c) = rw pow-succ' (mul_assoc (v + 1) 10 (10 ^ length c)) in
    omega arith

-- so that a proper number is below 1,000: 10 to the power of its digits
proper_small : (c : List ℕ) (n : ℕ) → ProperNumber c n → n < 10 ^ width
proper_small c n p =
    let v = value_small 0 c p.digits in
    let z : 0 < 10 = omega arith in
    let w : 10 ^ length c ≤ 10 ^ width = pow-le-pow_right z p.few in
    let is = p.value in
    omega arith

-- and so is a field that is a number
pub number_small : (s : List ℕ) (cell : Cell) {n : ℕ} → number_at s cell ≡ Some n → n < 10 ^ width
unfolding number_at
number_small s cell {n} e = go cell.doubled refl
  where
    go : (q : Bool) → cell.doubled ≡ q → n < 10 ^ width
    go true q = none_is_some (rw q at e)
    go false q = proper_small _ n (read_proper _ (rw q at e))
