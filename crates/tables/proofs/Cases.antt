-- Cases that every proof here goes by. Assumes nothing.
use Prim.Native.Nat.{ℕ, ◌<◌, ◌≤◌}
use mathlib.Core.Path.{◌≡◌, refl, sym, ◌∙◌}
use mathlib.Core.Bool.{Bool, true, false, not, cond}
use mathlib.Core.Logic.{◌⊎◌, inl, inr}
use borrow.Author.Tests.{eqb-true, eqb-false, ltb-true, ltb-false, eq-eqb, ne_eqb, le-leb, lt-leb, lt-ltb, le-ltb, not-true, not-false}
use borrow.Author.Rules.{rules}
use lib.Dec.{eqb, ltb, leb}
use Rattle.tables.specs.Tables.{or_else, and_also}

-- what holds of both arms, each under its test, holds of the choice
pub either : {A : Type 0} (P : A → Type 0) (t : Bool) {x y : A} → (t ≡ true → P x) → (t ≡ false → P y) → P (cond t x y)
either P true f g = f refl
either P false f g = g refl

-- two numbers are the same or not
pub same_or_not : (a b : ℕ) → (a ≡ b) ⊎ (a ≡ b → ⊥)
same_or_not a b = go (eqb a b) refl
  where
    go : (t : Bool) → eqb a b ≡ t → (a ≡ b) ⊎ (a ≡ b → ⊥)
    go true e = inl (eqb-true a b e)
    go false e = inr (eqb-false a b e)

-- a number is below another or not
pub below_or_not : (a b : ℕ) → (a < b) ⊎ (b ≤ a)
below_or_not a b = go (ltb a b) refl
  where
    go : (t : Bool) → ltb a b ≡ t → (a < b) ⊎ (b ≤ a)
    go true e = inl (ltb-true a b e)
    go false e = inr (ltb-false a b e)

-- a number that passes one of two tests is one of two numbers
pub one_of : (x a b : ℕ) → or_else (eqb x a) (eqb x b) ≡ true → (x ≡ a) ⊎ (x ≡ b)
unfolding or_else
one_of x a b = go (eqb x a) refl
  where
    go : (t : Bool) → eqb x a ≡ t → or_else t (eqb x b) ≡ true → (x ≡ a) ⊎ (x ≡ b)
    go true e f = inl (eqb-true x a e)
    go false e f = inr (eqb-true x b f)

-- ---- a chain of tests, each of which ends the chain where it fails

-- r is what a call answered
pub and_stop : (a b r : Bool) → r ≡ a → not r ≡ true → false ≡ and_also a b
unfolding and_also
and_stop a b r e q = rw (sym e ∙ not-true r q)

pub and_on : (a b r x : Bool) → r ≡ a → not r ≡ false → x ≡ b → x ≡ and_also a b
unfolding and_also
and_on a b r x e q p = rw (sym e ∙ not-false r q) p

pub chain_above : (x y : ℕ) (b : Bool) → y < x → false ≡ and_also (leb x y) b
unfolding and_also
chain_above x y b h = rw (lt-leb x y h)

pub chain_within : (x y : ℕ) (v b : Bool) → x ≤ y → v ≡ b → v ≡ and_also (leb x y) b
unfolding and_also
chain_within x y v b h q = rw (le-leb x y h) q

pub ruleset test_chain = (rules, and_stop, and_on, chain_above, chain_within)

-- ---- a choice that a test decides; r is what the code's test told

module _ {A : Type 0} (a : Bool) (v w z : A) where
  pub pick_on : (r : Bool) → r ≡ a → not r ≡ false → v ≡ w → v ≡ cond a w z
  pick_on r e t q = rw (← e, not-false r t) q

  pub pick_off : (r : Bool) → r ≡ a → not r ≡ true → v ≡ z → v ≡ cond a w z
  pick_off r e t q = rw (← e, not-true r t) q

  pub pick_yes : (r : Bool) → r ≡ a → r ≡ true → v ≡ w → v ≡ cond a w z
  pick_yes r e t q = rw (← e, t) q

  pub pick_no : (r : Bool) → r ≡ a → r ≡ false → v ≡ z → v ≡ cond a w z
  pick_no r e t q = rw (← e, t) q

module _ {A : Type 0} (x y : ℕ) (v w z : A) where
  pub pick_equal : x ≡ y → v ≡ w → v ≡ cond (eqb x y) w z
  pick_equal e q = rw (eq-eqb x y e) q

  pub pick_differs : (x ≡ y → ⊥) → v ≡ z → v ≡ cond (eqb x y) w z
  pick_differs ne q = rw (ne_eqb x y ne) q

  pub pick_below : x < y → v ≡ w → v ≡ cond (ltb x y) w z
  pick_below h q = rw (lt-ltb x y h) q

  pub pick_beyond : y ≤ x → v ≡ z → v ≡ cond (ltb x y) w z
  pick_beyond h q = rw (le-ltb x y h) q

pub ruleset picks = (rules, pick_on, pick_off, pick_yes, pick_no, pick_equal, pick_differs, pick_below, pick_beyond)
