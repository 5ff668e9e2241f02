-- Sets that a number comes to or goes from, and the three parts of a set between which it moves. Assumes nothing.
use Prim.Native.Nat.{ℕ}
use mathlib.Core.Path.{◌≡◌, refl, sym, subst}
use mathlib.Core.Bool.{Bool, true, false}
use mathlib.Core.Logic.{inl, inr, ⊎_elim}
use borrow.Author.Tests.{eqb-true, eqb-false}
use lib.Dec.{eqb}
use Rattle.machines.specs.Sets.{Set, Empty, only, ◌∪◌, ◌∩◌, ◌∖◌, ◌⊆◌, ◌≐◌}

-- ---- sets from which one number goes, or to which one comes

-- what is in A is d, or it stays when d goes from A
pub is_or_stays : (A : Set) (d : ℕ) → A ⊆ (only d ∪ (A ∖ only d))
is_or_stays A d x a = go (eqb x d) refl
  where
    go : (t : Bool) → eqb x d ≡ t → (only d ∪ (A ∖ only d)) x
    go true e = inl (eqb-true x d e)
    go false e = inr (a, eqb-false x d e)

module _ (A B : Set) (d : ℕ) where
  -- it comes to A
  pub comes_left : ((A ∪ only d) ∪ B) ≐ ((A ∪ B) ∪ only d)
  comes_left x = (to, back)
    where
      to : ((A ∪ only d) ∪ B) x → ((A ∪ B) ∪ only d) x
      to (inl (inl a)) = inl (inl a)
      to (inl (inr e)) = inr e
      to (inr b) = inl (inr b)

      back : ((A ∪ B) ∪ only d) x → ((A ∪ only d) ∪ B) x
      back (inl (inl a)) = inl (inl a)
      back (inl (inr b)) = inr b
      back (inr e) = inl (inr e)

  -- it comes to B
  pub comes_right : (A ∪ (B ∪ only d)) ≐ ((A ∪ B) ∪ only d)
  comes_right x = (to, back)
    where
      to : (A ∪ (B ∪ only d)) x → ((A ∪ B) ∪ only d) x
      to (inl a) = inl (inl a)
      to (inr (inl b)) = inl (inr b)
      to (inr (inr e)) = inr e

      back : ((A ∪ B) ∪ only d) x → (A ∪ (B ∪ only d)) x
      back (inl (inl a)) = inl a
      back (inl (inr b)) = inr (inl b)
      back (inr e) = inr (inr e)

  -- it goes from A, where B hasn't got it
  pub goes_left : (B d → ⊥) → ((A ∖ only d) ∪ B) ≐ ((A ∪ B) ∖ only d)
  goes_left lacks x = (to, λ g. back g.0 g.1)
    where
      to : ((A ∖ only d) ∪ B) x → ((A ∪ B) ∖ only d) x
      to (inl a) = (inl a.0, a.1)
      to (inr b) = (inr b, λ e. lacks (subst B e b))

      back : (A ∪ B) x → (x ≡ d → ⊥) → ((A ∖ only d) ∪ B) x
      back (inl a) ne = inl (a, ne)
      back (inr b) ne = inr b

  -- it goes from C, which is B but for it, where A hasn't got it
  pub goes_right : (C : Set) → C ≐ (B ∖ only d) → (A d → ⊥) → (A ∪ C) ≐ ((A ∪ B) ∖ only d)
  goes_right C is lacks x = (to, λ g. back g.0 g.1)
    where
      to : (A ∪ C) x → ((A ∪ B) ∖ only d) x
      to (inl a) = (inl a, λ e. lacks (subst A e a))
      to (inr b) = (inr ((is x).0 b).0, ((is x).0 b).1)

      back : (A ∪ B) x → (x ≡ d → ⊥) → (A ∪ C) x
      back (inl a) ne = inl a
      back (inr b) ne = inr ((is x).1 (b, ne))

  -- it goes from A over to C, which is B with it
  pub goes_over : (C : Set) → C ≐ (B ∪ only d) → A d → ((A ∖ only d) ∪ C) ≐ (A ∪ B)
  goes_over C is had x = (to, back)
    where
      over : (B ∪ only d) x → (A ∪ B) x
      over (inl b) = inr b
      over (inr e) = inl (subst A (sym e) had)

      to : ((A ∖ only d) ∪ C) x → (A ∪ B) x
      to (inl a) = inl a.0
      to (inr b) = over ((is x).0 b)

      back : (A ∪ B) x → ((A ∖ only d) ∪ C) x
      back (inl a) = ⊎_elim (λ e. inr ((is x).1 (inr e))) inl (is_or_stays A d x a)
      back (inr b) = inr ((is x).1 (inl b))

-- ---- three parts of a set

-- K, T and A are parts of B: all of it, and no two meet
pub record Parts (K T A B : Set) : Type 0 where
  pub all : (K ∪ T ∪ A) ≐ B
  pub first : Empty (K ∩ (T ∪ A))
  pub last : Empty (A ∩ T)

module _ {K T A B : Set} (p : Parts K T A B) (d : ℕ) where
  -- d, which was in none, comes to K
  pub comes_first : (K' : Set) → K' ≐ (K ∪ only d) → (B d → ⊥) → Parts K' T A (B ∪ only d)
  comes_first K' is lacks =
      record {
        all = λ x. (to x, λ y. back x y);
        first = λ x y. apart x ((is x).0 y.0) y.1;
        last = p.last;
      }
    where
      in_first : (x : ℕ) → (K ∪ only d) x → (B ∪ only d) x
      in_first x (inl k) = inl ((p.all x).0 (inl k))
      in_first x (inr e) = inr e

      to : (x : ℕ) → (K' ∪ T ∪ A) x → (B ∪ only d) x
      to x (inl k) = in_first x ((is x).0 k)
      to x (inr y) = inl ((p.all x).0 (inr y))

      old : (x : ℕ) → (K ∪ T ∪ A) x → (K' ∪ T ∪ A) x
      old x (inl k) = inl ((is x).1 (inl k))
      old x (inr y) = inr y

      back : (x : ℕ) → (B ∪ only d) x → (K' ∪ T ∪ A) x
      back x (inl b) = old x ((p.all x).1 b)
      back x (inr e) = inl ((is x).1 (inr e))

      apart : (x : ℕ) → (K ∪ only d) x → (T ∪ A) x → ⊥
      apart x (inl k) y = p.first x (k, y)
      apart x (inr e) y = lacks (subst B e ((p.all x).0 (inr y)))

  -- d goes from K to T
  pub first_to_second : (K' T' : Set) → K' ≐ (K ∖ only d) → T' ≐ (T ∪ only d) → K d → Parts K' T' A B
  first_to_second K' T' less more had =
      record {
        all = λ x. (to x, λ b. back x ((p.all x).1 b));
        first = λ x y. apart x ((less x).0 y.0) y.1;
        last = λ x y. clear x y.0 ((more x).0 y.1);
      }
    where
      in_second : (x : ℕ) → (T ∪ only d) x → B x
      in_second x (inl t) = (p.all x).0 (inr (inl t))
      in_second x (inr e) = (p.all x).0 (inl (subst K (sym e) had))

      to : (x : ℕ) → (K' ∪ T' ∪ A) x → B x
      to x (inl k) = (p.all x).0 (inl ((less x).0 k).0)
      to x (inr (inl t)) = in_second x ((more x).0 t)
      to x (inr (inr a)) = (p.all x).0 (inr (inr a))

      back : (x : ℕ) → (K ∪ T ∪ A) x → (K' ∪ T' ∪ A) x
      back x (inl k) = ⊎_elim (λ e. inr (inl ((more x).1 (inr e)))) (λ y. inl ((less x).1 y)) (is_or_stays K d x k)
      back x (inr (inl t)) = inr (inl ((more x).1 (inl t)))
      back x (inr (inr a)) = inr (inr a)

      new : (x : ℕ) → (K ∖ only d) x → (T ∪ only d) x → ⊥
      new x k (inl t) = p.first x (k.0, inl t)
      new x k (inr e) = k.1 e

      apart : (x : ℕ) → (K ∖ only d) x → (T' ∪ A) x → ⊥
      apart x k (inl t) = new x k ((more x).0 t)
      apart x k (inr a) = p.first x (k.0, inr a)

      clear : (x : ℕ) → A x → (T ∪ only d) x → ⊥
      clear x a (inl t) = p.last x (a, t)
      clear x a (inr e) = p.first x (subst K (sym e) had, inr a)

  -- d goes from T to A
  pub second_to_last : (T' : Set) → T' ≐ (T ∖ only d) → T d → Parts K T' (A ∪ only d) B
  second_to_last T' less had =
      record {
        all = λ x. (to x, λ b. back x ((p.all x).1 b));
        first = λ x y. apart x y.0 y.1;
        last = λ x y. clear x y.0 ((less x).0 y.1);
      }
    where
      in_last : (x : ℕ) → (A ∪ only d) x → (T ∪ A) x
      in_last x (inl a) = inr a
      in_last x (inr e) = inl (subst T (sym e) had)

      to : (x : ℕ) → (K ∪ T' ∪ (A ∪ only d)) x → B x
      to x (inl k) = (p.all x).0 (inl k)
      to x (inr (inl t)) = (p.all x).0 (inr (inl ((less x).0 t).0))
      to x (inr (inr a)) = (p.all x).0 (inr (in_last x a))

      back : (x : ℕ) → (K ∪ T ∪ A) x → (K ∪ T' ∪ (A ∪ only d)) x
      back x (inl k) = inl k
      back x (inr (inl t)) = ⊎_elim (λ e. inr (inr (inr e))) (λ y. inr (inl ((less x).1 y))) (is_or_stays T d x t)
      back x (inr (inr a)) = inr (inr (inl a))

      apart : (x : ℕ) → K x → (T' ∪ (A ∪ only d)) x → ⊥
      apart x k (inl t) = p.first x (k, inl ((less x).0 t).0)
      apart x k (inr a) = p.first x (k, in_last x a)

      clear : (x : ℕ) → (A ∪ only d) x → (T ∖ only d) x → ⊥
      clear x (inl a) t = p.last x (a, t.0)
      clear x (inr e) t = t.1 e

  -- d goes from A and from B
  pub leaves_last : A d → Parts K T (A ∖ only d) (B ∖ only d)
  leaves_last had =
      record {
        all = λ x. (to x, λ b. back x b.1 ((p.all x).1 b.0));
        first = λ x y. apart x y.0 y.1;
        last = λ x y. p.last x (y.0.0, y.1);
      }
    where
      to : (x : ℕ) → (K ∪ T ∪ (A ∖ only d)) x → (B ∖ only d) x
      to x (inl k) = ((p.all x).0 (inl k), λ e. p.first x (k, inr (subst A (sym e) had)))
      to x (inr (inl t)) = ((p.all x).0 (inr (inl t)), λ e. p.last x (subst A (sym e) had, t))
      to x (inr (inr a)) = ((p.all x).0 (inr (inr a.0)), a.1)

      back : (x : ℕ) → (x ≡ d → ⊥) → (K ∪ T ∪ A) x → (K ∪ T ∪ (A ∖ only d)) x
      back x ne (inl k) = inl k
      back x ne (inr (inl t)) = inr (inl t)
      back x ne (inr (inr a)) = inr (inr (a, ne))

      apart : (x : ℕ) → K x → (T ∪ (A ∖ only d)) x → ⊥
      apart x k (inl t) = p.first x (k, inl t)
      apart x k (inr a) = p.first x (k, inr a.0)

-- the same of sets that are the same
pub parts_same : {K T A B : Set} (K' T' A' B' : Set) → K' ≐ K → T' ≐ T → A' ≐ A → B' ≐ B → Parts K T A B → Parts K' T' A' B'
parts_same {K} {T} {A} {B} K' T' A' B' k t a b p =
    record {
      all = λ x. (λ y. (b x).1 ((p.all x).0 (to x y)), λ y. back x ((p.all x).1 ((b x).0 y)));
      first = λ x y. p.first x ((k x).0 y.0, two x y.1);
      last = λ x y. p.last x ((a x).0 y.0, (t x).0 y.1);
    }
  where
    two : (x : ℕ) → (T' ∪ A') x → (T ∪ A) x
    two x (inl y) = inl ((t x).0 y)
    two x (inr y) = inr ((a x).0 y)

    to : (x : ℕ) → (K' ∪ T' ∪ A') x → (K ∪ T ∪ A) x
    to x (inl y) = inl ((k x).0 y)
    to x (inr y) = inr (two x y)

    back : (x : ℕ) → (K ∪ T ∪ A) x → (K' ∪ T' ∪ A') x
    back x (inl y) = inl ((k x).1 y)
    back x (inr (inl y)) = inr (inl ((t x).1 y))
    back x (inr (inr y)) = inr (inr ((a x).1 y))
