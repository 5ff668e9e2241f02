-- What follows from the axioms for safety: SAF-2, and SAF-1 wherever everybody is authorized to be where they are. Assumes nothing.
use Prim.Native.Nat.{ℕ}
use mathlib.Core.Path.{sym, subst}
use mathlib.Core.Logic.{⊎_elim}
use Rattle.machines.specs.Context.{Constants, Axioms, SAF-1, SAF-2}
use Rattle.machines.proofs.Algebra.{is_or_stays}

module _ (c : Constants) (ax : Axioms c) where
  pub saf_2 : SAF-2 c
  saf_2 p l a =
      ⊎_elim (λ is. subst (λ (x : ℕ). (m : ℕ) × c.aut p m × c.«com» x m) (sym is) (ax.axm1_7 p (ax.axm0_1 p l a).0))
      (λ y. (c.exit l, ax.axm1_6 p l a y.1, ax.axm1_5 l ((ax.axm0_1 p l a).1, y.1))) (is_or_stays (c.aut p) c.out l a)

  -- "it is sufficient to prove .. aut ⊆ aut ; com⁻¹", "because we already have the invariant property sit ⊆ aut"
  pub saf_1 : (sit : ℕ → ℕ) → ((p : ℕ) → c.P p → c.aut p (sit p)) → SAF-1 c sit
  saf_1 sit placed p h = saf_2 p (sit p) (placed p h)
