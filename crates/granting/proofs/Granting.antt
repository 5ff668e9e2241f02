-- What the search for a grant tells. Assumes nothing.
use Prim.Native.Nat.{ℕ, ◌<◌}
use mathlib.Core.Path.{◌≡◌, refl}
use mathlib.Core.Bool.{Bool, true, false, not, true≢false, false≢true}
use mathlib.Core.List.{List}
use native.Mathlib.Omega.{arith}
use borrow.Author.Tests.{eq-eqb, eqb-true}
use lib.ListN.{get_or}
use Rattle.std.specs.Prelude.{Option, Some, None}
use Rattle.tables.specs.Below.{least_below, is_nothing}
use Rattle.tables.proofs.Laws.{and_left, and_right, and_both, clash, least_none, none_least, least_at, at_least, not_so as untrue}
use Rattle.phases.specs.Phase.{grants}
use Rattle.granting.specs.Grants.{GrantAt, grants_to, grant_of, has_grant}

module _ (n : ℕ) (phase holder : List ℕ) (p : ℕ) where
  grant_at : (d : ℕ) → d < n → grants_to phase holder p d ≡ true → GrantAt n phase holder p d
  unfolding grants_to
  grant_at d h e = record { exists = h; holds = and_left _ _ e; person = eqb-true _ _ (and_right (grants (get_or phase d 0)) _ e) }

  at_grant : (d : ℕ) → GrantAt n phase holder p d → grants_to phase holder p d ≡ true
  unfolding grants_to
  at_grant d g = and_both _ _ g.holds (eq-eqb _ _ g.person)

  -- where none is found, no door holds one
  pub no_grant : has_grant n phase holder p ≡ false → (d : ℕ) → GrantAt n phase holder p d → ⊥
  unfolding has_grant grant_of
  no_grant e d g =
      clash (at_grant d g) (least_none (grants_to phase holder p) n (nothing (least_below (grants_to phase holder p) n) e) d g.exists)
    where
      nothing : (f : Option ℕ) → not (is_nothing f) ≡ false → f ≡ None
      nothing (Some k) q = absurd (true≢false q)
      nothing None q = refl

  -- where one is found, that door holds it
  pub found_grant : (d : ℕ) → grant_of n phase holder p ≡ Some d → GrantAt n phase holder p d
  unfolding grant_of
  found_grant d e = let l = least_at (grants_to phase holder p) n d e in grant_at d l.0 l.1

  -- where some is, one is found
  pub has_grant_lem : has_grant n phase holder p ≡ true → (d : ℕ) × GrantAt n phase holder p d
  unfolding has_grant
  has_grant_lem e = go (grant_of n phase holder p) refl e
    where
      go : (f : Option ℕ) → grant_of n phase holder p ≡ f → not (is_nothing f) ≡ true → (d : ℕ) × GrantAt n phase holder p d
      go (Some d) q t = (d, found_grant d q)
      go None q t = absurd (false≢true t)

  -- and where no door holds one, none is found
  pub none_found : ((d : ℕ) → GrantAt n phase holder p d → ⊥) → has_grant n phase holder p ≡ false
  unfolding has_grant grant_of
  none_found none = rw (none_least (grants_to phase holder p) n (λ d h. untrue (grants_to phase holder p d) (λ e. none d (grant_at d h e))))

  -- and where a door holds one, one is found
  pub one_found : (d : ℕ) → GrantAt n phase holder p d → has_grant n phase holder p ≡ true
  one_found d g = go (has_grant n phase holder p) refl
    where
      go : (b : Bool) → has_grant n phase holder p ≡ b → b ≡ true
      go true e = refl
      go false e = absurd (no_grant e d g)

  -- the door that is found is the smallest that holds one,
  pub found_first : (d : ℕ) → grant_of n phase holder p ≡ Some d → (e : ℕ) → e < d → GrantAt n phase holder p e → ⊥
  unfolding grant_of
  found_first d e k lt g = clash (at_grant k g) ((least_at (grants_to phase holder p) n d e).2 k lt)

  -- and the smallest is found
  pub first_found : (d : ℕ) → GrantAt n phase holder p d → ((e : ℕ) → e < d → GrantAt n phase holder p e → ⊥) → grant_of n phase holder p ≡ Some d
  unfolding grant_of
  first_found d g none =
      at_least (grants_to phase holder p) n d g.exists (at_grant d g)
      (λ e lt. untrue (grants_to phase holder p e) (λ t. let h = g.exists in none e lt (grant_at e (omega arith) t)))

  -- so is one that holds it where no other does
  pub grant_is : (d : ℕ) → GrantAt n phase holder p d → ((e : ℕ) → GrantAt n phase holder p e → (e ≡ d → ⊥) → ⊥) → grant_of n phase holder p ≡ Some d
  grant_is d g only = first_found d g (λ e lt h. only e h (λ is. omega arith))

  pub no_door : ((d : ℕ) → GrantAt n phase holder p d → ⊥) → grant_of n phase holder p ≡ None
  unfolding grant_of
  no_door none = none_least (grants_to phase holder p) n (λ d h. untrue (grants_to phase holder p d) (λ e. none d (grant_at d h e)))
