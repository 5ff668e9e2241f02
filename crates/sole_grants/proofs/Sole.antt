-- The test that no person has two grants tells the fact: `sole_tells`. Assumes nothing.
use Prim.Native.Nat.{ℕ, ◌<◌}
use mathlib.Core.Path.{◌≡◌, refl, sym, ◌∙◌}
use mathlib.Core.Bool.{true, false}
use mathlib.Core.List.{List}
use native.Mathlib.Omega.{arith}
use lib.ListN.{get_or}
use Rattle.tables.specs.Below.{Tells}
use Rattle.tables.proofs.Laws.{tell_all, tell_as, tell_when, tell_fails}
use Rattle.phases.specs.Phase.{grants}
use Rattle.granting.specs.Grants.{GrantAt, has_grant}
use Rattle.granting.proofs.Granting.{no_grant, none_found}
use Rattle.sole_grants.specs.Sole.{NoTwo, sole_grant, sole_grants}

module _ (n : ℕ) (phase holder : List ℕ) where
  -- no door before d holds a grant of the person of d's own
  abbrev First : ℕ → Type 0
  First d = grants (get_or phase d 0) ≡ true → has_grant d phase holder (get_or holder d 0) ≡ false

  -- of a person no door before d holds a grant if d does
  none_before : ((d : ℕ) → d < n → First d) → (p d e : ℕ) → GrantAt n phase holder p d → GrantAt n phase holder p e → e < d → ⊥
  none_before first p d e here there lt =
      no_grant d phase holder (get_or holder d 0) (first d here.exists here.holds) e
      (record { exists = lt; holds = there.holds; person = there.person ∙ sym here.person })

  pub sole_tells : Tells (sole_grants n phase holder) (NoTwo n phase holder)
  unfolding sole_grants sole_grant
  sole_tells =
      tell_as
      (λ first p d e here there.
      let one = none_before first p d e here there in
      let other = none_before first p e d there here in
      omega arith)
      (λ two d h g.
      none_found d phase holder (get_or holder d 0)
      (λ e o.
      let lt = o.exists in
      let same = two (get_or holder d 0) d e (record { exists = h; holds = g; person = refl }) (record { exists = omega arith; holds = o.holds; person = o.person }) in
      omega arith))
      (tell_all (sole_grant phase holder) First n (λ d. tell_when (grants (get_or phase d 0)) (tell_fails _)))
