-- What lines say: of each one among them, and when one more comes behind them.
-- Assumes nothing.
use Prim.Native.Nat.{ℕ}
use mathlib.Core.Path.{◌≡◌, refl, sym, ap}
use mathlib.Core.Bool.{Bool, true, false, cond, true≢false}
use mathlib.Core.List.{List, [], ◌∷◌, ◌++◌}
use lib.Dec.{eqb}
use borrow.Author.Tests.{eq-eqb, eqb-true}
use Rattle.tables.specs.Tables.{or_else, and_also}
use Rattle.tables.proofs.Laws.{and_left, and_right, and_both, or_left, or_right}
use Rattle.site_lines.specs.declared.SiteLine.{SiteLine}
use Rattle.site_lines.specs.declared.SiteLine.TheVariants.{Site, Door, Exit, Right, Bad}
use Rattle.site_lines.specs.Says.{Among, first, behind, HasExit, people_in, locations_in, origins_in, destinations_in, is_exit, has_exit, target, exit_in, is_right, has_right}

pub people_more : (before more : List SiteLine) → (before ≡ [] → ⊥) → people_in (before ++ more) ≡ people_in before
people_more [] more n = absurd (n refl)
people_more (Site p l ∷ before) more n = refl
people_more (Door o t ∷ before) more n = refl
people_more (Exit l m ∷ before) more n = refl
people_more (Right p l ∷ before) more n = refl
people_more (Bad ∷ before) more n = refl

pub locations_more : (before more : List SiteLine) → (before ≡ [] → ⊥) → locations_in (before ++ more) ≡ locations_in before
locations_more [] more n = absurd (n refl)
locations_more (Site p l ∷ before) more n = refl
locations_more (Door o t ∷ before) more n = refl
locations_more (Exit l m ∷ before) more n = refl
locations_more (Right p l ∷ before) more n = refl
locations_more (Bad ∷ before) more n = refl

pub origins_more : (before more : List SiteLine) → origins_in (before ++ more) ≡ origins_in before ++ origins_in more
unfolding origins_in
origins_more [] more = refl
origins_more (Site p l ∷ before) more = origins_more before more
origins_more (Door o t ∷ before) more = ap (λ (x : List ℕ). o ∷ x) (origins_more before more)
origins_more (Exit l m ∷ before) more = origins_more before more
origins_more (Right p l ∷ before) more = origins_more before more
origins_more (Bad ∷ before) more = origins_more before more

pub destinations_more : (before more : List SiteLine) → destinations_in (before ++ more) ≡ destinations_in before ++ destinations_in more
unfolding destinations_in
destinations_more [] more = refl
destinations_more (Site p l ∷ before) more = destinations_more before more
destinations_more (Door o t ∷ before) more = ap (λ (x : List ℕ). t ∷ x) (destinations_more before more)
destinations_more (Exit l m ∷ before) more = destinations_more before more
destinations_more (Right p l ∷ before) more = destinations_more before more
destinations_more (Bad ∷ before) more = destinations_more before more

or_or : (a b c : Bool) → or_else a (or_else b c) ≡ or_else (or_else a b) c
unfolding or_else
or_or true b c = refl
or_or false b c = refl

pub exit_more : (k : ℕ) (before more : List SiteLine) → has_exit k (before ++ more) ≡ or_else (has_exit k before) (has_exit k more)
unfolding has_exit or_else
exit_more k [] more = refl
exit_more k (line ∷ before) more = rw (exit_more k before more) (or_or (is_exit k line) (has_exit k before) (has_exit k more))

pub right_more : (q k : ℕ) (before more : List SiteLine) → has_right q k (before ++ more) ≡ or_else (has_right q k before) (has_right q k more)
unfolding has_right or_else
right_more q k [] more = refl
right_more q k (line ∷ before) more = rw (right_more q k before more) (or_or (is_right q k line) (has_right q k before) (has_right q k more))

-- where the lines before give no exit of k, the next one that does is the first
pub target_more : (k : ℕ) (before more : List SiteLine) → exit_in k (before ++ more) ≡ cond (has_exit k before) (exit_in k before) (exit_in k more)
unfolding exit_in has_exit or_else
target_more k [] more = refl
target_more k (line ∷ before) more = rw (target_more k before more) (both (is_exit k line))
  where
    both : (q : Bool) → cond q (target line) (cond (has_exit k before) (exit_in k before) (exit_in k more))
        ≡ cond (or_else q (has_exit k before)) (cond q (target line) (exit_in k before)) (exit_in k more)
    both true = refl
    both false = refl

-- ---- a line among others, and what they say

exit_behind : {line : SiteLine} {lines : List SiteLine} {k : ℕ} → HasExit lines k → HasExit (line ∷ lines) k
exit_behind h = record { to = h.to; row = behind h.row }

module _ (k : ℕ) where
  pub has_exit_lem : (lines : List SiteLine) → has_exit k lines ≡ true → HasExit lines k
  unfolding has_exit or_else
  has_exit_lem [] e = absurd (true≢false (sym e))
  has_exit_lem (Site p l ∷ lines) e = exit_behind (has_exit_lem lines e)
  has_exit_lem (Door o t ∷ lines) e = exit_behind (has_exit_lem lines e)
  has_exit_lem (Right p l ∷ lines) e = exit_behind (has_exit_lem lines e)
  has_exit_lem (Bad ∷ lines) e = exit_behind (has_exit_lem lines e)
  has_exit_lem (Exit l m ∷ lines) e = go (eqb l k) refl e (λ q. has_exit_lem lines q)
    where
      go : (q : Bool) → eqb l k ≡ q → or_else q (has_exit k lines) ≡ true → (has_exit k lines ≡ true → HasExit lines k) → HasExit (Exit l m ∷ lines) k
      go true q e' more = record { to = m; row = rw (eqb-true l k q) first }
      go false q e' more = exit_behind (more e')

  pub exit_has : {m : ℕ} {lines : List SiteLine} → Among (Exit k m) lines → has_exit k lines ≡ true
  unfolding has_exit
  exit_has first = or_left _ _ (eq-eqb k k refl)
  exit_has (behind b) = or_right _ _ (exit_has b)

module _ (p k : ℕ) where
  pub right_row : (lines : List SiteLine) → has_right p k lines ≡ true → Among (Right p k) lines
  unfolding has_right or_else
  right_row [] e = absurd (true≢false (sym e))
  right_row (Site q l ∷ lines) e = behind (right_row lines e)
  right_row (Door o t ∷ lines) e = behind (right_row lines e)
  right_row (Exit l m ∷ lines) e = behind (right_row lines e)
  right_row (Bad ∷ lines) e = behind (right_row lines e)
  right_row (Right q l ∷ lines) e = go (and_also (eqb q p) (eqb l k)) refl e (λ x. right_row lines x)
    where
      go : (b : Bool) → and_also (eqb q p) (eqb l k) ≡ b → or_else b (has_right p k lines) ≡ true → (has_right p k lines ≡ true → Among (Right p k) lines)
          → Among (Right p k) (Right q l ∷ lines)
      go true b e' more =
          let x = eqb-true q p (and_left _ _ b) in
          let y = eqb-true l k (and_right (eqb q p) _ b) in
          rw (x, y) first
      go false b e' more = behind (more e')

  pub right_has : {lines : List SiteLine} → Among (Right p k) lines → has_right p k lines ≡ true
  unfolding has_right
  right_has first = or_left _ _ (and_both _ _ (eq-eqb p p refl) (eq-eqb k k refl))
  right_has (behind b) = or_right _ _ (right_has b)
