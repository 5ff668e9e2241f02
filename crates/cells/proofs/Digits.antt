-- Bytes of which one is no digit are no number. Assumes nothing.
use Prim.Native.Nat.{ℕ, ◌<◌}
use mathlib.Core.Path.{◌≡◌, refl, ◌∙◌}
use mathlib.Core.Bool.{Bool, true, false, cond}
use mathlib.Core.List.{List}
use mathlib.Core.Logic.{◌⊎◌, inl, inr}
use lib.Dec.{ltb}
use lib.ListN.{length, get_or}
use borrow.Author.Tests.{lt-ltb}
use Rattle.std.specs.Prelude.{Option, None}
use Rattle.cell_meaning.specs.Say.{digits_from}
use Rattle.cell_meaning.proofs.Saying.{DigitsSoFar, digits_turn}

outside : (b : ℕ) (more : Option ℕ) → (b < 48) ⊎ (57 < b) → cond (ltb b 48) None (cond (ltb 57 b) None more) ≡ None
outside b more (inl h) = rw (lt-ltb b 48 h)
outside b more (inr h) = go (ltb b 48)
  where
    go : (q : Bool) → cond q None (cond (ltb 57 b) None more) ≡ None
    go true = refl
    go false = rw (lt-ltb 57 b h)

pub digits_stop : {c : List ℕ} {value i : ℕ} → DigitsSoFar c value i → i < length c → (get_or c i 0 < 48) ⊎ (57 < get_or c i 0) → digits_from 0 c ≡ None
digits_stop {c} {value} {i} so h o = digits_turn so h ∙ outside (get_or c i 0) _ o
