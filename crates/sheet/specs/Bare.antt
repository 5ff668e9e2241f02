-- What the short way of the row cutter looks for: bytes at which no bare field ends, and a byte at a place.
use Rattle.std.specs.Prelude.{ℕ, ◌≡◌, ◌≤◌, ◌<◌, Bool, true, false, cond, List, length, get_or, ltb, eqb}
use Rattle.grammar.specs.Grammar.{comma}

-- every byte from `at` on and before `end` is above the comma; quote, comma, CR and LF are not
pub record BareUpTo (s : List ℕ) (at end : ℕ) : Type 0 where
  pub onward : at ≤ end
  pub bare : (i : ℕ) → i < end → at ≤ i → comma < get_or s i 0

-- this byte stands at this place of the sheet
unfoldable pub has_at : List ℕ → ℕ → ℕ → Bool
has_at s at byte = cond (ltb at (length s)) (eqb (get_or s at 0) byte) false

-- a bare field that begins at `at` is ended by this byte at `end`
pub record BareTo (s : List ℕ) (at end byte : ℕ) : Type 0 where
  pub field : BareUpTo s at end
  pub ends : has_at s end byte ≡ true
