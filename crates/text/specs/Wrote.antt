-- A text at a place of a lent list. What would lie past the list's end is left out.
use Rattle.std.specs.Prelude.{ℕ, ◌+◌, ◌-◌, ◌^◌, min, ◌≡◌, List, length}
use Rattle.std.proofs.lemmas.List.Edits.{sets}

-- the largest number that a place can have
abbrev pub last_place : ℕ
last_place = 2 ^ 64 - 1

-- the place n bytes behind another: there is none behind the last
unfoldable pub behind : ℕ → ℕ → ℕ
behind at n = min (at + n) last_place

-- the text stands in the list from `at` on, the rest of the list is unaltered, and `next` is the place behind the text
pub record Wrote (before : List ℕ) (at : ℕ) (text after : List ℕ) (next : ℕ) : Type 0 where
  pub place : next ≡ behind at (length text)
  pub list : after ≡ sets before at text
