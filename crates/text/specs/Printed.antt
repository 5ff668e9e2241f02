-- A text in a lent list that may be too short for it.
use Rattle.std.specs.Prelude.{ℕ, ◌≡◌, Bool, cond, List, length, leb, Result, Ok, Err}
use Rattle.std.proofs.lemmas.List.Edits.{sets}
use Rattle.std.specs.Borrow.{MutBor}
use Rattle.std.specs.Fn.{Shared}
use Rattle.text.specs.Wrote.{Wrote}
use Rattle.findings.specs.declared.TooShort.{TooShort}
use Rattle.findings.specs.Told.{too_short}

unfoldable pub fits_in : List ℕ → List ℕ → Bool
fits_in text out = leb (length text) (length out)

-- a text that fits is told by its length,
unfoldable pub printed_of : List ℕ → List ℕ → Result ℕ TooShort
printed_of text out = cond (fits_in text out) (Ok (length text)) (Err too_short)

-- and stands at the list's front with the rest unaltered; else nothing is written
unfoldable pub written : List ℕ → List ℕ → List ℕ
written text out = cond (fits_in text out) (sets out 0 text) out

-- what every function promises that prints a text into a lent list: what it tells, and what the list holds at exit
pub record Prints (text before : List ℕ) (told : Result ℕ TooShort) (after : List ℕ) : Type 0 where
  pub answer : told ≡ printed_of text before
  pub list : after ≡ written text before

-- a function writes this text at the front of each list that it is lent
abbrev pub Puts : {F : Type 0} → Shared F (MutBor (List ℕ) × Unit {0}) (ℕ × (MutBor (List ℕ) × Unit {0})) → F → List ℕ → Type 0
Puts {F} g put text = (out : MutBor (List ℕ)) (next : ℕ) (left : MutBor (List ℕ)) → g.post put (out, tt) (next, (left, tt)) → Wrote out.now 0 text left.now next
