-- The loop that writes a row of numbers. Assumes nothing.
use Prim.Native.Nat.{ℕ, ◌+◌, ◌≤◌, ◌<◌}
use mathlib.Core.Path.{◌≡◌, refl, ap}
use mathlib.Core.List.{List, [], ◌∷◌, ◌++◌}
use native.Mathlib.Numerals.{add-one}
use lib.ListN.{length, get_or, drop, drop_of_length-le}
use lib.Seq.{drop-cons}
use Rattle.grammar.specs.Grammar.{comma, cr, lf}
use Rattle.text.specs.Text.{decimal, row_of_numbers}
use Rattle.text.specs.Wrote.{last_place, Wrote}
use Rattle.text.proofs.Writing.{Pending, begun, more, last}

-- what stands behind a number of a row: the row's end, or a comma and the numbers that follow
unfoldable pub behind_number : List ℕ → List ℕ
behind_number [] = cr ∷ lf ∷ []
behind_number (n ∷ ns) = comma ∷ row_of_numbers n ns

number_first : (n : ℕ) (ns : List ℕ) → row_of_numbers n ns ≡ decimal n ++ behind_number ns
unfolding row_of_numbers behind_number
number_first n [] = refl
number_first n (m ∷ ns) = refl

-- the loop over the numbers behind the first has come to the one at i, and a comma or the row's end is next
pub record InRow (first : ℕ) (numbers before : List ℕ) (at : ℕ) (out : List ℕ) (next i : ℕ) : Type 0 where
  pub pending : Pending before at (row_of_numbers first numbers) out next (behind_number (drop i numbers))

-- the first number is written
pub row_begun : {first : ℕ} {numbers before : List ℕ} {at : ℕ} {out : List ℕ} {next : ℕ} → length before ≤ last_place → at ≤ last_place
    → Wrote before at (decimal first) out next → InRow first numbers before at out next 0
row_begun {first} {numbers} f t w = record { pending = more (begun f t) (number_first first numbers) w }

module _ {first : ℕ} {numbers before : List ℕ} {at : ℕ} {out : List ℕ} {next i : ℕ} (r : InRow first numbers before at out next i) where
  -- a comma and a number are written
  pub numbers_more : {between after : List ℕ} {seam end : ℕ} → i < length numbers → Wrote out next (comma ∷ []) between seam
      → Wrote between seam (decimal (get_or numbers i 0)) after end → InRow first numbers before at after end (i + 1)
  unfolding behind_number
  numbers_more h w v =
      let e : drop i numbers ≡ get_or numbers i 0 ∷ drop (i + 1) numbers = rw (add-one i) (drop-cons numbers i 0 h) in
      record { pending = more (more r.pending (ap behind_number e) w) (number_first (get_or numbers i 0) (drop (i + 1) numbers)) v }

  -- the row's end is written
  pub row_ended : {between after : List ℕ} {seam end : ℕ} → length numbers ≤ i → Wrote out next (cr ∷ []) between seam
      → Wrote between seam (lf ∷ []) after end → Wrote before at (row_of_numbers first numbers) after end
  unfolding behind_number
  row_ended h v w = last (more r.pending (ap behind_number (drop_of_length-le numbers h)) v) w
