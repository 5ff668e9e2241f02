-- The rows of a sheet, one at a time: what a loop over rows has to know of specs/Rows.antt.
-- Assumes nothing.
use Prim.Native.Nat.{ℕ, zero, suc, ◌+◌, ◌-◌, ◌≤◌, ◌<◌}
use native.Mathlib.Omega.{arith}
use mathlib.Core.Path.{◌≡◌, refl, ap, ◌∙◌}
use mathlib.Core.Bool.{Bool, true, false}
use mathlib.Core.List.{List}
use lib.ListN.{length}
use lib.Dec.{ltb}
use borrow.Author.Tests.{le-ltb, ltb-true, ltb-false}
use Rattle.grammar.specs.declared.cut.Cells.{Cells}
use Rattle.grammar.specs.declared.cut.RowCut.{RowCut}
use Rattle.grammar.specs.declared.cut.RowCut.TheVariants.{Cut, NoRow, Broken}
use Rattle.grammar.specs.Cut.{cut_row}
use Rattle.grammar.specs.Rows.{Rows, row, on_row, read_rows, rows_from, count_from, count_rows}
use Rattle.grammar.proofs.Steps.{cut_within}

-- behind the sheet there is no row
pub cut_behind : (s : List ℕ) (at : ℕ) → length s ≤ at → cut_row s at ≡ NoRow
unfolding cut_row
cut_behind s at h = rw (le-ltb at (length s) h)

-- and only there
pub none_behind : (s : List ℕ) (at : ℕ) → cut_row s at ≡ NoRow → length s ≤ at
none_behind s at e = go (ltb at (length s)) refl
  where
    go : (q : Bool) → ltb at (length s) ≡ q → length s ≤ at
    go true q = absurd (rw e at (cut_within s at (ltb-true at (length s) q) refl))
    go false q = ltb-false at (length s) q

-- a row that is cut was there to be cut
pub cut_there : (s : List ℕ) (at : ℕ) {cells : Cells} {next : ℕ} → cut_row s at ≡ Cut cells next → (at < next) × (next ≤ length s)
cut_there s at {cells} {next} e = go (ltb at (length s)) refl
  where
    go : (q : Bool) → ltb at (length s) ≡ q → (at < next) × (next ≤ length s)
    go true q = cut_within s at (ltb-true at (length s) q) e
    go false q =
        let h = cut_behind s at (ltb-false at (length s) q) in
        let z : ◌≡◌ {A = ℕ} 0 1 = cc in
        absurd (omega arith)

module _ (s : List ℕ) where
  -- what is read behind a row matters only behind that row
  same_behind : (at : ℕ) (cut : RowCut) (f g : ℕ → Rows) → cut_row s at ≡ cut
      → ((next : ℕ) → at < next → next ≤ length s → f next ≡ g next) → on_row cut f ≡ on_row cut g
  same_behind at (Cut cells next) f g e h = let w = cut_there s at e in ap (row cells) (h next w.0 w.1)
  same_behind at NoRow f g e h = refl
  same_behind at (Broken byte) f g e h = refl

  -- one row more than there can be is as good as any number more
  enough : (m n at : ℕ) → length s - at < m → length s - at < n → read_rows m s at ≡ read_rows n s at
  unfolding read_rows
  enough zero n at h k = absurd (omega arith)
  enough (suc m) zero at h k = absurd (omega arith)
  enough (suc m) (suc n) at h k =
      same_behind at (cut_row s at) (λ next. read_rows m s next) (λ next. read_rows n s next) refl
      (λ next l w. enough m n next (omega arith) (omega arith))

  -- the rows from a position on: the row there, and the rows behind it
  pub rows_next : (at : ℕ) → rows_from s at ≡ on_row (cut_row s at) (rows_from s)
  unfolding rows_from read_rows
  rows_next at =
      same_behind at (cut_row s at) (λ next. read_rows (length s - at) s next) (λ next. read_rows (suc (length s - next)) s next) refl
      (λ next l w. enough (length s - at) (suc (length s - next)) next (omega arith) (omega arith))

-- the loop over the rows of a sheet: the answer from here on is the answer from the start
pub record CountSoFar (s : List ℕ) (rows at : ℕ) : Type 0 where
  pub answer : count_rows s ≡ count_from rows (rows_from s at)
  pub few : rows ≤ at
  pub within : at ≤ length s

pub count_start : (s : List ℕ) → CountSoFar s 0 0
unfolding count_rows
count_start s = record { answer = refl; few = omega arith; within = omega arith }

module _ {s : List ℕ} {rows at : ℕ} (so : CountSoFar s rows at) where
  pub count_turn : {cut : RowCut} → cut_row s at ≡ cut → count_rows s ≡ count_from rows (on_row cut (rows_from s))
  count_turn e = so.answer ∙ ap (count_from rows) (rows_next s at ∙ ap (λ (c : RowCut). on_row c (rows_from s)) e)

  pub count_more : {cells : Cells} {next : ℕ} → cut_row s at ≡ Cut cells next → CountSoFar s (rows + 1) next
  unfolding count_from
  count_more e =
      let w = cut_there s at e in
      let f = so.few in
      record { answer = count_turn e; few = omega arith; within = w.1 }
