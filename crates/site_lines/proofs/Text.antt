-- The lines that are read of a text are those that it says, and it says no others.
-- Assumes nothing.
use Prim.Native.Nat.{ℕ, zero, suc, ◌-◌, ◌≤◌, ◌<◌}
use native.Mathlib.Omega.{arith}
use mathlib.Core.Path.{◌≡◌, refl, sym, ap, ap₂, ◌∙◌}
use mathlib.Core.List.{List, ◌∷◌}
use lib.ListN.{length, drop}
use Rattle.grammar.specs.declared.cut.RowCut.{RowCut}
use Rattle.grammar.specs.declared.cut.RowCut.TheVariants.{Cut, NoRow, Broken}
use Rattle.grammar.specs.Cut.{cut_row}
use Rattle.grammar.specs.Rows.{on_row, rows_from}
use Rattle.grammar.specs.Grammar.{Row}
use Rattle.grammar.proofs.Reading.{cut_there, rows_next}
use Rattle.grammar.proofs.Unique.{row_unique, no_row_at}
use Rattle.grammar.proofs.Exact.{cut_is_row, no_row_end, broken_some, broken_none}
use Rattle.site_lines.specs.declared.SiteLine.{SiteLine}
use Rattle.site_lines.specs.Line.{site_line_at}
use Rattle.site_lines.specs.Taking.{lines_in}
use Rattle.site_lines.specs.Says.{SaysSo, TextSaysLines, nothing, a_row, no_row_there}
use Rattle.site_lines.proofs.Rows.{line_from, line_same, says_from, from_says}

module _ (s : List ℕ) (at : ℕ) where
  turn : (cut : RowCut) → cut_row s at ≡ cut → ((next : ℕ) → at < next → next ≤ length s → TextSaysLines (drop next s) (lines_in s (rows_from s next)))
      → TextSaysLines (drop at s) (lines_in s (on_row cut (rows_from s)))
  unfolding lines_in
  turn (Cut cells next) e more =
      let c = cut_is_row s at e in
      let w = cut_there s at e in
      let x : SaysSo c.row (site_line_at s cells) = rw (line_same s c.row c.holds) (says_from c.row) in
      a_row c.there x (rw c.behind at (more next w.0 w.1))
  turn NoRow e more = rw (no_row_end s at e) nothing
  turn (Broken byte) e more = no_row_there (broken_some s at e) (broken_none s at e)

says_most : (s : List ℕ) (most at : ℕ) → length s - at < most → TextSaysLines (drop at s) (lines_in s (rows_from s at))
says_most s zero at h = absurd (omega arith)
says_most s (suc most) at h = rw (rows_next s at) (turn s at (cut_row s at) refl (λ next l w. says_most s most next (omega arith)))

pub lines_said : (s : List ℕ) (at : ℕ) → TextSaysLines (drop at s) (lines_in s (rows_from s at))
lines_said s at = says_most s (suc (length s - at)) at (omega arith)

-- a row says one line, so that a text says one list of lines
line_unique : {r r' : Row} {line line' : SiteLine} → r ≡ r' → SaysSo r line → SaysSo r' line' → line ≡ line'
line_unique {r} {r'} e x y = sym (from_says r x) ∙ ap line_from e ∙ from_says r' y

pub lines_unique : {text text' : List ℕ} {lines lines' : List SiteLine} → TextSaysLines text lines → TextSaysLines text' lines' → text ≡ text' → lines ≡ lines'
lines_unique nothing nothing e = refl
lines_unique nothing (a_row a x t) e = absurd (no_row_at a e)
lines_unique nothing (no_row_there n m) e = absurd (n (sym e))
lines_unique (a_row a x t) nothing e = absurd (no_row_at a (sym e))
lines_unique (a_row a x t) (a_row b y u) e =
    let k = row_unique a b e in
    ap₂ (λ (l : SiteLine) (ls : List SiteLine). l ∷ ls) (line_unique k.first x y) (lines_unique t u k.behind)
lines_unique (a_row {r = r} {rest = rest} a x t) (no_row_there n m) e = absurd (m r rest (rw e at a))
lines_unique (no_row_there n m) nothing e = absurd (n e)
lines_unique (no_row_there n m) (a_row {r = r} {rest = rest} b y u) e = absurd (m r rest (rw (sym e) at b))
lines_unique (no_row_there n m) (no_row_there n' m') e = refl
