-- The theorems of the rows of a site sheet: which line a row says, and what is told of all of them.
-- Assumes nothing.
use Prim.Native.Nat.{ℕ}
use mathlib.Core.Path.{◌≡◌, refl, sym, subst, ◌∙◌}
use native.Mathlib.Omega.{arith}
use mathlib.Core.Logic.{◌↔◌}
use mathlib.Core.List.{List, []}
use lib.ListN.{drop}
use Rattle.grammar.specs.declared.cut.Cells.{Cells}
use Rattle.grammar.specs.Grammar.{Row}
use Rattle.grammar.specs.Where.{RowHolds}
use Rattle.grammar.specs.Rows.{rows_from}
use Rattle.site_lines.specs.declared.SiteLine.{SiteLine}
use Rattle.site_lines.specs.Draft.{Reading}
use Rattle.site_lines.specs.Line.{site_line_at}
use Rattle.site_lines.specs.Draft.{blank_draft}
use Rattle.site_lines.specs.Taking.{lines_in, read_lines}
use Rattle.site_lines.specs.Says.{SaysSo, TextSaysLines}
use Rattle.site_lines.specs.Gives.{RowsTold, all_taken, one_wrong}
use Rattle.site_lines.proofs.Held.{held_blank}
use Rattle.site_lines.proofs.Rows.{line_same, says_from, from_says}
use Rattle.site_lines.proofs.Text.{lines_said, lines_unique}
use Rattle.site_lines.proofs.Outcomes.{ReadOf, all, stopped, read_of}

-- The cells of a row are read as a line exactly when the row says it.
pub line_exactly : (s : List ℕ) (cells : Cells) (r : Row) → RowHolds s cells r → (line : SiteLine) → (site_line_at s cells ≡ line) ↔ SaysSo r line
line_exactly s cells r h line = (
  (λ e. subst (SaysSo r) (sym (line_same s r h) ∙ e) (says_from r)),
  (λ x. line_same s r h ∙ from_says r x),
)

-- Rows that say these lines are taken into tables that hold what they say, or the first with which something is wrong is told.
pub rows_taken : (s : List ℕ) (from : ℕ) (lines : List SiteLine) → TextSaysLines (drop from s) lines → RowsTold lines (read_lines blank_draft 1 (lines_in s (rows_from s from)))
rows_taken s from lines says = rw (lines_unique (lines_said s from) says refl) (told (read_of lines [] 1 blank_draft held_blank))
  where
    told : {r : Reading} → ReadOf [] lines 1 blank_draft r → RowsTold lines r
    told (all a f h) = all_taken a f h.holds
    told (stopped k f w e n q) = one_wrong k f w e (n ∙ omega arith)
