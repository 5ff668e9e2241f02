-- The steps that are read of a text are those that it says, and it says no others; and so its heading.
-- Assumes nothing.
use Prim.Native.Nat.{ℕ, zero, suc, ◌-◌, ◌≤◌, ◌<◌}
use native.Mathlib.Omega.{arith}
use mathlib.Core.Path.{◌≡◌, refl, sym, ap, ◌∙◌}
use mathlib.Core.Logic.{◌↔◌}
use mathlib.Core.Bool.{Bool, true}
use mathlib.Core.List.{List, ◌∷◌}
use lib.ListN.{length, drop}
use borrow.Author.Tests.{ltb-true, ltb-false}
use Rattle.tables.proofs.Laws.{clash}
use Rattle.tables.proofs.Cases.{either}
use Rattle.grammar.specs.declared.cut.Cells.{Cells}
use Rattle.grammar.specs.declared.cut.RowCut.{RowCut}
use Rattle.grammar.specs.declared.cut.RowCut.TheVariants.{Cut, NoRow, Broken}
use Rattle.grammar.specs.Cut.{cut_row}
use Rattle.grammar.specs.Rows.{on_row, rows_from}
use Rattle.grammar.specs.Grammar.{Row, RowAt}
use Rattle.grammar.specs.Where.{holds_quote, RowHolds}
use Rattle.grammar.proofs.Reading.{cut_there, rows_next}
use Rattle.grammar.proofs.Unique.{row_unique, no_row_at}
use Rattle.grammar.proofs.Exact.{cut_is_row, rest_shorter, no_row_end, broken_some, broken_none}
use Rattle.cell_meaning.proofs.Contents.{words_exact}
use Rattle.std.specs.Prelude.{Option, Some, None}
use Rattle.phases.specs.declared.table.StepRow.{StepRow}
use Rattle.steps_sheet.specs.Heading.{Heading, Rows}
use Rattle.steps_sheet.specs.Words.{step_head, door_head, person_head}
use Rattle.steps_sheet.specs.Says.{Steps, SaysStep, TextSaysSteps, nothing, a_step, bad_row_first, no_row_there, StepsHeaderRow, HeadingSays, too_long, wrong, rows_at}
use Rattle.steps_sheet.specs.Steps.{steps_line_at, steps_header_at, headed, heading_at, before, steps_in, steps_from}
use Rattle.steps_sheet.proofs.Rows.{step_from, step_line_same, says_line, line_says, line_bad}

-- ---- the steps

-- a text says the steps of a list, and whether it ends behind them
abbrev Said : List ℕ → Steps → Type 0
Said text steps = TextSaysSteps text steps.rows steps.whole

module _ (s : List ℕ) (at : ℕ) where
  row_turn : {r : Row} {rest : List ℕ} (line : Option StepRow) → RowAt (drop at s) r rest → step_from r ≡ line → (steps : Steps) → Said rest steps
      → Said (drop at s) (before line steps)
  row_turn {r} (Some step) a e steps more = a_step a (line_says r e) more
  row_turn {r} None a e steps more = bad_row_first a (line_bad r e)

  turn : (cut : RowCut) → cut_row s at ≡ cut → ((next : ℕ) → at < next → next ≤ length s → Said (drop next s) (steps_from s next))
      → Said (drop at s) (steps_in s (on_row cut (rows_from s)))
  unfolding steps_in
  turn (Cut cells next) e more =
      let c = cut_is_row s at e in
      let w = cut_there s at e in
      row_turn (steps_line_at s cells) c.there (sym (step_line_same s c.row c.holds)) (steps_from s next) (rw c.behind at (more next w.0 w.1))
  turn NoRow e more = rw (no_row_end s at e) nothing
  turn (Broken byte) e more = no_row_there (broken_some s at e) (broken_none s at e)

says_most : (s : List ℕ) (most at : ℕ) → length s - at < most → Said (drop at s) (steps_from s at)
says_most s zero at h = absurd (omega arith)
says_most s (suc most) at h = rw (rows_next s at) (turn s at (cut_row s at) refl (λ next l w. says_most s most next (omega arith)))

pub steps_said : (s : List ℕ) (at : ℕ) → Said (drop at s) (steps_from s at)
steps_said s at = says_most s (suc (length s - at)) at (omega arith)

-- a row says one step, so that a text says one list of steps
step_unique : {r r' : Row} {x y : StepRow} → r ≡ r' → SaysStep r x → SaysStep r' y → x ≡ y
step_unique {r} {r'} {x} {y} e a b =
    let z : Some x ≡ Some y = sym (says_line r a) ∙ ap step_from e ∙ says_line r' b in
    cc

pub steps_one_reading : {text text' : List ℕ} {xs ys : List StepRow} {p q : Bool} → TextSaysSteps text xs p → TextSaysSteps text' ys q → text ≡ text'
    → (xs ≡ ys) × (p ≡ q)
steps_one_reading nothing nothing e = (refl, refl)
steps_one_reading nothing (a_step a x t) e = absurd (no_row_at a e)
steps_one_reading nothing (bad_row_first a x) e = absurd (no_row_at a e)
steps_one_reading nothing (no_row_there n m) e = absurd (n (sym e))
steps_one_reading (a_step a x t) nothing e = absurd (no_row_at a (sym e))
steps_one_reading (a_step a x t) (a_step b y u) e =
    let k = row_unique a b e in
    let rest = steps_one_reading t u k.behind in
    let first = step_unique k.first x y in
    ((λ i. first i ∷ rest.0 i), rest.1)
steps_one_reading (a_step {step = step} a x t) (bad_row_first b y) e = let k = row_unique a b e in absurd (y step (rw k.first at x))
steps_one_reading (a_step {r = r} {rest = rest} a x t) (no_row_there n m) e = absurd (m r rest (rw e at a))
steps_one_reading (bad_row_first a x) nothing e = absurd (no_row_at a (sym e))
steps_one_reading (bad_row_first a x) (a_step {step = step} b y u) e = let k = row_unique a b e in absurd (x step (rw (← k.first) at y))
steps_one_reading (bad_row_first a x) (bad_row_first b y) e = (refl, refl)
steps_one_reading (bad_row_first {r = r} {rest = rest} a x) (no_row_there n m) e = absurd (m r rest (rw e at a))
steps_one_reading (no_row_there n m) nothing e = absurd (n e)
steps_one_reading (no_row_there n m) (a_step {r = r} {rest = rest} b y u) e = absurd (m r rest (rw (sym e) at b))
steps_one_reading (no_row_there n m) (bad_row_first {r = r} {rest = rest} b y) e = absurd (m r rest (rw (sym e) at b))
steps_one_reading (no_row_there n m) (no_row_there n' m') e = (refl, refl)

-- ---- the heading

header_exact : (s : List ℕ) {cells : Cells} (r : Row) → RowHolds s cells r → (steps_header_at s cells ≡ true) ↔ StepsHeaderRow r
unfolding steps_header_at holds_quote
header_exact s r h = words_exact s r step_head door_head person_head h refl refl refl

module _ (most : ℕ) (s : List ℕ) where
  heading_cut : length s ≤ most → (cut : RowCut) → cut_row s 0 ≡ cut → HeadingSays most s (headed s cut)
  heading_cut short (Cut cells next) e =
      let c = cut_is_row s 0 e in
      let x = header_exact s c.row c.holds in
      let l = rest_shorter c.there in
      let n = c.next_is in
      either (HeadingSays most s) (steps_header_at s cells) (λ is. rows_at short c.there (x.0 is) (omega arith))
      (λ no. wrong short (λ r rest a is. clash (x.1 (rw (row_unique a c.there refl).first at is)) no))
  heading_cut short NoRow e = wrong short (λ r rest a is. no_row_at a (sym (no_row_end s 0 e)))
  heading_cut short (Broken byte) e = wrong short (λ r rest a is. broken_none s 0 e r rest a)

  pub heading_says : HeadingSays most s (heading_at most s)
  unfolding heading_at
  heading_says =
      either (HeadingSays most s) _ (λ l. too_long (ltb-true most _ l)) (λ l. heading_cut (ltb-false most _ l) (cut_row s 0) refl)

  pub heading_unique : {h k : Heading} → HeadingSays most s h → HeadingSays most s k → h ≡ k
  heading_unique (too_long l) (too_long m) = refl
  heading_unique (too_long l) (wrong m n) = absurd (omega arith)
  heading_unique (too_long l) (rows_at m a is f) = absurd (omega arith)
  heading_unique (wrong l n) (too_long m) = absurd (omega arith)
  heading_unique (wrong l n) (wrong m o) = refl
  heading_unique (wrong l n) (rows_at m a is f) = absurd (n _ _ a is)
  heading_unique (rows_at l a is f) (too_long m) = absurd (omega arith)
  heading_unique (rows_at l a is f) (wrong m n) = absurd (n _ _ a is)
  heading_unique (rows_at l a is f) (rows_at m b js g) =
      let k = ap length (row_unique a b refl).behind in
      ap Rows (omega arith)
