-- The theorems of a steps sheet: what is worked out row by row is what the sheet says.
-- Assumes nothing.
use Prim.Native.Nat.{ℕ, ◌+◌, ◌-◌, ◌≤◌}
use native.Mathlib.Omega.{arith}
use mathlib.Core.Path.{◌≡◌, refl, sym, ap, subst, ◌∙◌}
use mathlib.Core.Logic.{◌↔◌}
use mathlib.Core.Bool.{Bool, true, false}
use mathlib.Core.List.{List}
use lib.ListN.{length, drop}
use Rattle.grammar.specs.declared.cut.Cells.{Cells}
use Rattle.grammar.specs.Grammar.{Row, RowAt}
use Rattle.grammar.specs.Where.{RowHolds}
use Rattle.grammar.proofs.Exact.{rest_is_end, rest_shorter}
use Rattle.std.specs.Prelude.{Some, None, Ok, Err}
use Rattle.phases.specs.declared.table.StepRow.{StepRow}
use Rattle.steps_sheet.specs.declared.Decoded.{Decoded}
use Rattle.steps_sheet.specs.declared.Unheaded.TheVariants as unheaded
use Rattle.steps_sheet.specs.Heading.{Heading, TooLong, Wrong, Rows, heading_told}
use Rattle.steps_sheet.specs.Says.{Steps, SaysStep, BadForm, TextSaysSteps, HeadingSays, rows_at, SheetSays}
use Rattle.steps_sheet.specs.Steps.{steps_line_at, heading_at, steps_from, SheetReads}
use Rattle.steps_sheet.specs.Lent.{most_in, decoded_of}
use Rattle.steps_sheet.proofs.Rows.{step_line_same, says_line, line_says, bad_line, line_bad}
use Rattle.steps_sheet.proofs.Text as text
use Rattle.steps_sheet.proofs.Few as few

module _ (s : List ℕ) {cells : Cells} (r : Row) (h : RowHolds s cells r) where
  -- The cells of a row are read as a step exactly when the row is that step,
  pub step_exactly : (step : StepRow) → (steps_line_at s cells ≡ Some step) ↔ SaysStep r step
  step_exactly step = ((λ e. line_says r (sym (step_line_same s r h) ∙ e)), (λ x. step_line_same s r h ∙ says_line r x))

  -- and as a row of bad form exactly when it is one.
  pub bad_exactly : (steps_line_at s cells ≡ None) ↔ BadForm r
  bad_exactly = ((λ e. line_bad r (sym (step_line_same s r h) ∙ e)), (λ x. step_line_same s r h ∙ bad_line r x))

-- A text says one list of steps.
pub one_list_of_steps : {text : List ℕ} {xs ys : List StepRow} {p q : Bool} → TextSaysSteps text xs p → TextSaysSteps text ys q → (xs ≡ ys) × (p ≡ q)
one_list_of_steps a b = text.steps_one_reading a b refl

-- The steps that are read from a position on are exactly those that the text from there says; so every text says some.
pub steps_exactly : (s : List ℕ) (from : ℕ) (steps : Steps) → (steps_from s from ≡ steps) ↔ TextSaysSteps (drop from s) steps.rows steps.whole
steps_exactly s from steps = (
  (λ e. subst (λ (x : Steps). TextSaysSteps (drop from s) x.rows x.whole) e (text.steps_said s from)),
  (λ t. let u = text.steps_one_reading (text.steps_said s from) t refl in λ i. record { rows = u.0 i; whole = u.1 i }),
)

-- The heading is told as too long, wrong, or with the data rows behind it, exactly when it is so.
pub heading_exactly : (most : ℕ) (s : List ℕ) (h : Heading) → (heading_at most s ≡ h) ↔ HeadingSays most s h
heading_exactly most s h = (
  (λ e. subst (HeadingSays most s) e (text.heading_says most s)),
  (λ x. text.heading_unique most s (text.heading_says most s) x),
)

-- And what is told of it says which it is.
pub rows_told : (h : Heading) {from : ℕ} → Ok from ≡ heading_told h → h ≡ Rows from
rows_told TooLong e = cc
rows_told Wrong e = cc
rows_told (Rows from) e = cc

pub too_long_told : (h : Heading) → Err unheaded.TooLong ≡ heading_told h → h ≡ TooLong
too_long_told TooLong e = refl
too_long_told Wrong e = cc
too_long_told (Rows from) e = cc

pub wrong_told : (h : Heading) → Err unheaded.Wrong ≡ heading_told h → h ≡ Wrong
wrong_told TooLong e = cc
wrong_told Wrong e = refl
wrong_told (Rows from) e = cc

-- so that no two headings are told alike
pub told_heading : (h k : Heading) → heading_told h ≡ heading_told k → h ≡ k
told_heading h TooLong e = too_long_told h (sym e)
told_heading h Wrong e = wrong_told h (sym e)
told_heading h (Rows from) e = rows_told h (sym e)

-- A sheet with a header behind which rows begin isn't too long.
pub headed_short : (most : ℕ) (s : List ℕ) {from : ℕ} → heading_at most s ≡ Rows from → length s ≤ most
headed_short most s {from} e = go ((heading_exactly most s (Rows from)).0 e)
  where
    go : HeadingSays most s (Rows from) → length s ≤ most
    go (rows_at short a is at) = short

behind_header : (s : List ℕ) {r : Row} {rest : List ℕ} (from : ℕ) → RowAt s r rest → from + length rest ≡ length s → drop from s ≡ rest
behind_header s {rest = rest} from a e = let n : from ≡ length s - length rest = omega arith in rw n (rest_is_end a)

module _ (most : ℕ) (s : List ℕ) (steps : Steps) where
  reads_says : (from : ℕ) → HeadingSays most s (Rows from) → steps_from s from ≡ steps → SheetSays most s steps
  reads_says from (rows_at {r = r} {rest = rest} short a is at) e =
      record { short = short; header = r; rest = rest; at = a; is = is; says = rw (behind_header s from a at) at ((steps_exactly s from steps).0 e) }

  says_reads : SheetSays most s steps → SheetReads most s steps
  says_reads x =
      let from : ℕ = length s - length x.rest in
      let l = rest_shorter x.at in
      let at : length s - length x.rest + length x.rest ≡ length s = omega arith in
      record {
        from = from;
        heading = (heading_exactly most s (Rows from)).1 (rows_at x.short x.at x.is at);
        is = (steps_exactly s from steps).1 (rw (rest_is_end x.at) x.says);
      }

  -- A whole sheet is read as its header with these steps behind it exactly when it says them.
  pub sheet_exactly : SheetReads most s steps ↔ SheetSays most s steps
  sheet_exactly = ((λ x. reads_says x.from ((heading_exactly most s (Rows x.from)).0 x.heading) x.is), says_reads)

-- A sheet of n bytes has at most (n + 2) / 8 steps.
pub few_steps : (s : List ℕ) (from : ℕ) → length (steps_from s from).rows ≤ most_in (length s)
few_steps s from = few.steps_few s from

-- and no more are counted, where there is room for them
pub few_counted : (s : List ℕ) (from : ℕ) (room : Bool) {d : Decoded} → Ok d ≡ decoded_of room (steps_from s from) → d.count ≤ most_in (length s)
unfolding decoded_of
few_counted s from true {d} e =
    let is : d ≡ record { count = length (steps_from s from).rows; whole = (steps_from s from).whole } = cc in
    let n = ap (λ (x : Decoded). x.count) is in
    let few = few_steps s from in
    omega arith
few_counted s from false e = let z : ◌≡◌ {A = ℕ} 0 1 = cc in absurd (omega arith)
