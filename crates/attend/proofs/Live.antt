-- Rows that come one after the other are answered as the rows of their sheet: the same text, and the same record afterwards.
-- Assumes nothing.
use Prim.Native.Nat.{ℕ, ◌+◌}
use native.Mathlib.Omega.{arith}
use native.Mathlib.Nat.{add-zero}
use mathlib.Core.Path.{◌≡◌, refl, sym, ap, ◌∙◌}
use mathlib.Core.Bool.{Bool, true, false, false≢true}
use mathlib.Core.List.{List, [], ◌∷◌, ◌++◌, append_assoc, append-nil}
use lib.ListN.{length}
use Rattle.std.specs.Prelude.{Option, Some, None}
use Rattle.grammar.specs.Grammar.{Row, RowAt}
use Rattle.grammar.proofs.Unique.{row_unique, no_row_at}
use Rattle.phases.specs.declared.table.Kind.TheVariants.{Unknown}
use Rattle.phases.specs.Answers.{answer_no}
use Rattle.phases.specs.declared.table.StepRow.{StepRow}
use Rattle.phases.specs.Kinds.{allows}
use Rattle.record.specs.declared.record.Record.{Record}
use Rattle.record.specs.Steps.{step_of}
use Rattle.record.specs.Run.{row_of, last_of, replies_of}
use Rattle.record.proofs.Laws.{step_cases}
use Rattle.steps_sheet.specs.Says.{SaysStep, BadForm, TextSaysSteps, nothing, a_step, bad_row_first, no_row_there}
use Rattle.steps_sheet.specs.Steps.{is_step}
use Rattle.steps_sheet.proofs.Rows.{step_from, says_line, line_says, said_is_step}
use Rattle.run_text.specs.Printed.{panel_row, answer_rows, last_row}
use Rattle.attend.specs.declared.RowAsks.{RowAsks}
use Rattle.attend.specs.Attend.{asked_by, asked_in, shown_row}
use Rattle.attend.specs.Live.{InRows, no_more, a_row, no_row, live_rows, live_last}
use Rattle.attend.proofs.Coming.{alone_says, none_says}

-- what a step asks for
abbrev pub asked_for : StepRow → RowAsks
asked_for step = record { kind = step.kind; door = step.at; person = step.person }

abbrev pub nothing_asked : RowAsks
nothing_asked = asked_by None

-- a row that says a step asks for it, and one of bad form for nothing
step_asked_lem : {row : List ℕ} (r : Row) (step : StepRow) → RowAt row r [] → SaysStep r step → asked_in row ≡ asked_for step
step_asked_lem r step a says = ap asked_by (alone_says r a ∙ says_line r says)

bad_line : (r : Row) → BadForm r → step_from r ≡ None
bad_line r bad = go (step_from r) refl
  where
    go : (l : Option StepRow) → step_from r ≡ l → l ≡ None
    go (Some step) e = absurd (bad step (line_says r e))
    go None e = refl

bad_asked : {row : List ℕ} (r : Row) → RowAt row r [] → BadForm r → asked_in row ≡ nothing_asked
bad_asked r a bad = ap asked_by (alone_says r a ∙ bad_line r bad)

none_asked : (text : List ℕ) → ((r : Row) (rest : List ℕ) → RowAt text r rest → ⊥) → asked_in text ≡ nothing_asked
none_asked text none = ap asked_by (none_says text none)

-- no phase allows what a row of bad form asks for
pub unknown_stays : (r : Record) (d p : ℕ) → (step_of r Unknown d p).next ≡ r
unfolding allows
unknown_stays r d p = step_cases (λ s. s.next ≡ r) r Unknown d p (λ a ph _. refl) (λ allowed. absurd (false≢true allowed.allowed))

-- the row that is printed of a step
abbrev step_row : Record → ℕ → StepRow → List ℕ
step_row r n step = panel_row n (answer_no (row_of r step).answer) (row_of r step).phase (row_of r step).reason (row_of r step).held

-- the fold over the rows that come, one row at a time
module _ (r : Record) (n : ℕ) (row : List ℕ) (rows : List (List ℕ)) where
  rows_step : (step : StepRow) → asked_in row ≡ asked_for step → is_step step.kind ≡ true
      → live_rows r n (row ∷ rows) ≡ step_row r n step ++ live_rows (row_of r step).next (n + 1) rows
  unfolding live_rows shown_row
  rows_step step e is = rw (e, is)

  rows_bad : asked_in row ≡ nothing_asked → live_rows r n (row ∷ rows) ≡ panel_row n 2 0 0 0
  unfolding live_rows shown_row
  rows_bad e = rw (e, append-nil)

module _ (r : Record) (row : List ℕ) (rows : List (List ℕ)) where
  last_step : (step : StepRow) → asked_in row ≡ asked_for step → is_step step.kind ≡ true → live_last r (row ∷ rows) ≡ live_last (row_of r step).next rows
  unfolding live_last
  last_step step e is = rw (e, is)

  last_bad : asked_in row ≡ nothing_asked → live_last r (row ∷ rows) ≡ r
  unfolding live_last
  last_bad e = rw e (unknown_stays r 0 0)

-- rows that come beside steps: each row asks for its step, and one of bad form, behind which nothing is answered, for nothing
pub data RowsAsk : List StepRow → Bool → List (List ℕ) → Type 0 where
  all_answered : RowsAsk [] true []
  by_step : {step : StepRow} {steps : List StepRow} {whole : Bool} {row : List ℕ} {rows : List (List ℕ)} → asked_in row ≡ asked_for step → is_step step.kind ≡ true
      → RowsAsk steps whole rows → RowsAsk (step ∷ steps) whole (row ∷ rows)
  by_bad_form : {row : List ℕ} {rows : List (List ℕ)} → asked_in row ≡ nothing_asked → RowsAsk [] false (row ∷ rows)

-- so are the rows of a text beside the steps that it says
pub rows_ask : {text text' : List ℕ} {steps : List StepRow} {whole : Bool} {rows : List (List ℕ)} → TextSaysSteps text steps whole → InRows text' rows → text ≡ text'
    → RowsAsk steps whole rows
rows_ask nothing no_more e = all_answered
rows_ask nothing (a_row a b f more) e = absurd (no_row_at a e)
rows_ask nothing (no_row some none) e = absurd (some (sym e))
rows_ask (a_step a says t) no_more e = absurd (no_row_at a (sym e))
rows_ask (a_step {step = step} a says t) (a_row a' b f more) e =
    let same = row_unique a a' e in
    let said : SaysStep _ step = rw same.first at says in
    by_step (step_asked_lem _ step b said) (said_is_step says) (rows_ask t more same.behind)
rows_ask (a_step {r = r} {rest = rest} a says t) (no_row some none) e = absurd (none r rest (rw e at a))
rows_ask (bad_row_first a bad) no_more e = absurd (no_row_at a (sym e))
rows_ask (bad_row_first a bad) (a_row {r = r} a' b f more) e = let same = row_unique a a' e in by_bad_form (bad_asked r b (rw same.first at bad))
rows_ask (bad_row_first {r = r} {rest = rest} a bad) (no_row some none) e = absurd (none r rest (rw e at a))
rows_ask (no_row_there some none) no_more e = absurd (some e)
rows_ask (no_row_there some none) (a_row {rest = rest} {r = r} a b f more) e = absurd (none r rest (rw (sym e) at a))
rows_ask (no_row_there some none) (no_row {text = text} some' none') e = by_bad_form (none_asked text none')

-- they are printed as the replies of the steps, and the row of bad form
pub rows_printed : {steps : List StepRow} {whole : Bool} {rows : List (List ℕ)} → RowsAsk steps whole rows → (r : Record) (n : ℕ)
    → live_rows r n rows ≡ answer_rows n (replies_of r steps) ++ last_row whole (n + length steps)
unfolding live_rows replies_of answer_rows
rows_printed all_answered r n = refl
rows_printed (by_step {step = step} {steps = steps} {whole = whole} {row = row} {rows = rows} asked is more) r n =
    let behind = rows_printed more (row_of r step).next (n + 1) in
    let count : n + 1 + length steps ≡ n + length (step ∷ steps) = omega arith in
    rows_step r n row rows step asked is
    ∙ (rw (behind, count) (sym (append_assoc (step_row r n step) (answer_rows (n + 1) (replies_of (row_of r step).next steps)) (last_row whole (n + length (step ∷ steps))))))
rows_printed (by_bad_form {row = row} {rows = rows} asked) r n = rows_bad r n row rows asked ∙ rw (add-zero n)

-- and the record afterwards is the one after the steps
pub rows_done : {steps : List StepRow} {whole : Bool} {rows : List (List ℕ)} → RowsAsk steps whole rows → (r : Record) → live_last r rows ≡ last_of r steps
unfolding live_last last_of
rows_done all_answered r = refl
rows_done (by_step {step = step} {row = row} {rows = rows} asked is more) r = last_step r row rows step asked is ∙ rows_done more (row_of r step).next
rows_done (by_bad_form {row = row} {rows = rows} asked) r = last_bad r row rows asked
