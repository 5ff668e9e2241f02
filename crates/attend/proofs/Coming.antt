-- A row of a sheet that comes alone says what it says in its sheet, and every text comes in rows. Assumes nothing.
use Prim.Native.Nat.{ℕ, zero, suc, ◌-◌, ◌<◌}
use native.Mathlib.Omega.{arith}
use mathlib.Core.Path.{◌≡◌, refl, sym, ap, ◌∙◌}
use mathlib.Core.List.{List, [], ◌∷◌, ◌++◌, append_assoc, append-nil}
use mathlib.Core.Bool.{true}
use borrow.Author.Tests.{eq-eqb}
use lib.Dec.{eqb}
use lib.ListN.{length}
use Rattle.tables.proofs.Cases.{either}
use Rattle.std.specs.Prelude.{Option, Some, None}
use Rattle.phases.specs.declared.table.StepRow.{StepRow}
use Rattle.phases.specs.declared.table.Kind.{Kind}
use Rattle.grammar.specs.declared.cut.RowCut.{RowCut}
use Rattle.grammar.specs.declared.cut.RowCut.TheVariants.{Cut, NoRow, Broken}
use Rattle.grammar.specs.Grammar.{cr, lf, Row, row_text, RowAt, ended, last}
use Rattle.grammar.specs.Cut.{cut_row, no_cells}
use Rattle.grammar.specs.Where.{cells_of}
use Rattle.grammar.proofs.Unique.{row_unique}
use Rattle.grammar.proofs.Reading.{cut_there}
use Rattle.grammar.proofs.Exact.{row_is_cut, cut_is_row, no_row_end, broken_some, broken_none}
use Rattle.steps_sheet.specs.Steps.{steps_line_at, is_step}
use Rattle.steps_sheet.proofs.Rows.{step_from, step_line_same, line_says, said_is_step}
use Rattle.attend.specs.Attend.{row_says_by, row_says}
use Rattle.attend.specs.Live.{no_more, a_row, no_row, ComesInRows}

-- a row that comes alone
pub alone_says : {row : List ℕ} (r : Row) → RowAt row r [] → row_says row ≡ step_from r
unfolding row_says
alone_says {row} r a =
    let e : cut_row row 0 ≡ Cut (cells_of no_cells 0 r) (length row - 0) = row_is_cut row 0 a in
    let whole : length row - 0 ≡ length row = omega arith in
    let c = cut_is_row row 0 e in
    let said : steps_line_at row (cells_of no_cells 0 r) ≡ step_from c.row = step_line_same row c.row c.holds in
    rw (e, whole, eq-eqb (length row) (length row) refl) (said ∙ ap step_from (row_unique c.there a refl).first)

-- bytes that begin with no row
pub none_says : (text : List ℕ) → ((r : Row) (rest : List ℕ) → RowAt text r rest → ⊥) → row_says text ≡ None
unfolding row_says
none_says text none = go (cut_row text 0) refl
  where
    go : (cut : RowCut) → cut_row text 0 ≡ cut → row_says_by text cut ≡ None
    go (Cut cells next) e = let c = cut_is_row text 0 e in absurd (none c.row c.rest c.there)
    go NoRow e = refl
    go (Broken byte) e = refl

bad_step : {step : StepRow} {A : Type 0} → None ≡ Some step → A
bad_step e = let z : ◌≡◌ {A = ℕ} 0 1 = cc in absurd (omega arith)

-- what a row says that comes alone is one of the ten steps
pub says_a_step : (row : List ℕ) {k : Kind} {d p : ℕ} → row_says row ≡ Some (record { kind = k; at = d; person = p }) → is_step k ≡ true
unfolding row_says
says_a_step row {k} {d} {p} said = go (cut_row row 0) refl said
  where
    go : (cut : RowCut) → cut_row row 0 ≡ cut → row_says_by row cut ≡ Some (record { kind = k; at = d; person = p }) → is_step k ≡ true
    go (Cut cells next) e is =
        let c = cut_is_row row 0 e in
        either (λ (l : Option StepRow). l ≡ Some (record { kind = k; at = d; person = p }) → is_step k ≡ true) (eqb next (length row))
        (λ _ so. said_is_step (line_says c.row (sym (step_line_same row c.row c.holds) ∙ so))) (λ _ so. bad_step so) is
    go NoRow e is = bad_step is
    go (Broken byte) e is = bad_step is

-- ---- every text comes in rows

-- a row of a text, with the CRLF behind it if it has one
one_row : {text rest : List ℕ} {r : Row} → RowAt text r rest → ComesInRows rest → ComesInRows text
one_row {rest = rest} {r = r} (ended w e) behind =
    record {
      rows = (row_text r ++ (cr ∷ lf ∷ [])) ∷ behind.rows;
      in_rows = a_row (ended w e) (ended w refl) (e ∙ sym (append_assoc (row_text r) (cr ∷ lf ∷ []) rest)) behind.in_rows;
    }
one_row {text} (last w e some) behind =
    record { rows = text ∷ behind.rows; in_rows = a_row (last w e some) (last w e some) (sym (append-nil text)) behind.in_rows }

comes_turn : (text : List ℕ) → ((rest : List ℕ) → length rest < length text → ComesInRows rest) → (cut : RowCut) → cut_row text 0 ≡ cut → ComesInRows text
comes_turn text behind (Cut cells next) e =
    let c = cut_is_row text 0 e in
    let onward = cut_there text 0 e in
    let at = c.next_is in
    one_row c.there (behind c.rest (omega arith))
comes_turn text behind NoRow e = record { rows = []; in_rows = rw (no_row_end text 0 e) no_more }
comes_turn text behind (Broken byte) e = record { rows = text ∷ []; in_rows = no_row (broken_some text 0 e) (broken_none text 0 e) }

comes_by : (most : ℕ) (text : List ℕ) → length text < most → ComesInRows text
comes_by zero text h = absurd (omega arith)
comes_by (suc most) text h = comes_turn text (λ rest l. comes_by most rest (omega arith)) (cut_row text 0) refl

pub text_comes : (text : List ℕ) → ComesInRows text
text_comes text = comes_by (suc (length text)) text (omega arith)
