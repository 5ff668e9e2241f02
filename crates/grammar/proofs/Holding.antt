-- The cells of a row hold its fields.
-- Assumes nothing.
use Prim.Native.Nat.{ℕ, suc, ◌+◌, ◌-◌, ◌≤◌}
use native.Mathlib.Omega.{arith}
use mathlib.Core.Path.{◌≡◌, refl, sym, ap, ◌∙◌}
use mathlib.Core.List.{List, ◌∷◌, ◌++◌, append_assoc}
use lib.ListN.{length, drop, length-append, length-drop}
use lib.Seq.{drop-drop, drop-append-add}
use borrow.Author.Tests.{ne_eqb}
use Rattle.grammar.specs.declared.cut.Cell.{Cell}
use Rattle.grammar.specs.declared.cut.Cells.{Cells}
use Rattle.grammar.specs.Grammar.{comma, Field, field_text, Row, only, ◌then◌, row_text, fields}
use Rattle.grammar.specs.Cut.{pushed, no_cells}
use Rattle.grammar.specs.Where.{cell_of, cells_of, field_of, CellHolds, RowHolds}

-- behind a field and its comma the rest of the row stands
next_field : (s : List ℕ) (i : ℕ) (f : Field) (r : Row) (t : List ℕ) → drop i s ≡ row_text (f then r) ++ t → drop (i + length (field_text f) + 1) s ≡ row_text r ++ t
unfolding row_text
next_field s i f r t e =
    let m : i + length (field_text f) + 1 ≡ i + (length (field_text f) + 1) = omega arith in
    rw (m, ← drop-drop (length (field_text f) + 1) i s, e, append_assoc) (drop-append-add (field_text f) (comma ∷ row_text r ++ t) 1)

next_within : (s : List ℕ) (i : ℕ) (f : Field) (r : Row) (t : List ℕ) → i ≤ length s → drop i s ≡ row_text (f then r) ++ t → i + length (field_text f) + 1 ≤ length s
unfolding row_text
next_within s i f r t h e =
    let n : length s - i ≡ length (field_text f) + suc (length (row_text r) + length t) = sym (length-drop i s) ∙ ap length e ∙ simp (append_assoc, length-append) (omega arith) in
    omega arith

first_field : (s : List ℕ) (i : ℕ) (r : Row) (t : List ℕ) → i ≤ length s → drop i s ≡ row_text r ++ t → CellHolds s (cell_of i (field_of 0 r)) (field_of 0 r)
unfolding row_text fields
first_field s i (only f) t w e = record { at = i; within = w; behind = t; there = e; is = refl }
first_field s i (f then r) t w e = record { at = i; within = w; behind = comma ∷ row_text r ++ t; there = e ∙ append_assoc (field_text f) (comma ∷ row_text r) t; is = refl }

-- fields behind the third leave the first three cells alone
record Kept (cells more : Cells) (n : ℕ) : Type 0 where
  count : more.count ≡ cells.count + n
  first : more.first ≡ cells.first
  second : more.second ≡ cells.second
  third : more.third ≡ cells.third

push_kept : (cells : Cells) (k : Cell) → 3 ≤ cells.count → Kept cells (pushed cells k) 1
unfolding pushed
push_kept cells k h =
    let a : cells.count ≡ 0 → ⊥ = λ e. omega arith in
    let b : cells.count ≡ 1 → ⊥ = λ e. omega arith in
    let c : cells.count ≡ 2 → ⊥ = λ e. omega arith in
    record { count = refl; first = rw (ne_eqb _ _ a); second = rw (ne_eqb _ _ b); third = rw (ne_eqb _ _ c) }

kept : (cells : Cells) (i : ℕ) (r : Row) → 3 ≤ cells.count → Kept cells (cells_of cells i r) (length (fields r))
unfolding cells_of fields
kept cells i (only f) h = push_kept cells (cell_of i f) h
kept cells i (f then r) h =
    let p = push_kept cells (cell_of i f) h in
    let pc = p.count in
    let k = kept (pushed cells (cell_of i f)) (i + length (field_text f) + 1) r (omega arith) in
    let kc = k.count in
    record { count = omega arith; first = k.first ∙ p.first; second = k.second ∙ p.second; third = k.third ∙ p.third }

pub row_holds : (s : List ℕ) (i : ℕ) (r : Row) (t : List ℕ) → i ≤ length s → drop i s ≡ row_text r ++ t → RowHolds s (cells_of no_cells i r) r
unfolding cells_of pushed fields
row_holds s i (only f) t w e = record { count = refl; first = first_field s i (only f) t w e; second = λ h. absurd (omega arith); third = λ h. absurd (omega arith) }
row_holds s i (f then only g) t w e =
    let e₁ = next_field s i f (only g) t e in
    let w₁ = next_within s i f (only g) t w e in
    record {
      count = refl;
      first = first_field s i (f then only g) t w e;
      second = λ h. first_field s (i + length (field_text f) + 1) (only g) t w₁ e₁;
      third = λ h. absurd (omega arith);
    }
row_holds s i (f then (g then only h)) t w e =
    let j : ℕ = i + length (field_text f) + 1 in
    let e₁ = next_field s i f (g then only h) t e in
    let w₁ = next_within s i f (g then only h) t w e in
    let e₂ = next_field s j g (only h) t e₁ in
    let w₂ = next_within s j g (only h) t w₁ e₁ in
    record {
      count = refl;
      first = first_field s i (f then (g then only h)) t w e;
      second = λ l. first_field s j (g then only h) t w₁ e₁;
      third = λ l. first_field s (j + length (field_text g) + 1) (only h) t w₂ e₂;
    }
row_holds s i (f then (g then (h then r))) t w e =
    let j : ℕ = i + length (field_text f) + 1 in
    let k : ℕ = j + length (field_text g) + 1 in
    let e₁ = next_field s i f (g then (h then r)) t e in
    let w₁ = next_within s i f (g then (h then r)) t w e in
    let e₂ = next_field s j g (h then r) t e₁ in
    let w₂ = next_within s j g (h then r) t w₁ e₁ in
    let m = kept (pushed (pushed (pushed no_cells (cell_of i f)) (cell_of j g)) (cell_of k h)) (k + length (field_text h) + 1) r (omega arith) in
    let mc = m.count in
    record {
      count = omega arith;
      first = rw m.first (first_field s i (f then (g then (h then r))) t w e);
      second = λ l. rw m.second (first_field s j (g then (h then r)) t w₁ e₁);
      third = λ l. rw m.third (first_field s k (h then r) t w₂ e₂);
    }
