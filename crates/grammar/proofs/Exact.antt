-- The row cutter and the grammar at one position of a sheet.
-- Assumes nothing.
use Prim.Native.Nat.{ℕ, ◌+◌, ◌-◌, ◌≤◌, ◌<◌}
use native.Mathlib.Omega.{arith}
use mathlib.Core.Path.{◌≡◌, refl, sym, ap, ◌∙◌}
use mathlib.Core.Bool.{Bool, true, false}
use mathlib.Core.List.{List, [], ◌∷◌, ◌++◌, append_assoc, append-nil}
use lib.ListN.{length, drop, length-append, length-drop, drop_of_length-le}
use lib.Seq.{drop-drop, drop-append_seam}
use lib.Dec.{ltb}
use borrow.Author.Tests.{lt-ltb, ltb-true, ltb-false}
use Rattle.grammar.specs.declared.cut.Mode.TheVariants.{Fresh}
use Rattle.grammar.specs.declared.cut.Cells.{Cells}
use Rattle.grammar.specs.declared.cut.RowCut.TheVariants.{Cut, NoRow, Broken}
use Rattle.grammar.specs.Grammar.{cr, lf, Row, row_text, RowAt, ended, last}
use Rattle.grammar.specs.Cut.{empty_at, no_cells, row_from, cut_row}
use Rattle.grammar.specs.Where.{cells_of, RowHolds}
use Rattle.grammar.specs.Meaning.{CutRow}
use Rattle.grammar.proofs.Written.{row_run, by_crlf, by_end}
use Rattle.grammar.proofs.Found.{in_fresh, RowEnds, row_crlf, row_sheet, row_found}
use Rattle.grammar.proofs.Unique.{no_row_at}
use Rattle.grammar.proofs.Holding.{row_holds}
use Rattle.grammar.proofs.Reading.{cut_behind, none_behind, cut_there}

-- a row at the front of a text is read, and the rest of the text is left
pub row_read : {text : List ℕ} {r : Row} {rest : List ℕ} (i : ℕ) (cells : Cells) → RowAt text r rest
    → row_from Fresh (empty_at i) cells i text ≡ Cut (cells_of cells i r) (i + (length text - length rest))
row_read {text} {r} {rest} i cells (ended w e) =
    let n : i + (length (row_text r ++ (cr ∷ lf ∷ rest)) - length rest) ≡ i + length (row_text r) + 2 = simp length-append (omega arith) in
    rw (e, n) (row_run (by_crlf rest) r i cells w)
row_read {text} {r} i cells (last w e h) =
    let n : i + (length (row_text r) - 0) ≡ i + length (row_text r) + 0 = omega arith in
    rw (e, n) (rw append-nil at (row_run by_end r i cells w))

-- the rest of a text behind a row is its end
pub rest_is_end : {text : List ℕ} {r : Row} {rest : List ℕ} → RowAt text r rest → drop (length text - length rest) text ≡ rest
rest_is_end {text} {r} {rest} (ended w e) =
    let n : length (row_text r ++ (cr ∷ lf ∷ rest)) - length rest ≡ length (row_text r ++ (cr ∷ lf ∷ [])) = simp length-append (omega arith) in
    let m : row_text r ++ (cr ∷ lf ∷ rest) ≡ (row_text r ++ (cr ∷ lf ∷ [])) ++ rest = sym (append_assoc (row_text r) (cr ∷ lf ∷ []) rest) in
    rw (e, n, m) (drop-append_seam (row_text r ++ (cr ∷ lf ∷ [])) rest)
rest_is_end {text} (last w e h) = let n : length text ≤ length text - 0 = omega arith in drop_of_length-le text n

pub rest_shorter : {text : List ℕ} {r : Row} {rest : List ℕ} → RowAt text r rest → length rest ≤ length text
rest_shorter {text} {r} {rest} (ended w e) = rw e (simp length-append (omega arith))
rest_shorter (last w e h) = omega arith

module _ (s : List ℕ) (at : ℕ) where
  -- where the grammar has a row there is a byte
  pub row_there : {r : Row} {rest : List ℕ} → RowAt (drop at s) r rest → at < length s
  row_there a = go (ltb at (length s)) refl
    where
      go : (q : Bool) → ltb at (length s) ≡ q → at < length s
      go true q = ltb-true at (length s) q
      go false q = absurd (no_row_at a (sym (drop_of_length-le s (ltb-false at (length s) q))))

  pub cut_from : at < length s → cut_row s at ≡ row_from Fresh (empty_at at) no_cells at (drop at s)
  unfolding cut_row
  cut_from h = rw (lt-ltb at (length s) h)

  -- the row cutter finds the row that the grammar has, with its cells, and goes on behind it
  pub row_is_cut : {r : Row} {rest : List ℕ} → RowAt (drop at s) r rest → cut_row s at ≡ Cut (cells_of no_cells at r) (length s - length rest)
  row_is_cut {r} {rest} a =
      let h = row_there a in
      let k = rest_shorter a in
      let n : at + (length (drop at s) - length rest) ≡ length s - length rest = simp length-drop (omega (arith, simp length-drop at k)) in
      cut_from h ∙ row_read at no_cells a ∙ rw n

  -- where the next row begins, the rest of the text begins
  next_is_rest : {r : Row} {rest : List ℕ} → RowAt (drop at s) r rest → drop (length s - length rest) s ≡ rest
  next_is_rest {r} {rest} a =
      let h = row_there a in
      let k = rest_shorter a in
      let n : length s - length rest ≡ at + (length (drop at s) - length rest) = simp length-drop (omega (arith, simp length-drop at k)) in
      rw (n, ← drop-drop (length (drop at s) - length rest) at s) (rest_is_end a)

-- the cells of a row that the grammar has hold it
held : (s : List ℕ) (at : ℕ) {r : Row} {rest : List ℕ} → RowAt (drop at s) r rest → at ≤ length s → RowHolds s (cells_of no_cells at r) r
held s at {r} {rest} (ended w e) l = row_holds s at r (cr ∷ lf ∷ rest) l e
held s at {r} (last w e h) l = row_holds s at r [] l (e ∙ sym (append-nil (row_text r)))

module _ (s : List ℕ) (at : ℕ) {cells : Cells} {next : ℕ} where
  cut_of : {r : Row} {rest : List ℕ} → cut_row s at ≡ Cut cells next → RowAt (drop at s) r rest → CutRow s at cells next
  cut_of {r} {rest} e a =
      let e' = row_is_cut s at a in
      let n : next ≡ length s - length rest = cc in
      let c : cells ≡ cells_of no_cells at r = cc in
      let l = row_there s at a in
      let w : at ≤ length s = omega arith in
      record { row = r; rest = rest; there = a; holds = rw c (held s at a w); lies = c; next_is = n; behind = rw n (next_is_rest s at a) }

  cut_ends : cut_row s at ≡ Cut cells next → (drop at s ≡ [] → ⊥) → RowEnds (drop at s) → CutRow s at cells next
  cut_ends e h (row_crlf r rest w q) = cut_of e (ended w q)
  cut_ends e h (row_sheet r w q) = cut_of e (last w q h)

  -- the row cutter finds a row only where the grammar has one
  pub cut_is_row : cut_row s at ≡ Cut cells next → CutRow s at cells next
  cut_is_row e =
      let h = cut_there s at e in
      let l : at < length s = omega arith in
      cut_ends e (λ q. let m : length s - at ≡ 0 = sym (length-drop at s) ∙ ap length q in absurd (omega arith))
      (rw (sym (cut_from s at l) ∙ e) at (row_found (drop at s) Fresh (empty_at at) no_cells at in_fresh))

module _ (s : List ℕ) (at : ℕ) where
  -- no row is found only where no byte is left
  pub no_row_end : cut_row s at ≡ NoRow → drop at s ≡ []
  no_row_end e = drop_of_length-le s (none_behind s at e)

  -- where a row breaks there is a byte, and no row
  pub broken_there : {byte : ℕ} → cut_row s at ≡ Broken byte → at < length s
  broken_there {byte} e = go (ltb at (length s)) refl
    where
      go : (q : Bool) → ltb at (length s) ≡ q → at < length s
      go true q = ltb-true at (length s) q
      go false q = let h = cut_behind s at (ltb-false at (length s) q) in let z : ◌≡◌ {A = ℕ} 0 1 = cc in absurd (omega arith)

  pub broken_some : {byte : ℕ} → cut_row s at ≡ Broken byte → drop at s ≡ [] → ⊥
  broken_some e h = let l = broken_there e in let n : length s - at ≡ 0 = sym (length-drop at s) ∙ ap length h in omega arith

  pub broken_none : {byte : ℕ} → cut_row s at ≡ Broken byte → (r : Row) (rest : List ℕ) → RowAt (drop at s) r rest → ⊥
  broken_none e r rest a = let b = row_is_cut s at a in let z : ◌≡◌ {A = ℕ} 0 1 = cc in omega arith
