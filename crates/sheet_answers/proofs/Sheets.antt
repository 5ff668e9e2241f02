-- Demand 1 of sheets; what it says is in `specs/Answers.antt`. Assumes nothing.
use Prim.Native.Nat.{ℕ, zero, suc, ◌+◌, ◌-◌, ◌≤◌}
use mathlib.Core.Path.{◌≡◌, refl, sym, ap, subst, ◌∙◌}
use mathlib.Core.Bool.{Bool, true, false, cond, false≢true}
use mathlib.Core.List.{List, [], ◌∷◌}
use mathlib.Core.Logic.{◌↔◌}
use native.Mathlib.Nat.{add-sub_of_le}
use native.Mathlib.Omega.{arith}
use borrow.Author.Tests.{eqb-false, ltb-true, ltb-false}
use lib.ListN.{length, drop, length-drop, length-append}
use lib.Dec.{eqb, ltb}
use Rattle.std.specs.Prelude.{Some, None}
use Rattle.grammar.specs.declared.cut.Cell.{Cell}
use Rattle.grammar.specs.declared.cut.Cells.{Cells}
use Rattle.grammar.specs.declared.cut.Mode.{Mode}
use Rattle.grammar.specs.declared.cut.Mode.TheVariants.{Fresh, Bare, Open, Shut, Return}
use Rattle.grammar.specs.declared.cut.ByteMove.{ByteMove}
use Rattle.grammar.specs.declared.cut.ByteMove.TheVariants.{Go, NextField, RowEnd, Wrong}
use Rattle.grammar.specs.declared.cut.FieldCut.{FieldCut}
use Rattle.grammar.specs.declared.cut.FieldCut.TheVariants.{Next, Last, Fault}
use Rattle.grammar.specs.declared.cut.RowCut.{RowCut}
use Rattle.grammar.specs.declared.cut.RowCut.TheVariants.{Cut, NoRow, Broken}
use Rattle.grammar.specs.Grammar.{Field, bare, quoted, field_text, quote, comma, cr, lf}
use Rattle.grammar.specs.Cut.{empty_at, bare_move, shut_move, move_of, end_of, after_move, cut_field, pushed, no_cells, row_end, row_from, cut_row}
use Rattle.grammar.specs.Where.{cell_of, CellHolds}
use Rattle.grammar.specs.Rows.{on_row, read_rows, rows_from, count_from, count_rows}
use Rattle.cell_meaning.specs.Say.{ProperNumber, content_at, same_bytes, is_word, says_words, number_in, number_at}
use Rattle.grammar.proofs.Steps.{FieldIn, field_in, cut_within}
use Rattle.grammar.proofs.Found.{FieldFound, with_crlf, with_sheet}
use Rattle.grammar.proofs.Reading.{cut_behind, cut_there}
use Rattle.cell_meaning.proofs.Saying.{same_self, same_true, proper_read, read_proper, none_is_some as no_number}
use Rattle.grammar.proofs.Theorems.{found_is_row, found_is_field, field_before_comma, field_before_crlf, field_before_end}
use Rattle.tables.specs.Below.{Tells}
use Rattle.tables.proofs.Laws.{clash, tell_eq, tell_as}
use Rattle.tables.proofs.Cases.{either}
use Rattle.sheet_answers.specs.Answers.{Within, FieldTold, RowTold, CountTold, HasWord, HasWords, SheetAnswers}

-- a cell that holds a field lies in the sheet
held_lies : (s : List ℕ) (cell : Cell) (f : Field) → CellHolds s cell f → Within s cell.start cell.end
unfolding cell_of field_text
held_lies s cell (bare c) h =
    let within = h.within in
    let long : length s - h.at ≡ length c + length h.behind = rw (← length-drop h.at s, h.there) (length-append c h.behind) in
    rw h.is (record { from = omega arith; to = omega arith })
held_lies s cell (quoted c) h =
    let within = h.within in
    let long : length s - h.at ≡ length (field_text (quoted c)) + length h.behind =
    rw (← length-drop h.at s, h.there) (length-append (field_text (quoted c)) h.behind) in
    let long' = simp length-append at long in
    rw h.is (record { from = omega arith; to = omega arith })

-- and from where its field begins
held_from : (at : ℕ) (f : Field) {cell : Cell} → cell ≡ cell_of at f → at ≤ cell.start
unfolding cell_of
held_from at (bare c) e = rw e (omega arith)
held_from at (quoted c) e = rw e (omega arith)

-- a field that is found is one of the sheet's, and this is its cell
field_lies : (s : List ℕ) (at : ℕ) → at ≤ length s → (cut : FieldCut) → cut_field s at ≡ cut → FieldFound (drop at s) cut → FieldIn cut at (length s)
    → FieldTold s at cut
field_lies s at h (Next cell next) e f n =
    let w = f.is in
    let c = field_before_comma s at w.field w.written f.rest w.text_is in
    let is : cell ≡ cell_of at w.field = cc in
    ((held_from at w.field is, held_lies s cell w.field (record { at = at; within = h; behind = comma ∷ f.rest; there = w.text_is; is = is })), record { from = omega arith; to = n.1 })
field_lies s at h (Last cell next) e (with_crlf rest w) n =
    let c = field_before_crlf s at w.field w.written rest w.text_is in
    let is : cell ≡ cell_of at w.field = cc in
    ((held_from at w.field is, held_lies s cell w.field (record { at = at; within = h; behind = cr ∷ lf ∷ rest; there = w.text_is; is = is })), record { from = n.0; to = n.1 })
field_lies s at h (Last cell next) e (with_sheet w) n =
    let c = field_before_end s at w.field w.written w.text_is in
    let is : cell ≡ cell_of at w.field = cc in
    ((held_from at w.field is, held_lies s cell w.field (record { at = at; within = h; behind = []; there = w.text_is; is = is })), record { from = n.0; to = n.1 })
field_lies s at h (Fault byte) e f n = record { from = n.0; to = n.1 }

field_told : (s : List ℕ) (at : ℕ) → at ≤ length s → FieldTold s at (cut_field s at)
unfolding cut_field
field_told s at h =
    let n : at + length (drop at s) ≡ length s = simp length-drop (add-sub_of_le h) in
    field_lies s at h (cut_field s at) refl (found_is_field s at) (rw n at (field_in (drop at s) at Fresh (empty_at at)))

-- ---- the cells of a row begin at the row's first byte or behind it

record CellsFrom (at : ℕ) (cells : Cells) : Type 0 where
  one : 1 ≤ cells.count → at ≤ cells.first.start
  two : 2 ≤ cells.count → at ≤ cells.second.start
  three : 3 ≤ cells.count → at ≤ cells.third.start

abbrev MoveFrom : ℕ → ByteMove → Type 0
MoveFrom at (Go mode cell) = at ≤ cell.start
MoveFrom at NextField = at ≤ at
MoveFrom at RowEnd = at ≤ at
MoveFrom at Wrong = at ≤ at

abbrev CutFrom : ℕ → RowCut → Type 0
CutFrom at (Cut cells next) = (1 ≤ cells.count) × CellsFrom at cells
CutFrom at NoRow = at ≤ at
CutFrom at (Broken byte) = at ≤ at

module _ (at : ℕ) where
  bare_from : (cell : Cell) (b next : ℕ) → at ≤ cell.start → MoveFrom at (bare_move cell b next)
  unfolding bare_move
  bare_from cell b next h =
      either (MoveFrom at) (eqb b comma) (λ _. omega arith)
      (λ _. either (MoveFrom at) (eqb b cr) (λ _. h) (λ _. either (MoveFrom at) (eqb b lf) (λ _. omega arith) (λ _. h)))

  move_from : (mode : Mode) (cell : Cell) (b next : ℕ) → at ≤ cell.start → at ≤ next → MoveFrom at (move_of mode cell b next)
  unfolding move_of shut_move
  move_from Fresh cell b next h n = either (MoveFrom at) (eqb b quote) (λ _. n) (λ _. bare_from cell b next h)
  move_from Bare cell b next h n = either (MoveFrom at) (eqb b quote) (λ _. omega arith) (λ _. bare_from cell b next h)
  move_from Open cell b next h n = either (MoveFrom at) (eqb b quote) (λ _. h) (λ _. h)
  move_from Shut cell b next h n =
      either (MoveFrom at) (eqb b quote) (λ _. h)
      (λ _. either (MoveFrom at) (eqb b comma) (λ _. omega arith) (λ _. either (MoveFrom at) (eqb b cr) (λ _. h) (λ _. omega arith)))
  move_from Return cell b next h n = either (MoveFrom at) (eqb b lf) (λ _. omega arith) (λ _. omega arith)

  pushed_from : (cells : Cells) (cell : Cell) → CellsFrom at cells → at ≤ cell.start → CutFrom at (Cut (pushed cells cell) 0)
  unfolding pushed
  pushed_from cells cell c h = (
    omega arith,
    record {
      one = λ n. either (λ (x : Cell). at ≤ x.start) (eqb cells.count 0) (λ _. h) (λ no. let other = eqb-false cells.count 0 no in c.one (omega arith));
      two = λ n. either (λ (x : Cell). at ≤ x.start) (eqb cells.count 1) (λ _. h) (λ no. let other = eqb-false cells.count 1 no in c.two (omega arith));
      three = λ n. either (λ (x : Cell). at ≤ x.start) (eqb cells.count 2) (λ _. h) (λ no. let other = eqb-false cells.count 2 no in c.three (omega arith));
    },
  )

  end_from : (mode : Mode) (cell : Cell) (cells : Cells) (i : ℕ) → at ≤ cell.start → CellsFrom at cells → CutFrom at (row_end cells (end_of mode cell i))
  unfolding end_of
  end_from Fresh cell cells i h c = pushed_from cells cell c h
  end_from Bare cell cells i h c = pushed_from cells cell c h
  end_from Open cell cells i h c = omega arith
  end_from Shut cell cells i h c = pushed_from cells cell c h
  end_from Return cell cells i h c = omega arith

  turn_from : (move : ByteMove) (cells : Cells) (i : ℕ) (go : Mode → Cell → RowCut) (new : RowCut) → MoveFrom at move
      → ((m : Mode) (x : Cell) → at ≤ x.start → CutFrom at (go m x)) → CutFrom at new → CutFrom at (Cut cells 0)
      → CutFrom at (after_move move go new (Cut cells (i + 1)) (Broken i))
  turn_from (Go m x) cells i go new from more next last = more m x from
  turn_from NextField cells i go new from more next last = next
  turn_from RowEnd cells i go new from more next last = last
  turn_from Wrong cells i go new from more next last = omega arith

  row_from_lem : (bs : List ℕ) (i : ℕ) (mode : Mode) (cell : Cell) (cells : Cells) → at ≤ i → at ≤ cell.start → CellsFrom at cells
      → CutFrom at (row_from mode cell cells i bs)
  unfolding row_from
  row_from_lem [] i mode cell cells low h c = end_from mode cell cells i h c
  row_from_lem (b ∷ bs) i mode cell cells low h c =
      let more = pushed_from cells cell c h in
      turn_from (move_of mode cell b (i + 1)) (pushed cells cell) i (λ m x. row_from m x cells (i + 1) bs) _ (move_from mode cell b (i + 1) h (omega arith))
      (λ m x from. row_from_lem bs (i + 1) m x cells (omega arith) from c)
      (row_from_lem bs (i + 1) Fresh (empty_at (i + 1)) (pushed cells cell) (omega arith) (omega arith) more.1) more

  cut_from : (s : List ℕ) → CutFrom at (cut_row s at)
  unfolding cut_row
  cut_from s =
      either (CutFrom at) (ltb at (length s))
      (λ _.
      row_from_lem (drop at s) at Fresh (empty_at at) no_cells (omega arith) (omega arith)
      (record { one = λ n. absurd (omega arith); two = λ n. absurd (omega arith); three = λ n. absurd (omega arith) }))
      (λ _. omega arith)

-- a row that breaks was there
row_breaks : (s : List ℕ) (at byte : ℕ) → cut_row s at ≡ Broken byte → Within s at byte
row_breaks s at byte e = go (ltb at (length s)) refl
  where
    go : (q : Bool) → ltb at (length s) ≡ q → Within s at byte
    go true q = let w = cut_within s at (ltb-true at (length s) q) e in record { from = w.0; to = w.1 }
    go false q =
        let h = cut_behind s at (ltb-false at (length s) q) in
        let z : ◌≡◌ {A = ℕ} 0 1 = cc in
        absurd (omega arith)

row_told : (s : List ℕ) (at : ℕ) (cut : RowCut) → cut_row s at ≡ cut → RowTold s at cut
row_told s at (Cut cells next) e =
    let w = cut_there s at e in
    let c = (found_is_row s at e).holds in
    let begins = subst (CutFrom at) e (cut_from at s) in (
      w.0,
      w.1,
      (begins.1.one begins.0, held_lies s _ _ c.first),
      (λ two. (begins.1.two two, held_lies s _ _ (c.second two))),
      λ three. (begins.1.three three, held_lies s _ _ (c.third three)),
    )
row_told s at NoRow e = go (ltb at (length s)) refl
  where
    go : (q : Bool) → ltb at (length s) ≡ q → length s ≤ at
    go true q = absurd (cut_within s at (ltb-true at (length s) q) e)
    go false q = ltb-false at (length s) q
row_told s at (Broken byte) e = row_breaks s at byte e

-- each row that is counted takes a byte
rows_told : (s : List ℕ) (most n at : ℕ) → n ≤ at → at ≤ length s → CountTold s (count_from n (read_rows most s at))
unfolding read_rows count_from
rows_told s zero n at few within = omega arith
rows_told s (suc most) n at few within = go (cut_row s at) refl (rows_told s most (n + 1))
  where
    go : (cut : RowCut) → cut_row s at ≡ cut
        → ((next : ℕ) → n + 1 ≤ next → next ≤ length s → CountTold s (count_from (n + 1) (read_rows most s next)))
        → CountTold s (count_from n (on_row cut (λ next. read_rows most s next)))
    go (Cut cells next) e on = let w = cut_there s at e in on next (omega arith) w.1
    go NoRow e on = omega arith
    go (Broken byte) e on = (omega arith, (row_breaks s at byte e).to)

count_told : (s : List ℕ) → CountTold s (count_rows s)
unfolding count_rows rows_from
count_told s = rows_told s (suc (length s - 0)) 0 0 (omega arith) (omega arith)

word_tells : (s : List ℕ) (cell : Cell) (word : List ℕ) → Tells (is_word s cell word) (HasWord s cell word)
unfolding is_word
word_tells s cell word = go cell.doubled refl
  where
    go : (b : Bool) → cell.doubled ≡ b → Tells (cond b false (same_bytes (content_at s cell) word)) (HasWord s cell word)
    go true q = record { yes = λ e. absurd (false≢true e); back = λ w. clash q w.0 }
    go false q =
        record {
          yes = λ e. (q, same_true (content_at s cell) word e);
          back = λ w. subst (λ (c : List ℕ). same_bytes c word ≡ true) (sym w.1) (same_self word);
        }

-- a test behind another
tell_behind : {a b : Bool} {P Q : Type 0} → Tells a P → Tells b Q → Tells (cond a b false) (P × Q)
tell_behind {a} {b} {P} {Q} t u = go a t
  where
    go : (x : Bool) → Tells x P → Tells (cond x b false) (P × Q)
    go true t = record { yes = λ e. (t.yes refl, u.yes e); back = λ w. u.back w.1 }
    go false t = record { yes = λ e. absurd (false≢true e); back = λ w. t.back w.0 }

words_tell : (s : List ℕ) (cells : Cells) (x y z : List ℕ) → Tells (says_words s cells x y z) (HasWords s cells x y z)
unfolding says_words
words_tell s cells x y z =
    tell_as (λ t. record { three = t.0; is_first_lem = t.1.0; is_second = t.1.1.0; is_third = t.1.1.1 })
    (λ w. (w.three, (w.is_first_lem, (w.is_second, w.is_third))))
    (tell_behind (tell_eq cells.count 3)
    (tell_behind (word_tells s cells.first x) (tell_behind (word_tells s cells.second y) (word_tells s cells.third z))))

number_told : (s : List ℕ) (cell : Cell) (n : ℕ) → (number_at s cell ≡ Some n) ↔ ((cell.doubled ≡ false) × ProperNumber (content_at s cell) n)
unfolding number_at
number_told s cell n = (go cell.doubled refl, λ w. ap (λ (b : Bool). cond b None (number_in (content_at s cell))) w.0 ∙ proper_read (content_at s cell) w.1)
  where
    go : (b : Bool) → cell.doubled ≡ b → cond b None (number_in (content_at s cell)) ≡ Some n → (cell.doubled ≡ false) × ProperNumber (content_at s cell) n
    go true q e = no_number e
    go false q e = (q, read_proper (content_at s cell) e)

pub of_sheet : SheetAnswers
of_sheet =
    record {
      cut_field_lem = field_told;
      cut_row_lem = λ s at. row_told s at (cut_row s at) refl;
      count_rows_lem = count_told;
      reader_at_byte = λ sheet at. (refl, refl);
      reader_row = λ reader. row_told reader.sheet.now reader.at _ refl;
      row_at = λ s at. row_told s at (cut_row s at) refl;
      is_word_lem = word_tells;
      says_words_lem = words_tell;
      number_of = number_told;
    }
