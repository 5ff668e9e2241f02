-- The definitions of specs/Cut.antt, a byte at a time: what a loop over positions has to know of them.
-- Assumes nothing.
use Prim.Native.Nat.{ℕ, suc, ◌+◌, ◌≤◌, ◌<◌}
use native.Mathlib.Omega.{arith}
use native.Mathlib.Numerals.{add-one}
use mathlib.Core.Path.{◌≡◌, refl, ◌∙◌}
use mathlib.Core.List.{List, [], ◌∷◌}
use lib.ListN.{length, get_or, drop, drop_of_length-le, length-drop}
use lib.Seq.{drop-cons, drop-drop}
use Rattle.grammar.specs.declared.cut.Mode.{Mode}
use Rattle.grammar.specs.declared.cut.Cell.{Cell}
use Rattle.grammar.specs.declared.cut.ByteMove.{ByteMove}
use Rattle.grammar.specs.declared.cut.FieldCut.{FieldCut}
use Rattle.grammar.specs.declared.cut.FieldCut.TheVariants.{Next, Last, Fault}
use Rattle.grammar.specs.declared.cut.Mode.TheVariants.{Fresh, Bare, Open, Shut, Return}
use Rattle.grammar.specs.declared.cut.ByteMove.TheVariants.{Go, NextField, RowEnd, Wrong}
use Rattle.grammar.specs.declared.cut.Cells.{Cells}
use Rattle.grammar.specs.declared.cut.RowCut.{RowCut}
use Rattle.grammar.specs.declared.cut.RowCut.TheVariants.{Cut, NoRow, Broken}
use borrow.Author.Tests.{lt-ltb}
use native.Mathlib.Nat.{add-sub_of_le}
use Rattle.grammar.specs.Cut.{move_of, after_move, end_of, empty_at, no_cells, pushed, field_from, cut_field, row_end, row_from, cut_row}

-- a position within a sheet: its byte and what stands behind it
pub here : (s : List ℕ) (i : ℕ) → i < length s → drop i s ≡ get_or s i 0 ∷ drop (i + 1) s
here s i h = rw (add-one, drop-cons s i 0)

module _ (s : List ℕ) (i : ℕ) (mode : Mode) (cell : Cell) where
  pub field_more : i < length s
      → field_from mode cell i (drop i s)
      ≡ after_move (move_of mode cell (get_or s i 0) (i + 1)) (λ m c. field_from m c (i + 1) (drop (i + 1) s)) (Next cell (i + 1)) (Last cell (i + 1)) (Fault i)
  unfolding field_from
  field_more h = rw (here s i h)

  pub field_end : length s ≤ i → field_from mode cell i (drop i s) ≡ end_of mode cell i
  unfolding field_from
  field_end h = rw (drop_of_length-le s h)

  -- the loop's turn: the answer from the start is what this byte's move says
  pub field_turn : {answer : FieldCut} {move : ByteMove} → answer ≡ field_from mode cell i (drop i s) → i < length s
      → move_of mode cell (get_or s i 0) (i + 1) ≡ move
      → answer
      ≡ after_move move (λ m c. field_from m c (i + 1) (drop (i + 1) s)) (Next cell (i + 1)) (Last cell (i + 1)) (Fault i)
  field_turn e h m = e ∙ field_more h ∙ rw m

-- what a row is once its next field has been cut
abbrev pub row_after : List ℕ → Cells → FieldCut → RowCut
row_after s cells (Next cell next) = row_from Fresh (empty_at next) (pushed cells cell) next (drop next s)
row_after s cells (Last cell next) = Cut (pushed cells cell) next
row_after s cells (Fault byte) = Broken byte

behind : (s : List ℕ) (i b : ℕ) (bs : List ℕ) → b ∷ bs ≡ drop i s → bs ≡ drop (i + 1) s
behind s i b bs e = rw (← drop-drop 1 i s, ← e)

module _ (s : List ℕ) (cells : Cells) where
  ends : (mode : Mode) (cell : Cell) (i : ℕ) → row_end cells (end_of mode cell i) ≡ row_after s cells (end_of mode cell i)
  unfolding end_of
  ends Fresh cell i = refl
  ends Bare cell i = refl
  ends Open cell i = refl
  ends Shut cell i = refl
  ends Return cell i = refl

  turns : (move : ByteMove) (cell : Cell) (i : ℕ) (bs : List ℕ) → bs ≡ drop (i + 1) s
      → ((m : Mode) (c : Cell) → row_from m c cells (i + 1) bs ≡ row_after s cells (field_from m c (i + 1) bs))
      → after_move move (λ m c. row_from m c cells (i + 1) bs) (row_from Fresh (empty_at (i + 1)) (pushed cells cell) (i + 1) bs) (Cut (pushed cells cell) (i + 1)) (Broken i)
      ≡ row_after s cells (after_move move (λ m c. field_from m c (i + 1) bs) (Next cell (i + 1)) (Last cell (i + 1)) (Fault i))
  turns (Go m c) cell i bs e more = more m c
  turns NextField cell i bs e more = rw e
  turns RowEnd cell i bs e more = refl
  turns Wrong cell i bs e more = refl

  by_field : (bs : List ℕ) (i : ℕ) → bs ≡ drop i s → (mode : Mode) (cell : Cell)
      → row_from mode cell cells i bs ≡ row_after s cells (field_from mode cell i bs)
  unfolding row_from field_from
  by_field [] i e mode cell = ends mode cell i
  by_field (b ∷ bs) i e mode cell =
      let e' : bs ≡ drop (i + 1) s = behind s i b bs e in
      turns (move_of mode cell b (i + 1)) cell i bs e' (by_field bs (i + 1) e')

-- where a field's answer points: behind byte lo, and not behind hi
abbrev pub FieldIn : FieldCut → ℕ → ℕ → Type 0
FieldIn (Next cell next) lo hi = (lo < next) × (next ≤ hi)
FieldIn (Last cell next) lo hi = (lo ≤ next) × (next ≤ hi)
FieldIn (Fault byte) lo hi = (lo ≤ byte) × (byte ≤ hi)

-- and a row's
abbrev pub RowIn : RowCut → ℕ → ℕ → Type 0
RowIn (Cut cells next) lo hi = (lo ≤ next) × (next ≤ hi)
RowIn NoRow lo hi = ⊥
RowIn (Broken byte) lo hi = (lo ≤ byte) × (byte ≤ hi)

-- and a row's that has a byte: the row takes one at least
abbrev pub RowPast : RowCut → ℕ → ℕ → Type 0
RowPast (Cut cells next) lo hi = (lo < next) × (next ≤ hi)
RowPast NoRow lo hi = ⊥
RowPast (Broken byte) lo hi = (lo ≤ byte) × (byte ≤ hi)

module _ (i n : ℕ) where
  field_wider : (r : FieldCut) → FieldIn r (i + 1) (i + 1 + n) → FieldIn r i (i + suc n)
  field_wider (Next cell next) h = omega arith
  field_wider (Last cell next) h = omega arith
  field_wider (Fault byte) h = omega arith

  field_turns_in : (move : ByteMove) (cell : Cell) (go : Mode → Cell → FieldCut) → ((m : Mode) (c : Cell) → FieldIn (go m c) (i + 1) (i + 1 + n))
      → FieldIn (after_move move go (Next cell (i + 1)) (Last cell (i + 1)) (Fault i)) i (i + suc n)
  field_turns_in (Go m c) cell go more = field_wider (go m c) (more m c)
  field_turns_in NextField cell go more = omega arith
  field_turns_in RowEnd cell go more = omega arith
  field_turns_in Wrong cell go more = omega arith

  row_wider : (r : RowCut) → RowIn r (i + 1) (i + 1 + n) → RowPast r i (i + suc n)
  row_wider (Cut cells next) h = omega arith
  row_wider NoRow h = h
  row_wider (Broken byte) h = omega arith

  row_turns_in : (move : ByteMove) (cells : Cells) (go : Mode → Cell → RowCut) (new : RowCut)
      → ((m : Mode) (c : Cell) → RowIn (go m c) (i + 1) (i + 1 + n)) → RowIn new (i + 1) (i + 1 + n)
      → RowPast (after_move move go new (Cut cells (i + 1)) (Broken i)) i (i + suc n)
  row_turns_in (Go m c) cells go new more last = row_wider (go m c) (more m c)
  row_turns_in NextField cells go new more last = row_wider new last
  row_turns_in RowEnd cells go new more last = omega arith
  row_turns_in Wrong cells go new more last = omega arith

field_ends_in : (mode : Mode) (cell : Cell) (i : ℕ) → FieldIn (end_of mode cell i) i (i + 0)
unfolding end_of
field_ends_in Fresh cell i = omega arith
field_ends_in Bare cell i = omega arith
field_ends_in Open cell i = omega arith
field_ends_in Shut cell i = omega arith
field_ends_in Return cell i = omega arith

pub field_in : (bs : List ℕ) (i : ℕ) (mode : Mode) (cell : Cell) → FieldIn (field_from mode cell i bs) i (i + length bs)
unfolding field_from
field_in [] i mode cell = field_ends_in mode cell i
field_in (b ∷ bs) i mode cell =
    field_turns_in i (length bs) (move_of mode cell b (i + 1)) cell (λ m c. field_from m c (i + 1) bs) (field_in bs (i + 1))

row_ends_in : (mode : Mode) (cell : Cell) (cells : Cells) (i : ℕ) → RowIn (row_end cells (end_of mode cell i)) i (i + 0)
unfolding end_of
row_ends_in Fresh cell cells i = omega arith
row_ends_in Bare cell cells i = omega arith
row_ends_in Open cell cells i = omega arith
row_ends_in Shut cell cells i = omega arith
row_ends_in Return cell cells i = omega arith

row_loose : (r : RowCut) (lo hi : ℕ) → RowPast r lo hi → RowIn r lo hi
row_loose (Cut cells next) lo hi h = omega arith
row_loose NoRow lo hi h = h
row_loose (Broken byte) lo hi h = h

module _ (b : ℕ) (bs : List ℕ) (i : ℕ) (mode : Mode) (cell : Cell) (cells : Cells) where
  row_past_by : ((i : ℕ) (mode : Mode) (cell : Cell) (cells : Cells) → RowIn (row_from mode cell cells i bs) i (i + length bs))
      → RowPast (row_from mode cell cells i (b ∷ bs)) i (i + suc (length bs))
  unfolding row_from
  row_past_by more =
      row_turns_in i (length bs) (move_of mode cell b (i + 1)) (pushed cells cell) (λ m c. row_from m c cells (i + 1) bs)
      (row_from Fresh (empty_at (i + 1)) (pushed cells cell) (i + 1) bs) (λ m c. more (i + 1) m c cells)
      (more (i + 1) Fresh (empty_at (i + 1)) (pushed cells cell))

row_in : (bs : List ℕ) (i : ℕ) (mode : Mode) (cell : Cell) (cells : Cells) → RowIn (row_from mode cell cells i bs) i (i + length bs)
unfolding row_from
row_in [] i mode cell cells = row_ends_in mode cell cells i
row_in (b ∷ bs) i mode cell cells =
    row_loose (row_from mode cell cells i (b ∷ bs)) i (i + suc (length bs)) (row_past_by b bs i mode cell cells (row_in bs))

-- the answer of the row cutter points behind the row's first byte, and not behind the sheet
pub cut_within : (s : List ℕ) (at : ℕ) {cut : RowCut} → at < length s → cut_row s at ≡ cut → RowPast cut at (length s)
unfolding cut_row
cut_within s at {cut} h e =
    let n : at + suc (length (drop (at + 1) s)) ≡ length s = simp length-drop (omega arith) in
    let e' : row_from Fresh (empty_at at) no_cells at (get_or s at 0 ∷ drop (at + 1) s) ≡ cut = rw (lt-ltb at (length s) h, here s at h) at e in
    rw n at (rw e' at (row_past_by (get_or s at 0) (drop (at + 1) s) at Fresh (empty_at at) no_cells (row_in (drop (at + 1) s))))

-- the row cutter's loop: the answer from the field at i on is the answer from the start
pub record RowSoFar (s : List ℕ) (at : ℕ) (cells : Cells) (i : ℕ) : Type 0 where
  pub answer : cut_row s at ≡ row_from Fresh (empty_at i) cells i (drop i s)
  pub within : i ≤ length s
  pub few : cells.count ≤ i

pub row_start : (s : List ℕ) (at : ℕ) → at < length s → RowSoFar s at no_cells at
unfolding cut_row
row_start s at h = record { answer = rw (lt-ltb at (length s) h); within = omega arith; few = omega arith }

module _ {s : List ℕ} {at : ℕ} {cells : Cells} {i : ℕ} (so : RowSoFar s at cells i) where
  pub row_turn : {cut : FieldCut} → cut_field s i ≡ cut → cut_row s at ≡ row_after s cells cut
  unfolding cut_field
  row_turn e = so.answer ∙ by_field s cells (drop i s) i refl Fresh (empty_at i) ∙ rw e

  pub field_within : {cut : FieldCut} → cut_field s i ≡ cut → FieldIn cut i (length s)
  unfolding cut_field
  field_within {cut} e =
      let n : i + length (drop i s) ≡ length s = simp length-drop (add-sub_of_le so.within) in
      rw n at (rw e at (field_in (drop i s) i Fresh (empty_at i)))

  pub row_more : {cell : Cell} {next : ℕ} → cut_field s i ≡ Next cell next → RowSoFar s at (pushed cells cell) next
  unfolding pushed
  row_more e =
      let w = field_within e in
      let f = so.few in
      record { answer = row_turn e; within = w.1; few = omega arith }
