-- Where a row or a field is broken: up to the byte told some continuation is one, and from it on none is.
-- Assumes nothing.
use Prim.Native.Nat.{ℕ, suc, ◌+◌, ◌-◌, ◌<◌}
use native.Mathlib.Nat.{add-zero}
use native.Mathlib.Omega.{arith}
use mathlib.Core.Path.{◌≡◌, refl, sym, ap, subst, ◌∙◌}
use mathlib.Core.List.{List, [], ◌∷◌, ◌++◌, append_assoc}
use lib.ListN.{length, take, drop}
use lib.Seq.{take-add}
use Rattle.grammar.specs.declared.cut.Mode.{Mode}
use Rattle.grammar.specs.declared.cut.Mode.TheVariants.{Fresh, Bare, Open, Shut, Return}
use Rattle.grammar.specs.declared.cut.Cell.{Cell}
use Rattle.grammar.specs.declared.cut.Cells.{Cells}
use Rattle.grammar.specs.declared.cut.ByteMove.{ByteMove}
use Rattle.grammar.specs.declared.cut.ByteMove.TheVariants.{Go, NextField, RowEnd, Wrong}
use Rattle.grammar.specs.declared.cut.FieldCut.{FieldCut}
use Rattle.grammar.specs.declared.cut.FieldCut.TheVariants.{Next, Last, Fault}
use Rattle.grammar.specs.declared.cut.RowCut.{RowCut}
use Rattle.grammar.specs.declared.cut.RowCut.TheVariants.{Cut, NoRow, Broken}
use Rattle.grammar.specs.Grammar.{quote, cr, lf}
use Rattle.grammar.specs.Cut.{empty_at, bare_move, shut_move, move_of, after_move, end_of, field_from, pushed, row_end, row_from}

-- a list with a byte in it
pub data Some : List ℕ → Type 0 where
  some : {b : ℕ} {bs : List ℕ} → Some (b ∷ bs)

-- the reader F, given bs at byte i, breaks off at `byte`: the bytes before it can be mended to what `Ends` says, the byte itself can't
pub record Stuck {A : Type 0} (Ends : ℕ → A → Type 0) (broken : ℕ → A) (F : List ℕ → A) (bs : List ℕ) (i byte : ℕ) : Type 0 where
  pub before : List ℕ
  pub behind : List ℕ
  pub split : bs ≡ before ++ behind
  pub place : byte ≡ i + length before
  pub mend : List ℕ
  pub some_mend : Some mend
  pub mended : Ends (i + length (before ++ mend)) (F (before ++ mend))
  pub hopeless : (c : ℕ) (rest other : List ℕ) → behind ≡ c ∷ rest → F (before ++ (c ∷ other)) ≡ broken byte

-- one byte more in front
later : {A : Type 0} {Ends : ℕ → A → Type 0} {broken : ℕ → A} (F G : List ℕ → A) (b : ℕ) (bs : List ℕ) (i : ℕ) {byte : ℕ}
    → ((xs : List ℕ) → F (b ∷ xs) ≡ G xs) → Stuck Ends broken G bs (i + 1) byte → Stuck Ends broken F (b ∷ bs) i byte
later {Ends = Ends} F G b bs i e s =
    let n : i + 1 + length (s.before ++ s.mend) ≡ i + suc (length (s.before ++ s.mend)) = omega arith in
    record {
      before = b ∷ s.before;
      behind = s.behind;
      split = ap (λ (l : List ℕ). b ∷ l) s.split;
      place = s.place ∙ omega arith;
      mend = s.mend;
      some_mend = s.some_mend;
      mended = rw (e (s.before ++ s.mend)) (subst (λ (m : ℕ). Ends m (G (s.before ++ s.mend))) n s.mended);
      hopeless = λ c rest other h. e (s.before ++ (c ∷ other)) ∙ s.hopeless c rest other h;
    }

-- broken at the very byte that comes, or at the sheet's end
now : {A : Type 0} {Ends : ℕ → A → Type 0} {broken : ℕ → A} {F : List ℕ → A} {bs : List ℕ} {i : ℕ} (mend : List ℕ) → Some mend → Ends (i + length mend) (F mend)
    → ((c : ℕ) (rest other : List ℕ) → bs ≡ c ∷ rest → F (c ∷ other) ≡ broken i) → Stuck Ends broken F bs i i
now {bs = bs} {i = i} mend p e h = record { before = []; behind = bs; split = refl; place = sym (add-zero i); mend = mend; some_mend = p; mended = e; hopeless = h }

no_byte : {A : Type 0} {x y : A} (c : ℕ) (rest : List ℕ) → ◌≡◌ {A = List ℕ} [] (c ∷ rest) → x ≡ y
no_byte c rest e = let z : ◌≡◌ {A = ℕ} 0 1 = cc in absurd (omega arith)

-- what ends a field and its row from each mode
abbrev mend_of : Mode → List ℕ
mend_of Fresh = cr ∷ lf ∷ []
mend_of Bare = cr ∷ lf ∷ []
mend_of Open = quote ∷ cr ∷ lf ∷ []
mend_of Shut = cr ∷ lf ∷ []
mend_of Return = lf ∷ []

mend_some : (mode : Mode) → Some (mend_of mode)
mend_some Fresh = some
mend_some Bare = some
mend_some Open = some
mend_some Shut = some
mend_some Return = some

-- ---- a row

-- a row that ends at byte n
abbrev pub EndsAt : ℕ → RowCut → Type 0
EndsAt n (Cut cells next) = next ≡ n
EndsAt n NoRow = ⊥
EndsAt n (Broken byte) = ⊥

abbrev pub StuckIf : (List ℕ → RowCut) → List ℕ → ℕ → RowCut → Type 0
StuckIf F bs i (Cut cells next) = Unit {0}
StuckIf F bs i NoRow = Unit {0}
StuckIf F bs i (Broken byte) = Stuck EndsAt Broken F bs i byte

later_row : (F G : List ℕ → RowCut) (b : ℕ) (bs : List ℕ) (i : ℕ) (cut : RowCut) → ((xs : List ℕ) → F (b ∷ xs) ≡ G xs)
    → StuckIf G bs (i + 1) cut → StuckIf F (b ∷ bs) i cut
later_row F G b bs i (Cut cells next) e s = tt
later_row F G b bs i NoRow e s = tt
later_row F G b bs i (Broken byte) e s = later F G b bs i e s

module _ (k : Cell) (cells : Cells) (i : ℕ) where
  mends : (mode : Mode) → EndsAt (i + length (mend_of mode)) (row_from mode k cells i (mend_of mode))
  unfolding row_from move_of bare_move shut_move
  mends Fresh = omega arith
  mends Bare = omega arith
  mends Open = omega arith
  mends Shut = omega arith
  mends Return = omega arith

  stuck_end : (mode : Mode) → StuckIf (row_from mode k cells i) [] i (row_end cells (end_of mode k i))
  unfolding end_of
  stuck_end Fresh = tt
  stuck_end Bare = tt
  stuck_end Open = now (mend_of Open) some (mends Open) (λ c rest other e. no_byte c rest e)
  stuck_end Shut = tt
  stuck_end Return = now (mend_of Return) some (mends Return) (λ c rest other e. no_byte c rest e)

  module _ (mode : Mode) (b : ℕ) (bs : List ℕ) where
    stuck_turn : (move : ByteMove) → move_of mode k b (i + 1) ≡ move
        → ((m : Mode) (c : Cell) → StuckIf (row_from m c cells (i + 1)) bs (i + 1) (row_from m c cells (i + 1) bs))
        → StuckIf (row_from Fresh (empty_at (i + 1)) (pushed cells k) (i + 1)) bs (i + 1) (row_from Fresh (empty_at (i + 1)) (pushed cells k) (i + 1) bs)
        → StuckIf (row_from mode k cells i) (b ∷ bs) i
        (after_move move (λ m c. row_from m c cells (i + 1) bs) (row_from Fresh (empty_at (i + 1)) (pushed cells k) (i + 1) bs) (Cut (pushed cells k) (i + 1)) (Broken i))
    unfolding row_from
    stuck_turn (Go m c) e on new =
        later_row (row_from mode k cells i) (row_from m c cells (i + 1)) b bs i (row_from m c cells (i + 1) bs) (λ xs. rw e) (on m c)
    stuck_turn NextField e on new =
        later_row (row_from mode k cells i) (row_from Fresh (empty_at (i + 1)) (pushed cells k) (i + 1)) b bs i (row_from Fresh (empty_at (i + 1)) (pushed cells k) (i + 1) bs) (λ xs. rw e) new
    stuck_turn RowEnd e on new = tt
    stuck_turn Wrong e on new = now (mend_of mode) (mend_some mode) (mends mode) (λ c rest other q. wrong c other (let h : b ≡ c = cc in h))
      where
        wrong : (c : ℕ) (other : List ℕ) → b ≡ c → row_from mode k cells i (c ∷ other) ≡ Broken i
        wrong c other q = rw (← q) (rw e)

pub row_stuck : (bs : List ℕ) (mode : Mode) (k : Cell) (cells : Cells) (i : ℕ) → StuckIf (row_from mode k cells i) bs i (row_from mode k cells i bs)
unfolding row_from
row_stuck [] mode k cells i = stuck_end k cells i mode
row_stuck (b ∷ bs) mode k cells i =
    stuck_turn k cells i mode b bs (move_of mode k b (i + 1)) refl (λ m c. row_stuck bs m c cells (i + 1))
    (row_stuck bs Fresh (empty_at (i + 1)) (pushed cells k) (i + 1))

-- ---- a field

-- a field is found, wherever it ends
abbrev pub HasField : FieldCut → Type 0
HasField (Next cell next) = Unit {0}
HasField (Last cell next) = Unit {0}
HasField (Fault byte) = ⊥

abbrev pub FieldStuckIf : (List ℕ → FieldCut) → List ℕ → ℕ → FieldCut → Type 0
FieldStuckIf F bs i (Next cell next) = Unit {0}
FieldStuckIf F bs i (Last cell next) = Unit {0}
FieldStuckIf F bs i (Fault byte) = Stuck (λ (n : ℕ). HasField) Fault F bs i byte

later_field : (F G : List ℕ → FieldCut) (b : ℕ) (bs : List ℕ) (i : ℕ) (cut : FieldCut) → ((xs : List ℕ) → F (b ∷ xs) ≡ G xs)
    → FieldStuckIf G bs (i + 1) cut → FieldStuckIf F (b ∷ bs) i cut
later_field F G b bs i (Next cell next) e s = tt
later_field F G b bs i (Last cell next) e s = tt
later_field F G b bs i (Fault byte) e s = later F G b bs i e s

module _ (k : Cell) (i : ℕ) where
  field_mends : (mode : Mode) → HasField (field_from mode k i (mend_of mode))
  unfolding field_from move_of bare_move shut_move
  field_mends Fresh = tt
  field_mends Bare = tt
  field_mends Open = tt
  field_mends Shut = tt
  field_mends Return = tt

  field_stuck_end : (mode : Mode) → FieldStuckIf (field_from mode k i) [] i (end_of mode k i)
  unfolding end_of
  field_stuck_end Fresh = tt
  field_stuck_end Bare = tt
  field_stuck_end Open = now (mend_of Open) some (field_mends Open) (λ c rest other e. no_byte c rest e)
  field_stuck_end Shut = tt
  field_stuck_end Return = now (mend_of Return) some (field_mends Return) (λ c rest other e. no_byte c rest e)

  module _ (mode : Mode) (b : ℕ) (bs : List ℕ) where
    field_stuck_turn : (move : ByteMove) → move_of mode k b (i + 1) ≡ move
        → ((m : Mode) (c : Cell) → FieldStuckIf (field_from m c (i + 1)) bs (i + 1) (field_from m c (i + 1) bs))
        → FieldStuckIf (field_from mode k i) (b ∷ bs) i (after_move move (λ m c. field_from m c (i + 1) bs) (Next k (i + 1)) (Last k (i + 1)) (Fault i))
    unfolding field_from
    field_stuck_turn (Go m c) e on = later_field (field_from mode k i) (field_from m c (i + 1)) b bs i (field_from m c (i + 1) bs) (λ xs. rw e) (on m c)
    field_stuck_turn NextField e on = tt
    field_stuck_turn RowEnd e on = tt
    field_stuck_turn Wrong e on = now (mend_of mode) (mend_some mode) (field_mends mode) (λ c rest other q. wrong c other (let h : b ≡ c = cc in h))
      where
        wrong : (c : ℕ) (other : List ℕ) → b ≡ c → field_from mode k i (c ∷ other) ≡ Fault i
        wrong c other q = rw (← q) (rw e)

pub field_stuck : (bs : List ℕ) (mode : Mode) (k : Cell) (i : ℕ) → FieldStuckIf (field_from mode k i) bs i (field_from mode k i bs)
unfolding field_from
field_stuck [] mode k i = field_stuck_end k i mode
field_stuck (b ∷ bs) mode k i = field_stuck_turn k i mode b bs (move_of mode k b (i + 1)) refl (λ m c. field_stuck bs m c (i + 1))

-- ---- the byte

-- what stands up to a later byte stands up to an earlier one with more behind it
pub front_longer : (s : List ℕ) (a b : ℕ) (mend : List ℕ) → a < b → take b s ++ mend ≡ take (a + 1) s ++ (take (b - (a + 1)) (drop (a + 1) s) ++ mend)
front_longer s a b mend h =
    let n : b ≡ a + 1 + (b - (a + 1)) = omega arith in
    ap (λ (m : ℕ). take m s ++ mend) n ∙ rw (take-add (a + 1) (b - (a + 1)) s) (append_assoc (take (a + 1) s) (take (b - (a + 1)) (drop (a + 1) s)) mend)
