-- From the cutters to the grammar: what has been read of a field is the beginning of one that can be written, and a field or
-- a row that is found is a written one.
-- Assumes nothing.
use Prim.Native.Nat.{ℕ, ◌+◌}
use mathlib.Core.Path.{◌≡◌, refl, sym, ap, ◌∙◌}
use mathlib.Core.Bool.{Bool, true, false, cond}
use mathlib.Core.List.{List, [], ◌∷◌, ◌++◌, append_assoc, append-nil}
use lib.Dec.{eqb}
use borrow.Author.Tests.{eqb-true, eqb-false}
use Rattle.grammar.specs.declared.cut.Mode.{Mode}
use Rattle.grammar.specs.declared.cut.Mode.TheVariants.{Fresh, Bare, Open, Shut, Return}
use Rattle.grammar.specs.declared.cut.Cell.{Cell}
use Rattle.grammar.specs.declared.cut.Cells.{Cells}
use Rattle.grammar.specs.declared.cut.ByteMove.{ByteMove}
use Rattle.grammar.specs.declared.cut.ByteMove.TheVariants.{Go, NextField, RowEnd, Wrong}
use Rattle.grammar.specs.declared.cut.FieldCut.{FieldCut}
use Rattle.grammar.specs.declared.cut.FieldCut.TheVariants.{Next, Last, Fault}
use Rattle.grammar.specs.declared.cut.RowCut.{RowCut}
use Rattle.grammar.specs.declared.cut.RowCut.TheVariants.{Cut, NoRow, Broken}
use Rattle.grammar.specs.Grammar.{quote, comma, cr, lf, Plain, AllPlain, none, more, Field, bare, quoted, Written, is_bare, is_quoted, escape, field_text, Row, only, ◌then◌, WrittenRow, written_only, written_then, row_text}
use Rattle.grammar.specs.Cut.{empty_at, bare_move, shut_move, move_of, after_move, end_of, field_from, pushed, row_end, row_from}

-- a choice has what both of its sides have
either : {A : Type 0} (P : A → Type 0) {x y : A} (q : Bool) → (q ≡ true → P x) → (q ≡ false → P y) → P (cond q x y)
either P true t f = t refl
either P false t f = f refl

plain_snoc : {c : List ℕ} {b : ℕ} → AllPlain c → Plain b → AllPlain (c ++ (b ∷ []))
plain_snoc none p = more p none
plain_snoc (more q qs) p = more q (plain_snoc qs p)

escape_snoc : (c : List ℕ) (b : ℕ) → escape (c ++ (b ∷ [])) ≡ escape c ++ escape (b ∷ [])
unfolding escape
escape_snoc [] b = refl
escape_snoc (a ∷ c) b = both (escape c) (escape (b ∷ [])) (eqb a quote) (escape_snoc c b)
  where
    both : {l : List ℕ} (m t : List ℕ) (q : Bool) → l ≡ m ++ t → cond q (quote ∷ a ∷ l) (a ∷ l) ≡ cond q (quote ∷ a ∷ m) (a ∷ m) ++ t
    both m t true e = rw e
    both m t false e = rw e

-- what the bytes of a field so far are, in each mode
pub data Part : Mode → List ℕ → Type 0 where
  in_fresh : Part Fresh []
  in_bare : {c : List ℕ} → AllPlain c → Part Bare c
  in_open : {done : List ℕ} (c : List ℕ) → done ≡ quote ∷ escape c → Part Open done
  in_shut : {done : List ℕ} (c : List ℕ) → done ≡ field_text (quoted c) → Part Shut done
  in_return : {done : List ℕ} (f : Field) → Written f → done ≡ field_text f ++ (cr ∷ []) → Part Return done

-- a written field with these bytes behind it
pub record FieldThen (text behind : List ℕ) : Type 0 where
  pub field : Field
  pub written : Written field
  pub text_is : text ≡ field_text field ++ behind

-- what has been read once a byte b has come, by what it did
abbrev Moved : List ℕ → ℕ → ByteMove → Type 0
Moved done b (Go mode k) = Part mode (done ++ (b ∷ []))
Moved done b NextField = FieldThen (done ++ (b ∷ [])) (comma ∷ [])
Moved done b RowEnd = FieldThen (done ++ (b ∷ [])) (cr ∷ lf ∷ [])
Moved done b Wrong = Unit {0}

moved_bare : {c : List ℕ} → AllPlain c → (k : Cell) (b next : ℕ) → (b ≡ quote → ⊥) → Moved c b (bare_move k b next)
unfolding bare_move field_text
moved_bare {c} ps k b next nq =
    either (Moved c b) (eqb b comma) (λ e. record { field = bare c; written = is_bare ps; text_is = rw (eqb-true b comma e) })
    (λ nc. either (Moved c b) (eqb b cr) (λ e. in_return (bare c) (is_bare ps) (rw (eqb-true b cr e)))
    (λ nr. either (Moved c b) (eqb b lf) (λ e. tt)
    (λ nl. in_bare (plain_snoc ps (record { no_quote = nq; no_comma = eqb-false b comma nc; no_cr = eqb-false b cr nr; no_lf = eqb-false b lf nl })))))

moved_shut : {done : List ℕ} (c : List ℕ) → done ≡ field_text (quoted c) → (k : Cell) (b next : ℕ) → Moved done b (shut_move k b next)
unfolding shut_move field_text escape
moved_shut {done} c e k b next =
    either (Moved done b) (eqb b quote) (λ q. in_open (c ++ (quote ∷ [])) (again (eqb-true b quote q)))
    (λ nq. either (Moved done b) (eqb b comma) (λ q. record { field = quoted c; written = is_quoted; text_is = rw (e, eqb-true b comma q) })
    (λ nc. either (Moved done b) (eqb b cr) (λ q. in_return (quoted c) is_quoted (rw (e, eqb-true b cr q))) (λ nr. tt)))
  where
    again : b ≡ quote → done ++ (b ∷ []) ≡ quote ∷ escape (c ++ (quote ∷ []))
    again q = rw (e, q, escape_snoc c quote) (ap (λ (l : List ℕ). quote ∷ l) (append_assoc (escape c) (quote ∷ []) (quote ∷ [])))

pub moved : {mode : Mode} {done : List ℕ} → Part mode done → (k : Cell) (b next : ℕ) → Moved done b (move_of mode k b next)
unfolding move_of field_text escape
moved in_fresh k b next =
    either (Moved [] b) (eqb b quote) (λ e. in_open [] (open_first (eqb-true b quote e))) (λ nq. moved_bare none k b next (eqb-false b quote nq))
  where
    open_first : b ≡ quote → b ∷ [] ≡ quote ∷ escape []
    open_first e = rw e
moved (in_bare {c} ps) k b next = either (Moved c b) (eqb b quote) (λ e. tt) (λ nq. moved_bare ps k b next (eqb-false b quote nq))
moved (in_open {done} c e) k b next =
    either (Moved done b) (eqb b quote) (λ q. in_shut c (close (eqb-true b quote q))) (λ nq. in_open (c ++ (b ∷ [])) (on nq))
  where
    close : b ≡ quote → done ++ (b ∷ []) ≡ field_text (quoted c)
    close q = rw (e, q)

    on : eqb b quote ≡ false → done ++ (b ∷ []) ≡ quote ∷ escape (c ++ (b ∷ []))
    on nq = rw (e, escape_snoc c b, nq)
moved (in_shut c e) k b next = moved_shut c e k b next
moved (in_return {done} f w e) k b next =
    either (Moved done b) (eqb b lf) (λ q. record { field = f; written = w; text_is = rw (e, eqb-true b lf q) (simp append_assoc) }) (λ nq. tt)

-- what has been read where the sheet ends
abbrev Ended : List ℕ → FieldCut → Type 0
Ended done (Next k next) = ⊥
Ended done (Last k next) = FieldThen done []
Ended done (Fault byte) = Unit {0}

pub ended_in : {mode : Mode} {done : List ℕ} → Part mode done → (k : Cell) (i : ℕ) → Ended done (end_of mode k i)
unfolding end_of field_text
ended_in in_fresh k i = record { field = bare []; written = is_bare none; text_is = refl }
ended_in (in_bare {c} ps) k i = record { field = bare c; written = is_bare ps; text_is = sym (append-nil c) }
ended_in (in_open c e) k i = tt
ended_in (in_shut c e) k i = record { field = quoted c; written = is_quoted; text_is = rw (e, append-nil) }
ended_in (in_return f w e) k i = tt

-- a field that is found is a written one
pub data FieldEnds (text : List ℕ) : Type 0 where
  with_crlf : (rest : List ℕ) → FieldThen text (cr ∷ lf ∷ rest) → FieldEnds text
  with_sheet : FieldThen text [] → FieldEnds text

pub record FieldGoesOn (text : List ℕ) : Type 0 where
  pub rest : List ℕ
  pub is : FieldThen text (comma ∷ rest)

abbrev pub FieldFound : List ℕ → FieldCut → Type 0
FieldFound text (Next k next) = FieldGoesOn text
FieldFound text (Last k next) = FieldEnds text
FieldFound text (Fault byte) = Unit {0}

-- more text behind
longer : {text : List ℕ} (behind rest : List ℕ) → FieldThen text behind → FieldThen (text ++ rest) (behind ++ rest)
longer behind rest h = record { field = h.field; written = h.written; text_is = rw h.text_is (append_assoc (field_text h.field) behind rest) }

-- the byte that has come stands at the end of what is read, or at the front of what follows
shift : (done : List ℕ) (b : ℕ) (bs : List ℕ) → (done ++ (b ∷ [])) ++ bs ≡ done ++ (b ∷ bs)
shift done b bs = append_assoc done (b ∷ []) bs

module _ (done : List ℕ) (b : ℕ) (bs : List ℕ) where
  field_turn : (move : ByteMove) (k : Cell) (i : ℕ) → Moved done b move
      → ((m : Mode) (c : Cell) → Part m (done ++ (b ∷ [])) → FieldFound ((done ++ (b ∷ [])) ++ bs) (field_from m c (i + 1) bs))
      → FieldFound (done ++ (b ∷ bs)) (after_move move (λ m c. field_from m c (i + 1) bs) (Next k (i + 1)) (Last k (i + 1)) (Fault i))
  field_turn (Go m c) k i p on = rw (shift done b bs) at (on m c p)
  field_turn NextField k i p on = record { rest = bs; is = rw (shift done b bs) at (longer (comma ∷ []) bs p) }
  field_turn RowEnd k i p on = with_crlf bs (rw (shift done b bs) at (longer (cr ∷ lf ∷ []) bs p))
  field_turn Wrong k i p on = tt

field_end : (done : List ℕ) (cut : FieldCut) → Ended done cut → FieldFound (done ++ []) cut
field_end done (Next k next) p = absurd p
field_end done (Last k next) p = with_sheet (rw (← append-nil done) at p)
field_end done (Fault byte) p = tt

pub field_found : (bs : List ℕ) {done : List ℕ} (mode : Mode) (k : Cell) (i : ℕ) → Part mode done → FieldFound (done ++ bs) (field_from mode k i bs)
unfolding field_from
field_found [] {done} mode k i p = field_end done (end_of mode k i) (ended_in p k i)
field_found (b ∷ bs) {done} mode k i p =
    field_turn done b bs (move_of mode k b (i + 1)) k i (moved p k b (i + 1)) (λ m c q. field_found bs m c (i + 1) q)

-- and so is a row
pub data RowEnds (text : List ℕ) : Type 0 where
  row_crlf : (r : Row) (rest : List ℕ) → WrittenRow r → text ≡ row_text r ++ (cr ∷ lf ∷ rest) → RowEnds text
  row_sheet : (r : Row) → WrittenRow r → text ≡ row_text r → RowEnds text

abbrev pub RowFound : List ℕ → RowCut → Type 0
RowFound text (Cut cells next) = RowEnds text
RowFound text NoRow = ⊥
RowFound text (Broken byte) = Unit {0}

-- a field in front of a row
in_front : {text : List ℕ} (bs : List ℕ) → FieldThen text (comma ∷ bs) → RowEnds bs → RowEnds text
unfolding row_text
in_front bs h (row_crlf r rest w e) =
    row_crlf (h.field then r) rest (written_then h.written w)
    (h.text_is ∙ rw e (sym (append_assoc (field_text h.field) (comma ∷ row_text r) (cr ∷ lf ∷ rest))))
in_front bs h (row_sheet r w e) = row_sheet (h.field then r) (written_then h.written w) (h.text_is ∙ rw e)

next_found : {text : List ℕ} (bs : List ℕ) (cut : RowCut) → FieldThen text (comma ∷ bs) → RowFound bs cut → RowFound text cut
next_found bs (Cut cells next) h p = in_front bs h p
next_found bs NoRow h p = p
next_found bs (Broken byte) h p = tt

module _ (done : List ℕ) (b : ℕ) (bs : List ℕ) (cells : Cells) where
  row_turn : (move : ByteMove) (k : Cell) (i : ℕ) → Moved done b move
      → ((m : Mode) (c : Cell) → Part m (done ++ (b ∷ [])) → RowFound ((done ++ (b ∷ [])) ++ bs) (row_from m c cells (i + 1) bs))
      → RowFound bs (row_from Fresh (empty_at (i + 1)) (pushed cells k) (i + 1) bs)
      → RowFound (done ++ (b ∷ bs)) (after_move move (λ m c. row_from m c cells (i + 1) bs) (row_from Fresh (empty_at (i + 1)) (pushed cells k) (i + 1) bs) (Cut (pushed cells k) (i + 1)) (Broken i))
  unfolding row_text
  row_turn (Go m c) k i p on new = rw (shift done b bs) at (on m c p)
  row_turn NextField k i p on new = next_found bs (row_from Fresh (empty_at (i + 1)) (pushed cells k) (i + 1) bs) (rw (shift done b bs) at (longer (comma ∷ []) bs p)) new
  row_turn RowEnd k i p on new =
      let h : FieldThen (done ++ (b ∷ bs)) (cr ∷ lf ∷ bs) = rw (shift done b bs) at (longer (cr ∷ lf ∷ []) bs p) in
      row_crlf (only h.field) bs (written_only h.written) h.text_is
  row_turn Wrong k i p on new = tt

row_end_lem : (done : List ℕ) (cells : Cells) (cut : FieldCut) → Ended done cut → RowFound (done ++ []) (row_end cells cut)
unfolding row_text
row_end_lem done cells (Next k next) p = tt
row_end_lem done cells (Last k next) p = row_sheet (only p.field) (written_only p.written) (append-nil done ∙ p.text_is ∙ append-nil _)
row_end_lem done cells (Fault byte) p = tt

pub row_found : (bs : List ℕ) {done : List ℕ} (mode : Mode) (k : Cell) (cells : Cells) (i : ℕ) → Part mode done → RowFound (done ++ bs) (row_from mode k cells i bs)
unfolding row_from
row_found [] {done} mode k cells i p = row_end_lem done cells (end_of mode k i) (ended_in p k i)
row_found (b ∷ bs) {done} mode k cells i p =
    row_turn done b bs cells (move_of mode k b (i + 1)) k i (moved p k b (i + 1)) (λ m c q. row_found bs m c cells (i + 1) q)
    (row_found bs Fresh (empty_at (i + 1)) (pushed cells k) (i + 1) in_fresh)
