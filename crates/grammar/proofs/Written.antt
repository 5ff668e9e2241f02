-- From the grammar to the cutters: over the bytes of a written field a cutter comes to rest behind it with the field's cell.
-- Assumes nothing.
use Prim.Native.Nat.{ℕ, suc, ◌+◌}
use native.Mathlib.Nat.{add-zero, add_assoc}
use native.Mathlib.Omega.{arith}
use mathlib.Core.Path.{◌≡◌, refl, ◌∙◌}
use mathlib.Core.Bool.{Bool, true, false, cond}
use mathlib.Core.List.{List, [], ◌∷◌, ◌++◌, append_assoc}
use lib.ListN.{length, length-append}
use lib.Dec.{eqb}
use borrow.Author.Tests.{ne_eqb}
use Rattle.grammar.specs.declared.cut.Mode.{Mode}
use Rattle.grammar.specs.declared.cut.Mode.TheVariants.{Fresh, Bare, Open, Shut}
use Rattle.grammar.specs.declared.cut.Cell.{Cell}
use Rattle.grammar.specs.declared.cut.Cells.{Cells}
use Rattle.grammar.specs.declared.cut.ByteMove.TheVariants.{Go}
use Rattle.grammar.specs.declared.cut.FieldCut.TheVariants.{Next, Last}
use Rattle.grammar.specs.declared.cut.RowCut.TheVariants.{Cut}
use Rattle.grammar.specs.Grammar.{quote, comma, cr, lf, Plain, AllPlain, none, more, Field, bare, quoted, Written, is_bare, escape, field_text, Row, only, ◌then◌, WrittenRow, written_only, written_then, row_text}
use Rattle.grammar.specs.Cut.{up_to, empty_at, bare_move, shut_move, move_of, field_from, end_of, pushed, row_from}
use Rattle.grammar.specs.Where.{holds_quote, cell_of, cells_of}

abbrev cell : ℕ → ℕ → Bool → Cell
cell a e d = record { start = a; end = e; doubled = d }

plain_bare : (b next : ℕ) (k : Cell) → Plain b → move_of Bare k b next ≡ Go Bare (up_to k next false)
unfolding move_of bare_move
plain_bare b next k p = simp (ne_eqb _ _ p.no_quote, ne_eqb _ _ p.no_comma, ne_eqb _ _ p.no_cr, ne_eqb _ _ p.no_lf)

plain_fresh : (b next : ℕ) (k : Cell) → Plain b → move_of Fresh k b next ≡ Go Bare (up_to k next false)
unfolding move_of bare_move
plain_fresh b next k p = simp (ne_eqb _ _ p.no_quote, ne_eqb _ _ p.no_comma, ne_eqb _ _ p.no_cr, ne_eqb _ _ p.no_lf)

open_quote : (k : Cell) (next : ℕ) → move_of Open k quote next ≡ Go Shut k
unfolding move_of
open_quote k next = refl

fresh_quote : (k : Cell) (next : ℕ) → move_of Fresh k quote next ≡ Go Open (empty_at next)
unfolding move_of
fresh_quote k next = refl

shut_quote : (k : Cell) (b next : ℕ) → eqb b quote ≡ true → move_of Shut k b next ≡ Go Open (up_to k next true)
unfolding move_of shut_move
shut_quote k b next e = rw e

open_other : (k : Cell) (b next : ℕ) → eqb b quote ≡ false → move_of Open k b next ≡ Go Open (up_to k next k.doubled)
unfolding move_of
open_other k b next e = rw e

-- whether a quote has come, or comes in this content
doubled_by : Bool → List ℕ → Bool
doubled_by d [] = d
doubled_by d (b ∷ bs) = doubled_by (cond (eqb b quote) true d) bs

doubled_stays : (c : List ℕ) → doubled_by true c ≡ true
unfolding doubled_by
doubled_stays [] = refl
doubled_stays (b ∷ c) = rw (either (eqb b quote)) (doubled_stays c)
  where
    either : (q : Bool) → cond q true true ≡ true
    either true = refl
    either false = refl

doubled_holds : (c : List ℕ) → doubled_by false c ≡ holds_quote c
unfolding doubled_by holds_quote
doubled_holds [] = refl
doubled_holds (b ∷ c) = either (eqb b quote) (doubled_holds c)
  where
    either : (q : Bool) → doubled_by false c ≡ holds_quote c → doubled_by (cond q true false) c ≡ cond q true (holds_quote c)
    either true e = doubled_stays c
    either false e = e

-- where the bytes of a field leave a cutter
abbrev pub mode_after : Field → Mode
mode_after (bare []) = Fresh
mode_after (bare (b ∷ c)) = Bare
mode_after (quoted c) = Shut

-- a cutter goes on as the moves say
pub record GoesByMoves {A : Type 0} (F : Mode → Cell → ℕ → List ℕ → A) : Type 0 where
  pub step : (mode : Mode) (k : Cell) (i b : ℕ) (bs : List ℕ) (m : Mode) (c : Cell) → move_of mode k b (i + 1) ≡ Go m c
      → F mode k i (b ∷ bs) ≡ F m c (i + 1) bs

module _ {A : Type 0} {F : Mode → Cell → ℕ → List ℕ → A} (steps : GoesByMoves F) where
  bare_run : (a i : ℕ) (c t : List ℕ) → AllPlain c → F Bare (cell a i false) i (c ++ t) ≡ F Bare (cell a (i + length c) false) (i + length c) t
  bare_run a i [] t none = rw add-zero
  bare_run a i (b ∷ c) t (more p ps) =
      let e : i + 1 + length c ≡ i + suc (length c) = omega arith in
      steps.step Bare (cell a i false) i b (c ++ t) _ _ (plain_bare b (i + 1) (cell a i false) p) ∙ (rw e at (bare_run a (i + 1) c t ps))

  open_turn : (a i b : ℕ) (d : Bool) (c t : List ℕ) (q : Bool) → eqb b quote ≡ q
      → ((i : ℕ) (d : Bool) → F Open (cell a i d) i (escape c ++ t) ≡ F Open (cell a (i + length (escape c)) (doubled_by d c)) (i + length (escape c)) t)
      → F Open (cell a i d) i (escape (b ∷ c) ++ t)
      ≡ F Open (cell a (i + length (escape (b ∷ c))) (doubled_by d (b ∷ c))) (i + length (escape (b ∷ c))) t
  unfolding escape doubled_by
  open_turn a i b d c t true e on =
      let n : i + 1 + 1 + length (escape c) ≡ i + suc (suc (length (escape c))) = omega arith in
      rw e
      (steps.step Open (cell a i d) i quote (b ∷ escape c ++ t) _ _ (open_quote (cell a i d) (i + 1))
      ∙ steps.step Shut (cell a i d) (i + 1) b (escape c ++ t) _ _ (shut_quote (cell a i d) b (i + 1 + 1) e)
      ∙ (rw n at (on (i + 1 + 1) true)))
  open_turn a i b d c t false e on =
      let n : i + 1 + length (escape c) ≡ i + suc (length (escape c)) = omega arith in
      rw e (steps.step Open (cell a i d) i b (escape c ++ t) _ _ (open_other (cell a i d) b (i + 1) e) ∙ (rw n at (on (i + 1) d)))

  open_run : (a i : ℕ) (d : Bool) (c t : List ℕ)
      → F Open (cell a i d) i (escape c ++ t) ≡ F Open (cell a (i + length (escape c)) (doubled_by d c)) (i + length (escape c)) t
  unfolding escape doubled_by
  open_run a i d [] t = rw add-zero
  open_run a i d (b ∷ c) t = open_turn a i b d c t (eqb b quote) refl (λ j e. open_run a j e c t)

  -- over a field's bytes
  pub field_run : (f : Field) (i : ℕ) (t : List ℕ) → Written f
      → F Fresh (empty_at i) i (field_text f ++ t) ≡ F (mode_after f) (cell_of i f) (i + length (field_text f)) t
  unfolding field_text cell_of
  field_run (bare []) i t w = rw add-zero
  field_run (bare (b ∷ c)) i t (is_bare (more p ps)) =
      let n : i + 1 + length c ≡ i + suc (length c) = omega arith in
      steps.step Fresh (empty_at i) i b (c ++ t) _ _ (plain_fresh b (i + 1) (empty_at i) p) ∙ (rw n at (bare_run i (i + 1) c t ps))
  field_run (quoted c) i t w =
      let n : i + 1 + length (escape c) + 1 ≡ i + suc (length (escape c ++ (quote ∷ []))) = simp length-append (omega arith) in
      steps.step Fresh (empty_at i) i quote ((escape c ++ (quote ∷ [])) ++ t) _ _ (fresh_quote (empty_at i) (i + 1))
      ∙ rw append_assoc (open_run (i + 1) (i + 1) false c (quote ∷ t))
      ∙ steps.step Open (cell (i + 1) (i + 1 + length (escape c)) (doubled_by false c)) (i + 1 + length (escape c)) quote t _ _ (open_quote _ _)
      ∙ rw (n, doubled_holds c)

pub field_steps : GoesByMoves field_from
unfolding field_from
field_steps = record { step = λ mode k i b bs m c e. rw e }

pub row_steps : (cells : Cells) → GoesByMoves (λ mode k i bs. row_from mode k cells i bs)
unfolding row_from
row_steps cells = record { step = λ mode k i b bs m c e. rw e }

-- at rest behind a field's bytes
pub data AtRest : Mode → Type 0 where
  rest_fresh : AtRest Fresh
  rest_bare : AtRest Bare
  rest_shut : AtRest Shut

pub rest_after : (f : Field) → AtRest (mode_after f)
rest_after (bare []) = rest_fresh
rest_after (bare (b ∷ c)) = rest_bare
rest_after (quoted c) = rest_shut

module _ (k : Cell) (i : ℕ) where
  pub field_comma : {mode : Mode} (t : List ℕ) → AtRest mode → field_from mode k i (comma ∷ t) ≡ Next k (i + 1)
  unfolding field_from move_of bare_move shut_move
  field_comma t rest_fresh = refl
  field_comma t rest_bare = refl
  field_comma t rest_shut = refl

  pub field_crlf : {mode : Mode} (t : List ℕ) → AtRest mode → field_from mode k i (cr ∷ lf ∷ t) ≡ Last k (i + 1 + 1)
  unfolding field_from move_of bare_move shut_move
  field_crlf t rest_fresh = refl
  field_crlf t rest_bare = refl
  field_crlf t rest_shut = refl

  pub field_last : {mode : Mode} → AtRest mode → field_from mode k i [] ≡ Last k i
  unfolding field_from end_of
  field_last rest_fresh = refl
  field_last rest_bare = refl
  field_last rest_shut = refl

  module _ (cells : Cells) where
    row_comma : {mode : Mode} (t : List ℕ) → AtRest mode → row_from mode k cells i (comma ∷ t) ≡ row_from Fresh (empty_at (i + 1)) (pushed cells k) (i + 1) t
    unfolding row_from move_of bare_move shut_move
    row_comma t rest_fresh = refl
    row_comma t rest_bare = refl
    row_comma t rest_shut = refl

    row_crlf : {mode : Mode} (t : List ℕ) → AtRest mode → row_from mode k cells i (cr ∷ lf ∷ t) ≡ Cut (pushed cells k) (i + 2)
    unfolding row_from move_of bare_move shut_move
    row_crlf t rest_fresh = rw (← add_assoc i 1 1)
    row_crlf t rest_bare = rw (← add_assoc i 1 1)
    row_crlf t rest_shut = rw (← add_assoc i 1 1)

    row_end_lem : {mode : Mode} → AtRest mode → row_from mode k cells i [] ≡ Cut (pushed cells k) (i + 0)
    unfolding row_from end_of
    row_end_lem rest_fresh = rw add-zero
    row_end_lem rest_bare = rw add-zero
    row_end_lem rest_shut = rw add-zero

-- a tail that ends a row, in n bytes
pub record Ending (t : List ℕ) (n : ℕ) : Type 0 where
  pub end_at : (mode : Mode) (k : Cell) (i : ℕ) (cells : Cells) → AtRest mode → row_from mode k cells i t ≡ Cut (pushed cells k) (i + n)

pub by_crlf : (t : List ℕ) → Ending (cr ∷ lf ∷ t) 2
by_crlf t = record { end_at = λ mode k i cells r. row_crlf k i cells t r }

pub by_end : Ending [] 0
by_end = record { end_at = λ mode k i cells r. row_end_lem k i cells r }

-- every row that the grammar can write is cut back to itself
pub row_run : {t : List ℕ} {n : ℕ} → Ending t n → (r : Row) (i : ℕ) (cells : Cells) → WrittenRow r
    → row_from Fresh (empty_at i) cells i (row_text r ++ t) ≡ Cut (cells_of cells i r) (i + length (row_text r) + n)
unfolding row_text cells_of
row_run {t} e (only f) i cells (written_only w) =
    field_run (row_steps cells) f i t w ∙ e.end_at (mode_after f) (cell_of i f) (i + length (field_text f)) cells (rest_after f)
row_run {t} {n} e (f then r) i cells (written_then w ws) =
    let j : ℕ = i + length (field_text f) in
    let m : j + 1 + length (row_text r) + n ≡ i + length (field_text f ++ (comma ∷ row_text r)) + n = simp length-append (omega arith) in
    rw append_assoc (field_run (row_steps cells) f i (comma ∷ row_text r ++ t) w)
    ∙ row_comma (cell_of i f) j cells (row_text r ++ t) (rest_after f)
    ∙ (rw m at (row_run e r (j + 1) (pushed cells (cell_of i f)) ws))
