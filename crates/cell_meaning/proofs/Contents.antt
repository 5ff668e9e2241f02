-- What a cell says is what its field says: the bytes in it are the field's content, or the content holds a quote.
-- Assumes nothing.
use Prim.Native.Nat.{ℕ, suc, ◌+◌, ◌-◌, ◌≤◌, ◌<◌}
use native.Mathlib.Omega.{arith}
use mathlib.Core.Path.{◌≡◌, refl, sym, ap, ◌∙◌}
use mathlib.Core.Logic.{◌↔◌}
use mathlib.Core.Bool.{Bool, true, false, cond}
use mathlib.Core.List.{List, [], ◌∷◌, ◌++◌, append_assoc}
use lib.ListN.{length, get_or, drop, length-append, length-drop}
use lib.Seq.{drop-drop, take-append_seam}
use lib.Dec.{eqb}
use borrow.Author.Tests.{eq-eqb, ne_eqb, eqb-true, le-leb}
use Rattle.std.specs.Prelude.{Option, Some, None}
use Rattle.grammar.specs.declared.cut.Cell.{Cell}
use Rattle.grammar.specs.declared.cut.Cells.{Cells}
use Rattle.grammar.specs.Grammar.{quote, Field, bare, quoted, content, escape, field_text, Row}
use Rattle.grammar.specs.Where.{holds_quote, cell_of, field_of, CellHolds, RowHolds}
use Rattle.cell_meaning.specs.Say.{Digit, content_at, same_bytes, is_word, says_words, number_in, number_at, ProperNumber}
use Rattle.cell_meaning.specs.Meaning.{Threefold}
use Rattle.cell_meaning.proofs.Saying.{same_self, same_true, same_false, untrue, proper_read, read_proper}

-- the bytes of a field without its quotes
abbrev body : Field → List ℕ
body (bare c) = c
body (quoted c) = escape c

part : (s : List ℕ) (i : ℕ) (c t : List ℕ) → i ≤ length s → drop i s ≡ c ++ t → content_at s (record { start = i; end = i + length c; doubled = false }) ≡ c
unfolding content_at
part s i c t w e =
    let n : length s - i ≡ length c + length t = sym (length-drop i s) ∙ ap length e ∙ length-append c t in
    let a : i ≤ i + length c = omega arith in
    let b : i + length c ≤ length s = omega arith in
    let d : i + length c - i ≡ length c = omega arith in
    rw (le-leb _ _ a, le-leb _ _ b, d, e) (take-append_seam c t)

body_there : (s : List ℕ) {cell : Cell} (f : Field) → CellHolds s cell f → content_at s cell ≡ body f
unfolding cell_of field_text content_at
body_there s (bare c) h = rw h.is (part s h.at c h.behind h.within h.there)
body_there s (quoted c) h =
    let e : drop h.at s ≡ quote ∷ (escape c ++ (quote ∷ [])) ++ h.behind = h.there in
    let n : length s - h.at ≡ suc (length ((escape c ++ (quote ∷ [])) ++ h.behind)) = sym (length-drop h.at s) ∙ ap length e in
    let w : h.at + 1 ≤ length s = omega arith in
    rw h.is (part s (h.at + 1) (escape c) (quote ∷ h.behind) w (rw (← drop-drop 1 h.at s, e) (append_assoc (escape c) (quote ∷ []) h.behind)))

escape_none : (c : List ℕ) → holds_quote c ≡ false → escape c ≡ c
unfolding escape holds_quote
escape_none [] e = refl
escape_none (b ∷ c) e = go (eqb b quote) refl (λ h. escape_none c h)
  where
    go : (q : Bool) → eqb b quote ≡ q → (holds_quote c ≡ false → escape c ≡ c) → escape (b ∷ c) ≡ b ∷ c
    go true q more = let h : true ≡ false = rw q at e in let z : ◌≡◌ {A = ℕ} 0 1 = cc in absurd (omega arith)
    go false q more = rw q (ap (λ (l : List ℕ). b ∷ l) (more (rw q at e)))

-- a choice by whether the content holds a quote
by_quote : (P : Type 0) (c : List ℕ) → (holds_quote c ≡ true → P) → (holds_quote c ≡ false → P) → P
by_quote P c with without = go (holds_quote c) refl
  where
    go : (q : Bool) → holds_quote c ≡ q → P
    go true q = with q
    go false q = without q

-- what a cell tells of its field: the content itself, or that it holds a quote
pub data CellTells (s : List ℕ) (cell : Cell) (f : Field) : Type 0 where
  whole : cell.doubled ≡ false → content_at s cell ≡ content f → CellTells s cell f
  with_quote : cell.doubled ≡ true → holds_quote (content f) ≡ true → CellTells s cell f

pub cell_tells : (s : List ℕ) {cell : Cell} (f : Field) → CellHolds s cell f → CellTells s cell f
unfolding cell_of
cell_tells s {cell} (bare c) h = whole (ap (λ (k : Cell). k.doubled) h.is) (body_there s (bare c) h)
cell_tells s {cell} (quoted c) h =
    by_quote (CellTells s cell (quoted c)) c (λ q. with_quote (ap (λ (k : Cell). k.doubled) h.is ∙ q) q)
    (λ q. whole (ap (λ (k : Cell). k.doubled) h.is ∙ q) (body_there s (quoted c) h ∙ escape_none c q))

-- a word without quotes: the test holds exactly when the field's content is the word
pub word_exact : (s : List ℕ) {cell : Cell} (f : Field) (word : List ℕ) → CellHolds s cell f → holds_quote word ≡ false
    → (is_word s cell word ≡ true) ↔ (content f ≡ word)
unfolding is_word
word_exact s {cell} f word h n = go (cell_tells s f h)
  where
    go : CellTells s cell f → (is_word s cell word ≡ true) ↔ (content f ≡ word)
    go (whole d e) = ((λ t. same_true (content f) word (rw (e, d) at t)), (λ t. rw (e, d, t) (same_self word)))
    go (with_quote d q) = ((λ t. untrue (sym (let z : false ≡ true = rw d at t in z))), (λ t. untrue (sym q ∙ ap holds_quote t ∙ n)))

-- two tests that both hold
pub both_true : (a b : Bool) → cond a b false ≡ true → (a ≡ true) × (b ≡ true)
both_true true b e = (refl, e)
both_true false b e = untrue (sym e)

-- three words without quotes: the test holds exactly when the row has three fields and their contents are the words
pub words_exact : (s : List ℕ) {cells : Cells} (r : Row) (x y z : List ℕ) → RowHolds s cells r
    → holds_quote x ≡ false → holds_quote y ≡ false → holds_quote z ≡ false → (says_words s cells x y z ≡ true) ↔ Threefold r x y z
unfolding says_words
words_exact s {cells} r x y z h a b c = (
  (λ e.
      let k = both_true (eqb cells.count 3) _ e in
      let l = both_true (is_word s cells.first x) _ k.1 in
      let m = both_true (is_word s cells.second y) _ l.1 in
      let n : cells.count ≡ 3 = eqb-true cells.count 3 k.0 in
      record {
        three = sym h.count ∙ n;
        first_is = (word_exact s (field_of 0 r) x h.first a).0 l.0;
        second_is = (word_exact s (field_of 1 r) y (h.second (omega arith)) b).0 m.0;
        third_is = (word_exact s (field_of 2 r) z (h.third (omega arith)) c).0 m.1;
      }),
  (λ t.
      let n : cells.count ≡ 3 = h.count ∙ t.three in
      rw (
        eq-eqb cells.count 3 n,
        (word_exact s (field_of 0 r) x h.first a).1 t.first_is,
        (word_exact s (field_of 1 r) y (h.second (omega arith)) b).1 t.second_is,
        (word_exact s (field_of 2 r) z (h.third (omega arith)) c).1 t.third_is,
      )),
)

-- a digit is no quote
pub digits_no_quote : (c : List ℕ) → ((i : ℕ) → i < length c → Digit (get_or c i 0)) → holds_quote c ≡ false
unfolding holds_quote
digits_no_quote [] d = refl
digits_no_quote (b ∷ c) d =
    let b_is = d 0 (omega arith) in
    let f = b_is.from in
    let n : b ≡ quote → ⊥ = λ e. omega arith in
    rw (ne_eqb b quote n) (digits_no_quote c (λ i h. d (suc i) (omega arith)))

-- a number is read exactly when the field's content is a proper one, with its value
pub number_exact : (s : List ℕ) {cell : Cell} (f : Field) (n : ℕ) → CellHolds s cell f → (number_at s cell ≡ Some n) ↔ ProperNumber (content f) n
unfolding number_at
number_exact s {cell} f n h = go (cell_tells s f h)
  where
    go : CellTells s cell f → (number_at s cell ≡ Some n) ↔ ProperNumber (content f) n
    go (whole d e) = ((λ t. read_proper (content f) (rw (e, d) at t)), (λ p. rw (e, d) (proper_read (content f) p)))
    go (with_quote d q) = (
      (λ t. let z : None ≡ Some n = rw d at t in let y : ◌≡◌ {A = ℕ} 0 1 = cc in absurd (omega arith)),
      (λ p. untrue (sym q ∙ digits_no_quote (content f) p.digits)),
    )

-- a cell says of a word, and as a number, what its field's content does
pub word_same : (s : List ℕ) {cell : Cell} (f : Field) (w : List ℕ) → CellHolds s cell f → holds_quote w ≡ false → is_word s cell w ≡ same_bytes (content f) w
unfolding is_word
word_same s {cell} f w h n = go (cell_tells s f h)
  where
    go : CellTells s cell f → is_word s cell w ≡ same_bytes (content f) w
    go (whole d e) = rw (e, d)
    go (with_quote d q) = rw d (sym (same_false (content f) w (λ e. untrue (sym q ∙ ap holds_quote e ∙ n))))

number_none : (c : List ℕ) → holds_quote c ≡ true → number_in c ≡ None
number_none c q = go (number_in c) refl
  where
    go : (x : Option ℕ) → number_in c ≡ x → x ≡ None
    go (Some n) e = untrue (sym q ∙ digits_no_quote c (read_proper c e).digits)
    go None e = refl

pub number_same : (s : List ℕ) {cell : Cell} (f : Field) → CellHolds s cell f → number_at s cell ≡ number_in (content f)
unfolding number_at
number_same s {cell} f h = go (cell_tells s f h)
  where
    go : CellTells s cell f → number_at s cell ≡ number_in (content f)
    go (whole d e) = rw (e, d)
    go (with_quote d q) = rw d (sym (number_none (content f) q))
