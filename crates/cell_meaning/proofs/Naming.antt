-- Finding a word: the place of a field's content among some words, and the set `naming`, which closes each return of code that
-- tries one word after the other. `r` is what a test answered, and `x` what the code hands back.
--     name-here, name-on, name-none     the field is the next word, it is not, no word is left
-- Assumes nothing.
use Prim.Native.Nat.{ℕ, zero, suc, ◌+◌, ◌≤◌, ◌<◌}
use native.Mathlib.Omega.{arith}
use mathlib.Core.Path.{◌≡◌, refl, sym, ap, ◌∙◌}
use mathlib.Core.Logic.{◌↔◌, ◌⊎◌, inl, inr, ⊎_elim}
use mathlib.Core.Bool.{Bool, true, false, cond}
use mathlib.Core.List.{List, [], ◌∷◌}
use lib.ListN.{length, get_or}
use native.Mathlib.Nat.{zero-add}
use lib.Dec.{ltb}
use borrow.Author.Rules.{rules}
use borrow.Author.Tests.{ltb-true, ltb-false}
use Rattle.grammar.specs.declared.cut.Cell.{Cell}
use Rattle.grammar.specs.Grammar.{Field, content}
use Rattle.cell_meaning.specs.Say.{content_at, same_bytes, is_word, place_in, place_among, named_from}
use Rattle.grammar.specs.Where.{holds_quote, CellHolds}
use Rattle.cell_meaning.specs.Meaning.{WordAt}
use Rattle.cell_meaning.proofs.Saying.{same_self, same_true, same_false, untrue}
use Rattle.cell_meaning.proofs.Contents.{CellTells, whole, with_quote, cell_tells}

-- no word has a quote in it
pub data NoQuotes : List (List ℕ) → Type 0 where
  none : NoQuotes []
  more : {word : List ℕ} {words : List (List ℕ)} → holds_quote word ≡ false → NoQuotes words → NoQuotes (word ∷ words)

-- ---- the place of a content

-- to be a word is to be found among that word alone
pub word_alone : (s : List ℕ) (cell : Cell) (word : List ℕ) → (is_word s cell word ≡ true) ↔ (place_among (word ∷ []) s cell ≡ 0)
unfolding is_word place_among place_in
word_alone s cell word = go cell.doubled (same_bytes (content_at s cell) word)
  where
    go : (d q : Bool) → (cond d false q ≡ true) ↔ (cond d 1 (cond q 0 (0 + 1)) ≡ 0)
    go true q = ((λ e. untrue (sym e)), (λ e. absurd (omega arith)))
    go false true = ((λ e. refl), (λ e. refl))
    go false false = ((λ e. untrue (sym e)), (λ e. absurd (omega arith)))

both_ways : (P : ℕ → Type 0) (q : Bool) {x y : ℕ} → P x → P y → P (cond q x y)
both_ways P true a b = a
both_ways P false a b = b

below_or_past : (a b : ℕ) → (a < b) ⊎ (b ≤ a)
below_or_past a b = go (ltb a b) refl
  where
    go : (q : Bool) → ltb a b ≡ q → (a < b) ⊎ (b ≤ a)
    go true e = inl (ltb-true a b e)
    go false e = inr (ltb-false a b e)

pub place_within : (words : List (List ℕ)) (c : List ℕ) → place_in words c ≤ length words
unfolding place_in
place_within [] c = omega arith
place_within (word ∷ words) c = let h = place_within words c in both_ways (λ (n : ℕ). n ≤ length (word ∷ words)) (same_bytes c word) (omega arith) (omega arith)

-- where a content is found, it is that word and none before
pub place_word : (words : List (List ℕ)) (c : List ℕ) (n : ℕ) → n < length words → place_in words c ≡ n → WordAt words c n
unfolding place_in
place_word [] c n h e = absurd (omega arith)
place_word (word ∷ words) c n h e = go (same_bytes c word) refl n h e (place_word words c)
  where
    go : (q : Bool) → same_bytes c word ≡ q → (n : ℕ) → n < length (word ∷ words) → place_in (word ∷ words) c ≡ n
        → ((m : ℕ) → m < length words → place_in words c ≡ m → WordAt words c m) → WordAt (word ∷ words) c n
    go true q zero h e rest = record { is = same_true c word q; none_before = λ k l. absurd (omega arith) }
    go true q (suc n) h e rest = absurd (omega (arith, rw q at e))
    go false q zero h e rest = absurd (omega (arith, rw q at e))
    go false q (suc n) h e rest =
        let r = rest n (omega arith) (omega (arith, rw q at e)) in
        record { is = r.is; none_before = λ (k : ℕ). before k r.none_before }
      where
        before : (k : ℕ) → ((j : ℕ) → j < n → c ≡ get_or words j [] → ⊥) → k < suc n → c ≡ get_or (word ∷ words) k [] → ⊥
        before zero rest l w = untrue (sym (same_self word) ∙ (rw w at q))
        before (suc k) rest l w = rest k (omega arith) w

-- and it is found where it is a word
pub word_place : (words : List (List ℕ)) (c : List ℕ) (n : ℕ) → n < length words → WordAt words c n → place_in words c ≡ n
unfolding place_in
word_place [] c n h w = absurd (omega arith)
word_place (word ∷ words) c zero h w = rw w.is (rw (same_self word))
word_place (word ∷ words) c (suc n) h w =
    let other = same_false c word (w.none_before 0 (omega arith)) in
    let rest = word_place words c n (omega arith) (record { is = w.is; none_before = λ k l. w.none_before (suc k) (omega arith) }) in
    rw (other, rest) (omega arith)

-- behind all words it is none of them
pub place_none : (words : List (List ℕ)) (c : List ℕ) → place_in words c ≡ length words → (k : ℕ) → k < length words → c ≡ get_or words k [] → ⊥
unfolding place_in
place_none [] c e k h w = absurd (omega arith)
place_none (word ∷ words) c e k h w = go (same_bytes c word) refl k h w (place_none words c)
  where
    go : (q : Bool) → same_bytes c word ≡ q → (k : ℕ) → k < length (word ∷ words) → c ≡ get_or (word ∷ words) k []
        → (place_in words c ≡ length words → (j : ℕ) → j < length words → c ≡ get_or words j [] → ⊥) → ⊥
    go true q k h w rest = omega (arith, rw q at e)
    go false q zero h w rest = untrue (sym (same_self word) ∙ (rw w at q))
    go false q (suc k) h w rest = rest (omega (arith, rw q at e)) k (omega arith) w

-- what holds at the place of each word, and behind them all, holds at the place of a content
pub by_place : (P : ℕ → Type 0) (words : List (List ℕ)) (c : List ℕ) → ((n : ℕ) → n < length words → c ≡ get_or words n [] → P n)
    → (((k : ℕ) → k < length words → c ≡ get_or words k [] → ⊥) → P (length words)) → P (place_in words c)
by_place P words c there behind = ⊎_elim found none (below_or_past (place_in words c) (length words))
  where
    found : place_in words c < length words → P (place_in words c)
    found h = there (place_in words c) h (place_word words c (place_in words c) h refl).is

    none : length words ≤ place_in words c → P (place_in words c)
    none h = let w = place_within words c in let e : place_in words c ≡ length words = omega arith in rw e (behind (place_none words c e))

-- ---- the place of a field

-- a content with a quote in it is none of them
quote_no_word : (words : List (List ℕ)) (c : List ℕ) → NoQuotes words → holds_quote c ≡ true → length words ≡ place_in words c
unfolding place_in
quote_no_word [] c none q = refl
quote_no_word (word ∷ words) c (more n plain) q =
    let rest = quote_no_word words c plain q in
    rw (same_false c word (λ e. untrue (sym q ∙ ap holds_quote e ∙ n))) (omega arith)

-- a field has the place of its content
pub place_same : (s : List ℕ) {cell : Cell} (f : Field) (words : List (List ℕ)) → CellHolds s cell f → NoQuotes words
    → place_among words s cell ≡ place_in words (content f)
unfolding place_among
place_same s {cell} f words h plain = go (cell_tells s f h)
  where
    go : CellTells s cell f → place_among words s cell ≡ place_in words (content f)
    go (whole d e) = rw (e, d)
    go (with_quote d q) = rw d (quote_no_word words (content f) plain q)

pub named_same : {A : Type 0} (f : ℕ → A) (s : List ℕ) {cell : Cell} (field : Field) (words : List (List ℕ)) → CellHolds s cell field → NoQuotes words
    → named_from f 0 words s cell ≡ f (place_in words (content field))
unfolding named_from
named_same f s field words h plain = ap f (zero-add _ ∙ place_same s field words h plain)

pub place_exact : (s : List ℕ) {cell : Cell} (f : Field) (words : List (List ℕ)) (n : ℕ) → CellHolds s cell f → NoQuotes words → n < length words
    → (place_among words s cell ≡ n) ↔ WordAt words (content f) n
place_exact s f words n h plain l =
    let same = place_same s f words h plain in
    ((λ e. place_word words (content f) n l (sym same ∙ e)), (λ w. same ∙ word_place words (content f) n l w))

-- ---- one word tried after the other

module _ (word : List ℕ) (words : List (List ℕ)) (s : List ℕ) (cell : Cell) where
  first_place_lem : is_word s cell word ≡ true → place_among (word ∷ words) s cell ≡ 0
  unfolding is_word place_among place_in content_at
  first_place_lem e = go cell.doubled refl
    where
      go : (q : Bool) → cell.doubled ≡ q → place_among (word ∷ words) s cell ≡ 0
      go true q = untrue (sym (let z : false ≡ true = rw q at e in z))
      go false q = let z : same_bytes (content_at s cell) word ≡ true = rw q at e in rw (z, q)

  next_place : is_word s cell word ≡ false → place_among (word ∷ words) s cell ≡ place_among words s cell + 1
  unfolding is_word place_among place_in content_at
  next_place e = go cell.doubled refl
    where
      go : (q : Bool) → cell.doubled ≡ q → place_among (word ∷ words) s cell ≡ place_among words s cell + 1
      go true q = rw q (omega arith)
      go false q = let z : same_bytes (content_at s cell) word ≡ false = rw q at e in rw (z, q)

no_place : (s : List ℕ) (cell : Cell) → place_among [] s cell ≡ 0
unfolding place_among place_in
no_place s cell = go cell.doubled
  where
    go : (q : Bool) → cond {A = ℕ} q 0 0 ≡ 0
    go true = refl
    go false = refl

module _ {A : Type 0} (f : ℕ → A) (n : ℕ) (s : List ℕ) (cell : Cell) (x : A) where
  pub name_here : (word : List ℕ) (words : List (List ℕ)) (r : Bool) → r ≡ is_word s cell word → r ≡ true → x ≡ f n
      → x ≡ named_from f n (word ∷ words) s cell
  unfolding named_from
  name_here word words r e q is =
      let m : n ≡ n + place_among (word ∷ words) s cell = rw (first_place_lem word words s cell (sym e ∙ q)) (omega arith) in
      is ∙ ap f m

  pub name_on : (word : List ℕ) (words : List (List ℕ)) (r : Bool) → r ≡ is_word s cell word → r ≡ false → x ≡ named_from f (n + 1) words s cell
      → x ≡ named_from f n (word ∷ words) s cell
  unfolding named_from
  name_on word words r e q rest =
      let m : n + 1 + place_among words s cell ≡ n + place_among (word ∷ words) s cell = rw (next_place word words s cell (sym e ∙ q)) (omega arith) in
      rest ∙ ap f m

  pub name_none : x ≡ f n → x ≡ named_from f n [] s cell
  unfolding named_from
  name_none is = let w : place_among [] s cell ≡ 0 = no_place s cell in let m : n ≡ n + place_among [] s cell = omega arith in is ∙ ap f m

pub ruleset naming = (rules, name_here, name_on, name_none)
