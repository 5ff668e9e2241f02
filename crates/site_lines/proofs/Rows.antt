-- What a row says, worked out from its fields' contents: the cells of a row say the same, and the relation `SaysSo` too.
-- Assumes nothing.
use Prim.Native.Nat.{ℕ, zero, suc, ◌<◌}
use native.Mathlib.Omega.{arith}
use mathlib.Core.Path.{◌≡◌, refl, sym}
use mathlib.Core.Bool.{Bool, true, false, cond, true≢false}
use mathlib.Core.List.{List, []}
use lib.ListN.{length, get_or}
use lib.Dec.{eqb}
use borrow.Author.Tests.{eq-eqb, eqb-true, eqb-false}
use Rattle.std.specs.Prelude.{Option, Some, None}
use Rattle.tables.proofs.Cases.{either}
use Rattle.grammar.specs.declared.cut.Cells.{Cells}
use Rattle.grammar.specs.Grammar.{Row, content, fields}
use Rattle.grammar.specs.Where.{holds_quote, field_of, RowHolds}
use Rattle.cell_meaning.specs.Say.{ProperNumber, same_bytes, is_word, says_words, number_in, number_at, place_in}
use Rattle.cell_meaning.proofs.Saying.{same_true, proper_read, read_proper}
use Rattle.cell_meaning.proofs.Contents.{both_true, word_same, number_same}
use Rattle.cell_meaning.proofs.Naming.{none, more, by_place, named_same}
use Rattle.site_lines.specs.declared.Word.{Word}
use Rattle.site_lines.specs.declared.SiteLine.{SiteLine}
use Rattle.site_lines.specs.declared.SiteLine.TheVariants.{Site, Door, Exit, Right, Bad}
use Rattle.site_lines.specs.Line.{site_word, door_word, exit_word, right_word, kind_head, a_head, b_head, site_words, word_named, word_of, site_line_with, site_line_of, site_line_at, site_header_at}
use Rattle.site_lines.specs.Says.{Three, SiteKind, site_kind, door_kind, exit_kind, right_kind, SaysSo, a_site, a_door, an_exit, a_right, bad_form, SiteHeaderRow}

-- ---- by contents

pub word_in : List ℕ → Word
word_in c = word_named (place_in site_words c)

unfoldable pub line_from : Row → SiteLine
line_from r = cond (eqb (length (fields r)) 3) (site_line_of (word_in (content (field_of 0 r))) (number_in (content (field_of 1 r))) (number_in (content (field_of 2 r)))) Bad

unfoldable pub header_from : Row → Bool
header_from r =
    cond (eqb (length (fields r)) 3)
    (cond (same_bytes (content (field_of 0 r)) kind_head) (cond (same_bytes (content (field_of 1 r)) a_head) (same_bytes (content (field_of 2 r)) b_head) false) false) false

-- ---- the cells of a row say what its contents do

module _ (s : List ℕ) {cells : Cells} (r : Row) (h : RowHolds s cells r) where
  words_same : word_of s cells.first ≡ word_in (content (field_of 0 r))
  unfolding word_in holds_quote
  words_same =
      named_same word_named s (field_of 0 r) site_words h.first
      (more {word = site_word} refl (more {word = door_word} refl (more {word = exit_word} refl (more {word = right_word} refl none))))

  pub line_same : site_line_at s cells ≡ line_from r
  unfolding site_line_at line_from
  line_same = rw (← h.count) (go (eqb cells.count 3) refl)
    where
      go : (q : Bool) → eqb cells.count 3 ≡ q
          → cond (eqb cells.count 3) (site_line_of (word_of s cells.first) (number_at s cells.second) (number_at s cells.third)) Bad
          ≡ cond (eqb cells.count 3) (site_line_of (word_in (content (field_of 0 r))) (number_in (content (field_of 1 r))) (number_in (content (field_of 2 r)))) Bad
      go true q =
          let n = eqb-true cells.count 3 q in
          rw (q, words_same, number_same s (field_of 1 r) (h.second (omega arith)), number_same s (field_of 2 r) (h.third (omega arith)))
      go false q = rw q

  pub header_same : site_header_at s cells ≡ header_from r
  unfolding site_header_at says_words header_from holds_quote
  header_same = rw (← h.count) (go (eqb cells.count 3) refl)
    where
      go : (q : Bool) → eqb cells.count 3 ≡ q
          → cond (eqb cells.count 3) (cond (is_word s cells.first kind_head) (cond (is_word s cells.second a_head) (is_word s cells.third b_head) false) false) false
          ≡ cond (eqb cells.count 3) (cond (same_bytes (content (field_of 0 r)) kind_head) (cond (same_bytes (content (field_of 1 r)) a_head) (same_bytes (content (field_of 2 r)) b_head) false) false) false
      go true q =
          let n = eqb-true cells.count 3 q in
          rw (q, word_same s (field_of 0 r) kind_head h.first refl, word_same s (field_of 1 r) a_head (h.second (omega arith)) refl, word_same s (field_of 2 r) b_head (h.third (omega arith)) refl)
      go false q = rw q

-- ---- and so does the relation

module _ (r : Row) where
  c₀ : List ℕ
  c₀ = content (field_of 0 r)

  c₁ : List ℕ
  c₁ = content (field_of 1 r)

  c₂ : List ℕ
  c₂ = content (field_of 2 r)

  -- three fields, two numbers: the word decides
  by_word : (a b : ℕ) → length (fields r) ≡ 3 → ProperNumber c₁ a → ProperNumber c₂ b → SaysSo r (site_line_with (word_in c₀) a b)
  unfolding word_in word_named c₀ c₁ c₂
  by_word a b n x y = by_place (λ (k : ℕ). SaysSo r (site_line_with (word_named k) a b)) site_words c₀ known (λ other. bad_form (λ w i j k t. unknown other k t.first))
    where
      known : (k : ℕ) → k < length site_words → c₀ ≡ get_or site_words k [] → SaysSo r (site_line_with (word_named k) a b)
      known zero l e = a_site (record { three = n; first = e; second = x; third = y })
      known (suc zero) l e = a_door (record { three = n; first = e; second = x; third = y })
      known (suc (suc zero)) l e = an_exit (record { three = n; first = e; second = x; third = y })
      known (suc (suc (suc zero))) l e = a_right (record { three = n; first = e; second = x; third = y })
      known (suc (suc (suc (suc k)))) l e = absurd (omega arith)

      unknown : {w : List ℕ} → ((k : ℕ) → k < length site_words → c₀ ≡ get_or site_words k [] → ⊥) → SiteKind w → c₀ ≡ w → ⊥
      unknown other site_kind e = other 0 (omega arith) e
      unknown other door_kind e = other 1 (omega arith) e
      unknown other exit_kind e = other 2 (omega arith) e
      unknown other right_kind e = other 3 (omega arith) e

  no_number : {c : List ℕ} {a : ℕ} → number_in c ≡ None → ProperNumber c a → ⊥
  no_number {c} {a} e p = let q = proper_read c p in let z : ◌≡◌ {A = ℕ} 0 1 = cc in omega arith

  by_numbers : (x y : Option ℕ) → number_in c₁ ≡ x → number_in c₂ ≡ y → length (fields r) ≡ 3 → SaysSo r (site_line_of (word_in c₀) x y)
  unfolding c₁ c₂
  by_numbers (Some a) (Some b) e f n = by_word a b n (read_proper c₁ e) (read_proper c₂ f)
  by_numbers (Some a) None e f n = bad_form (λ w i j k t. no_number f t.third)
  by_numbers None y e f n = bad_form (λ w i j k t. no_number e t.second)

  pub says_from : SaysSo r (line_from r)
  unfolding line_from c₀ c₁ c₂
  says_from =
      either (SaysSo r) (eqb (length (fields r)) 3) (λ e. by_numbers (number_in c₁) (number_in c₂) refl refl (eqb-true _ 3 e))
      (λ e. bad_form (λ w i j k t. eqb-false _ 3 e t.three))

  three_from : {w : List ℕ} {a b : ℕ} → Three r w a b → line_from r ≡ site_line_with (word_in w) a b
  unfolding line_from
  three_from t = rw (eq-eqb _ 3 t.three, t.first, proper_read _ t.second, proper_read _ t.third)

  -- a row says one line
  pub from_says : {line : SiteLine} → SaysSo r line → line_from r ≡ line
  unfolding word_in word_named place_in same_bytes
  from_says (a_site t) = three_from t
  from_says (a_door t) = three_from t
  from_says (an_exit t) = three_from t
  from_says (a_right t) = three_from t
  from_says (bad_form n) = go (line_from r) says_from
    where
      go : (line : SiteLine) → SaysSo r line → line ≡ Bad
      go (Site p l) (a_site t) = absurd (n site_word p l site_kind t)
      go (Door o t') (a_door t) = absurd (n door_word o t' door_kind t)
      go (Exit l m) (an_exit t) = absurd (n exit_word l m exit_kind t)
      go (Right p l) (a_right t) = absurd (n right_word p l right_kind t)
      go Bad s = refl

  pub header_is : header_from r ≡ true → SiteHeaderRow r
  unfolding header_from
  header_is e = go (eqb (length (fields r)) 3) refl
    where
      go : (q : Bool) → eqb (length (fields r)) 3 ≡ q → SiteHeaderRow r
      go true q =
          let f = both_true (same_bytes (content (field_of 0 r)) kind_head) _ (rw q at e) in
          let g = both_true (same_bytes (content (field_of 1 r)) a_head) _ f.1 in
          record { three = eqb-true _ 3 q; first = same_true _ kind_head f.0; second = same_true _ a_head g.0; third = same_true _ b_head g.1 }
      go false q = absurd (true≢false (sym (let z : false ≡ true = rw q at e in z)))

  pub is_header_row : SiteHeaderRow r → header_from r ≡ true
  unfolding header_from same_bytes
  is_header_row h = rw (eq-eqb _ 3 h.three, h.first, h.second, h.third)
