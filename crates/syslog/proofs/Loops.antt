-- What the library finds in a text is what the guess is, and the loop over the digits of a number. Assumes nothing.
use Prim.Native.Nat.{ℕ, zero, suc, ◌+◌, ◌-◌, ◌*◌, ◌^◌, ◌≤◌, ◌<◌, min}
use mathlib.Core.Path.{◌≡◌, refl, sym, ap, ◌∙◌}
use mathlib.Core.Bool.{Bool, true, false, cond, not, ◌&&◌, false≢true}
use mathlib.Core.Logic.{⊎_elim}
use mathlib.Core.List.{List, [], ◌∷◌}
use native.Mathlib.Omega.{arith}
use native.Mathlib.Numerals.{add-one}
use lib.Dec.{ltb, eqb, leb}
use lib.ListN.{length, get_or, take, drop, drop_of_length-le, length-drop}
use lib.Seq.{drop-cons, length-take-le}
use borrow.Author.Tests.{ltb-false}
use denote.Ref.{Bor}
use Rattle.std.specs.Prelude.{Option, Some, None}
use Rattle.std.specs.Char.{is_ascii_digit}
use Rattle.std.specs.List.{find, position_or_len}
use Rattle.std.specs.Option.{option_map, unwrap_or, is_some}
use Rattle.std.proofs.lemmas.List.{get_or-take}
use Rattle.tables.specs.Tables.{and_also}
use Rattle.tables.proofs.Cases.{below_or_not}
use Rattle.tables.proofs.Laws.{tell_and, tell_le}
use Rattle.syslog.specs.declared.Msgid.{Msgid}
use Rattle.syslog.specs.declared.Msgid.TheVariants.{Grant}
use Rattle.syslog.specs.Guess.{msgid_by, msgid_in, behind_mark, is_digit, number_on, number_from}
use Rattle.syslog.proofs.Digits.{at_end, at_byte, stopped}

-- ---- the first letter

-- `@`, 64, stands in front of the letters
abbrev pub is_letter : ℕ → Bool
is_letter b = ltb 64 b

abbrev msgid_of : Option ℕ → Msgid
msgid_of (Some b) = msgid_by b
msgid_of None = Grant

letter_is : (text : List ℕ) → msgid_of (find is_letter text) ≡ msgid_in text
unfolding msgid_in
letter_is [] = refl
letter_is (b ∷ bs) = go (is_letter b) (letter_is bs)
  where
    go : (letter : Bool) → msgid_of (find is_letter bs) ≡ msgid_in bs → msgid_of (cond letter (Some b) (find is_letter bs)) ≡ cond letter (msgid_by b) (msgid_in bs)
    go true rest = refl
    go false rest = rest

module _ (text : List ℕ) {r : Option (Bor ℕ)} (found : option_map (λ (b : Bor ℕ). b.now) r ≡ find is_letter text) where
  pub letter_found : {letter : Bor ℕ} → r ≡ Some letter → msgid_by letter.now ≡ msgid_in text
  letter_found is = ap msgid_of (ap (option_map (λ (b : Bor ℕ). b.now)) (sym is) ∙ found) ∙ letter_is text

  pub letter_none : r ≡ None → Grant ≡ msgid_in text
  letter_none is = ap msgid_of (ap (option_map (λ (b : Bor ℕ). b.now)) (sym is) ∙ found) ∙ letter_is text

-- ---- the first mark

-- `=` is 61
abbrev pub is_mark : ℕ → Bool
is_mark b = eqb b 61

mark_is : (text : List ℕ) → drop (position_or_len is_mark text + 1) text ≡ behind_mark text
unfolding behind_mark
mark_is [] = drop_of_length-le [] {i = 0 + 1} (omega arith)
mark_is (b ∷ bs) = go (is_mark b) (mark_is bs)
  where
    go : (mark : Bool) → drop (position_or_len is_mark bs + 1) bs ≡ behind_mark bs → drop (cond (not mark) (1 + position_or_len is_mark bs) 0 + 1) (b ∷ bs) ≡ cond mark bs (behind_mark bs)
    go true rest = refl
    go false rest = let one : 1 + position_or_len is_mark bs + 1 ≡ suc (position_or_len is_mark bs + 1) = omega arith in rw one rest

module _ (text : List ℕ) {r : Option ℕ} (found : r ≡ cond (ltb (position_or_len is_mark text) (length text)) (Some (position_or_len is_mark text)) None) where
  pub mark_found : {mark : ℕ} → r ≡ Some mark → drop (mark + 1) text ≡ behind_mark text
  mark_found {mark} is = go (ltb (position_or_len is_mark text) (length text)) (sym found ∙ is)
    where
      go : (b : Bool) → cond b (Some (position_or_len is_mark text)) None ≡ Some mark → drop (mark + 1) text ≡ behind_mark text
      go true same = let m : position_or_len is_mark text ≡ mark = ap (λ (o : Option ℕ). unwrap_or o 0) same in ap (λ (k : ℕ). drop (k + 1) text) (sym m) ∙ mark_is text
      go false same = absurd (false≢true (ap is_some same))

  pub mark_none : r ≡ None → [] ≡ behind_mark text
  mark_none is = go (ltb (position_or_len is_mark text) (length text)) refl (sym found ∙ is)
    where
      go : (b : Bool) → ltb (position_or_len is_mark text) (length text) ≡ b → cond b (Some (position_or_len is_mark text)) None ≡ None → [] ≡ behind_mark text
      go true by same = absurd (false≢true (sym (ap is_some same)))
      go false by same = let past = ltb-false _ _ by in sym (drop_of_length-le text (omega arith)) ∙ mark_is text

-- ---- the digits of a number

pub record Numbering (text : List ℕ) (n i : ℕ) : Type 0 where
  pub few : i ≤ 4
  pub small : n < 10 ^ i
  pub same : number_from text ≡ number_on (4 - i) n (drop i text)

pub number_start : {text : List ℕ} → Numbering text 0 0
number_start = record { few = omega arith; small = omega arith; same = refl }

few_powers : (i : ℕ) → i ≤ 4 → 10 ^ i ≤ 10000
few_powers zero h = omega arith
few_powers (suc zero) h = omega arith
few_powers (suc (suc zero)) h = omega arith
few_powers (suc (suc (suc zero))) h = omega arith
few_powers (suc (suc (suc (suc i)))) h = let e : i ≡ 0 = omega arith in rw e (omega arith)

pub digit_within : (b : ℕ) → is_digit b ≡ true → (48 ≤ b) × (b ≤ 57)
unfolding is_digit
digit_within b e = (tell_and (tell_le 48 b) (tell_le b 57)).yes e

module _ {text : List ℕ} {n i : ℕ} (at : Numbering text n i) where
  pub number_bounded : n < 10000
  number_bounded = let p = few_powers i at.few in let s = at.small in omega arith

  pub number_more : i < 4 → i < length text → is_digit (get_or text i 0) ≡ true → Numbering text (n * 10 + (get_or text i 0 - 48)) (i + 1)
  unfolding number_on
  number_more h l e =
      let d = digit_within (get_or text i 0) e in
      let k : 4 - i ≡ suc (4 - (i + 1)) = omega arith in
      let b : drop i text ≡ get_or text i 0 ∷ drop (i + 1) text = rw (add-one i) (drop-cons text i 0 l) in
      let s = at.small in
      record {
        few = omega arith;
        small = rw (add-one i) (omega (arith, d.0, d.1));
        same = at.same ∙ rw (k, b, e);
      }

  pub number_ends : length text ≤ i → n ≡ number_from text
  number_ends h = sym (at.same ∙ ap (number_on (4 - i) n) (drop_of_length-le text h) ∙ stopped (4 - i) n at_end)

  pub number_stops : i < length text → is_digit (get_or text i 0) ≡ false → n ≡ number_from text
  number_stops l e = sym (at.same ∙ rw (drop-cons text i 0 l) (stopped (4 - i) n (at_byte e)))

  pub number_full : 4 ≤ i → n ≡ number_from text
  unfolding number_on
  number_full h = let k : 4 - i ≡ 0 = omega arith in sym (at.same ∙ rw k)

-- ---- the bytes at the front that are looked at

digit_is : (b : ℕ) → is_ascii_digit b ≡ is_digit b
unfolding is_digit and_also
digit_is b = go (leb 48 b)
  where
    go : (low : Bool) → (low && leb b 57) ≡ and_also low (leb b 57)
    go true = refl
    go false = refl

module _ {text : List ℕ} {n i m : ℕ} (size : m ≡ min (length text) 4) (at : Numbering text n i) where
  pub front_more : i < length (take m text) → true ≡ is_ascii_digit (get_or (take m text) i 0) → Numbering text (n * 10 + (get_or (take m text) i 0 - 48)) (i + 1)
  front_more h digit =
      let l = length-take-le m text (omega arith) in
      let b = get_or-take m text i 0 (omega arith) in
      rw b (number_more at (omega arith) (omega arith) (sym (digit_is (get_or text i 0)) ∙ ap is_ascii_digit (sym b) ∙ sym digit))

  pub front_stops : i < length (take m text) → false ≡ is_ascii_digit (get_or (take m text) i 0) → n ≡ number_from text
  front_stops h other =
      let l = length-take-le m text (omega arith) in
      let b = get_or-take m text i 0 (omega arith) in
      number_stops at (omega arith) (sym (digit_is (get_or text i 0)) ∙ ap is_ascii_digit (sym b) ∙ sym other)

  pub front_full : length (take m text) ≤ i → n ≡ number_from text
  front_full h =
      let l = length-take-le m text (omega arith) in
      ⊎_elim (λ short. number_ends at (omega arith)) (λ long. number_full at (omega arith)) (below_or_not (length text) 4)

-- what lies from a place on, as a part of the text
pub tail_is : (s : List ℕ) (at : ℕ) → take (length s - at) (drop at s) ≡ drop at s
tail_is s at = all (length s - at) (drop at s) (let l = length-drop at s in omega arith)
  where
    all : (n : ℕ) (l : List ℕ) → length l ≤ n → take n l ≡ l
    all n [] h = go n
      where
        go : (n : ℕ) → take {A = ℕ} n [] ≡ []
        go zero = refl
        go (suc n) = refl
    all zero (x ∷ l) h = absurd (omega arith)
    all (suc n) (x ∷ l) h = ap (λ (r : List ℕ). x ∷ r) (all n l (omega arith))
