-- The lines and texts of specs/Examples.antt. Assumes nothing.
use Prim.Native.Nat.{ℕ, ◌≤◌}
use mathlib.Core.Path.{◌≡◌, refl, sym, ap, subst}
use mathlib.Core.List.{List, [], ◌∷◌, ◌++◌}
use mathlib.Core.Logic.{◌⊎◌, inl, inr}
use native.Mathlib.Omega.{arith}
use lib.ListN.{length}
use Rattle.tables.specs.Tables.{and_also}
use Rattle.text.specs.Text.{digits, decimal, row_of_numbers}
use Rattle.syslog.specs.Line.{line_of, framed_of}
use Rattle.syslog.specs.Rows.{event_row, refused_row}
use Rattle.syslog.specs.Rfc.{EachByte, and, From◌To◌, DIGIT, PRINTUSASCII, number_said_from, number_said, NonzeroFirst, nonzero_first, Utf8, one, Version, version, TwoDigits, fraction, utc, is_leap, days_of, Moment, NameByte, SdName, MustBeEscaped, Escaped, plain, Params, param, NotAmong, Elements, element, StructuredData}
use Rattle.syslog.specs.Guess.{msgid_by, msgid_in, behind_mark, is_digit, number_on}
use Rattle.syslog.specs.Examples.{LineExamples, RfcExamples}
use Rattle.syslog.proofs.Finding.{line_other}
use Rattle.syslog.proofs.Message.{all_within, each_within}

-- texts of two lengths aren't the same
other_length : {xs ys : List ℕ} → xs ≡ ys → (length xs ≡ length ys → ⊥) → ⊥
other_length is ne = ne (ap length is)

pub line_examples : LineExamples
unfolding digits decimal row_of_numbers line_of framed_of event_row refused_row msgid_by msgid_in behind_mark is_digit number_on and_also
line_examples =
    record {
      grant = refl;
      grant_framed = refl;
      denial = refl;
      held = refl;
      without_held_lem = line_other (λ is. other_length is (λ e. omega arith));
      held_with_1 = line_other (λ is. other_length is (λ e. omega arith));
      held_granted = line_other (λ is. other_length is (λ e. omega arith));
      passage = refl;
      lapse = refl;
      row = refl;
      held_row = refl;
      refused_row_lem = refl;
    }

-- ---- what the RFCs allow and don't

no_zero_first : {bs : List ℕ} → NonzeroFirst (48 ∷ bs) → ⊥
no_zero_first (nonzero_first b on) = omega (arith, b.0)

no_version_0 : Version (48 ∷ []) → ⊥
no_version_0 (version b on few) = omega (arith, b.0)

-- `086` is neither `0` nor a number that begins with another digit
no_086 : (◌≡◌ {A = List ℕ} (48 ∷ 56 ∷ 54 ∷ []) (48 ∷ [])) ⊎ NonzeroFirst (48 ∷ 56 ∷ 54 ∷ []) → ⊥
no_086 (inl e) = let z : 3 ≤ 1 = subst (λ (bs : List ℕ). 3 ≤ length bs) e (omega arith) in omega arith
no_086 (inr z) = no_zero_first z

no_blank : EachByte PRINTUSASCII (71 ∷ 32 ∷ []) → ⊥
no_blank (and g (and blank on)) = omega (arith, blank.0)

-- an element has a name
no_element : {names : List (List ℕ)} → Elements names (91 ∷ 93 ∷ []) → ⊥
no_element (element name params rest is _ _ _ split) = go name is.some is.each split
  where
    go : (name : List ℕ) → 1 ≤ length name → EachByte NameByte name → 93 ∷ [] ≡ name ++ (params ++ (93 ∷ rest)) → ⊥
    go [] some each split = omega (arith, some)
    go (b ∷ bs) some (and byte on) split = byte.2 (sym (ap first split))
      where
        first : List ℕ → ℕ
        first [] = 0
        first (c ∷ cs) = c

no_structure : StructuredData (91 ∷ 93 ∷ []) → ⊥
no_structure (inl e) = let z : 2 ≤ 1 = subst (λ (bs : List ℕ). 2 ≤ length bs) e (omega arith) in omega arith
no_structure (inr x) = no_element x.1

two_digits_are : (a b least most : ℕ) → EachByte DIGIT (a ∷ b ∷ []) → From◌To◌ least most (number_said (a ∷ b ∷ [])) → TwoDigits least most (a ∷ b ∷ [])
two_digits_are a b least most each range = record { each = each; two = refl; range = range }

moment : Moment (50 ∷ 48 ∷ 48 ∷ 51 ∷ 45 ∷ 49 ∷ 48 ∷ 45 ∷ 49 ∷ 49 ∷ 84 ∷ 50 ∷ 50 ∷ 58 ∷ 49 ∷ 52 ∷ 58 ∷ 49 ∷ 53 ∷ 46 ∷ 48 ∷ 48 ∷ 51 ∷ 90 ∷ [])
unfolding all_within and_also number_said_from is_leap days_of
moment =
    record {
      year = 50 ∷ 48 ∷ 48 ∷ 51 ∷ [];
      month = 49 ∷ 48 ∷ [];
      day = 49 ∷ 49 ∷ [];
      hour = 50 ∷ 50 ∷ [];
      minute = 49 ∷ 52 ∷ [];
      second = 49 ∷ 53 ∷ [];
      parts_of_second = 46 ∷ 48 ∷ 48 ∷ 51 ∷ [];
      zone = 90 ∷ [];
      is = refl;
      four_digits = refl;
      years = each_within 48 57 (50 ∷ 48 ∷ 48 ∷ 51 ∷ []) refl;
      months = two_digits_are 49 48 1 12 (each_within 48 57 (49 ∷ 48 ∷ []) refl) (omega arith, omega arith);
      days = two_digits_are 49 49 1 31 (each_within 48 57 (49 ∷ 49 ∷ []) refl) (omega arith, omega arith);
      hours = two_digits_are 50 50 0 23 (each_within 48 57 (50 ∷ 50 ∷ []) refl) (omega arith, omega arith);
      minutes = two_digits_are 49 52 0 59 (each_within 48 57 (49 ∷ 52 ∷ []) refl) (omega arith, omega arith);
      seconds = two_digits_are 49 53 0 59 (each_within 48 57 (49 ∷ 53 ∷ []) refl) (omega arith, omega arith);
      fractions = fraction (each_within 48 57 (48 ∷ 48 ∷ 51 ∷ []) refl) (omega arith) (omega arith);
      zones = utc;
    }

name_byte : (b : ℕ) → 97 ≤ b → b ≤ 122 → SdName (b ∷ [])
name_byte b l h = record { each = and {b = b} ((omega arith, omega arith), (λ e. omega arith), (λ e. omega arith), (λ e. omega arith)) EachByte.no_more; some = omega arith; few = omega arith }

plain_c : MustBeEscaped 99 → ⊥
plain_c (inl e) = omega arith
plain_c (inr (inl e)) = omega arith
plain_c (inr (inr e)) = omega arith

an_element : StructuredData (91 ∷ 97 ∷ 32 ∷ 98 ∷ 61 ∷ 34 ∷ 99 ∷ 34 ∷ 93 ∷ [])
an_element =
    let value : Params (32 ∷ 98 ∷ 61 ∷ 34 ∷ 99 ∷ 34 ∷ []) = param (98 ∷ []) (99 ∷ []) [] (name_byte 98 (omega arith) (omega arith)) (one {a = 99} (omega arith) Utf8.no_more) (plain plain_c Escaped.no_more) Params.no_more refl in
    inr ((97 ∷ []) ∷ [], element (97 ∷ []) (32 ∷ 98 ∷ 61 ∷ 34 ∷ 99 ∷ 34 ∷ []) [] (name_byte 97 (omega arith) (omega arith)) NotAmong.no_more value Elements.no_more refl, omega arith)

pub rfc_examples : RfcExamples
unfolding all_within and_also number_said_from is_leap days_of
rfc_examples =
    record {
      pri_ends = (
        record { each = each_within 48 57 (48 ∷ []) refl; zeros = inl refl; some = omega arith; few = omega arith; range = omega arith },
        record { each = each_within 48 57 (49 ∷ 57 ∷ 49 ∷ []) refl; zeros = inr (nonzero_first {b = 49} (omega arith, omega arith) (each_within 48 57 (57 ∷ 49 ∷ []) refl)); some = omega arith; few = omega arith; range = omega arith },
      );
      pri_192 = λ p. omega (arith, p.range);
      pri_086 = λ p. no_086 p.zeros;
      version_0 = no_version_0;
      empty_host = λ h. omega (arith, h.some);
      blank_in_msgid = λ m. no_blank m.each;
      empty_element = no_structure;
      count_037 = no_zero_first;
      time = inr moment;
      februaries = (refl, refl, refl, refl);
      element = an_element;
    }
