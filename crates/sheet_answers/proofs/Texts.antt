-- Demand 1 of texts in lent lists; what it says is in `specs/Answers.antt`. Assumes nothing.
use Prim.Native.Nat.{ℕ, ◌≤◌}
use mathlib.Core.Path.{◌≡◌, refl, ap, ◌∙◌}
use mathlib.Core.Bool.{Bool, true, false}
use mathlib.Core.List.{List, [], ◌∷◌, ◌++◌}
use mathlib.Core.Logic.{inl, inr}
use native.Mathlib.Omega.{arith}
use borrow.Author.Tests.{leb-true, leb-false}
use lib.Dec.{leb}
use native.Mathlib.Nat.{zero-add}
use lib.ListN.{length, drop, replicate, length-replicate}
use lib.Seq.{length-sets, sets-eq}
use Rattle.std.specs.Prelude.{Result, Ok, Err}
use Rattle.text.specs.Wrote.{Wrote}
use Rattle.text.specs.Wrote as wrote
use Rattle.text.specs.Printed.{fits_in, printed_of, written, Prints}
use Rattle.findings.specs.Told.{printed_no}
use Rattle.text.proofs.Writing.{sets_past}
use Rattle.text.proofs.Decimal.{decimal_some}
use Rattle.text.proofs.Rows.{row_some}
use Rattle.numbers.specs.Telling.{OneOf}
use Rattle.sheet_answers.specs.Answers.{TextWritten, TextTells, TextAnswers}
use Rattle.findings.specs.declared.TooShort.{TooShort}

-- a text that is printed is told by its length and stands in front of its list, or is refused
pub printed_tells : (text out : List ℕ) → TextTells text out (printed_of text out) (written text out)
unfolding printed_of written fits_in
printed_tells text out = go (leb (length text) (length out)) refl
  where
    go : (q : Bool) → leb (length text) (length out) ≡ q → TextTells text out (printed_of text out) (written text out)
    go true q =
        let h = leb-true (length text) (length out) q in
        record {
          number = inr (h, rw q);
          a_length = λ _. rw q;
          in_front = λ _. rw q (sets-eq text out 0 (omega arith) ∙ ap (λ (k : ℕ). text ++ drop k out) (zero-add (length text)));
          unaltered = λ l. absurd (omega arith);
        }
    go false q =
        let h = leb-false (length text) (length out) q in
        record {
          number = inl ((λ l. absurd (omega arith)), rw q);
          a_length = λ l. absurd (omega arith);
          in_front = λ l. absurd (omega arith);
          unaltered = λ _. rw q;
        }

pub text_tells : {text out : List ℕ} {told : Result ℕ TooShort} {after : List ℕ} → Prints text out told after → TextTells text out told after
text_tells {text} {out} w = rw (w.answer, w.list) (printed_tells text out)

-- a list of zeros, and a text that is no longer: it is printed whole there
pub blank_long : (n : ℕ) → length {A = ℕ} (replicate n 0) ≡ n
blank_long n = length-replicate {A = ℕ} n 0

pub in_blank : {most : ℕ} (text : List ℕ) → length text ≤ most → printed_of text (replicate most 0) ≡ Ok (length text)
in_blank {most} text h = let l = blank_long most in (printed_tells text (replicate most 0)).a_length (omega arith)

a_text_number : (p : Result ℕ TooShort) → OneOf (0 ∷ 13 ∷ []) (printed_no p)
a_text_number (Ok n) = inl refl
a_text_number (Err short) = inr (inl refl)

pub written_told : {list : List ℕ} {at : ℕ} {text after : List ℕ} {next : ℕ} → Wrote list at text after next → TextWritten list at text after next
unfolding wrote.behind
written_told {list} {at} {text} w =
    let p = w.place in
    record {
      as_long = rw w.list (length-sets list at text);
      within = λ h. w.list ∙ sets-eq text list at h;
      past = λ h. w.list ∙ sets_past list at text h;
      behind = λ h. omega arith;
    }

pub of_text : TextAnswers
of_text =
    record {
      put = λ list at byte after next w. written_told w;
      put_bytes = λ list at bytes after next w. written_told w;
      put_number = λ list at n after next w. (written_told w, decimal_some n);
      put_row = λ list at first numbers after next w. (written_told w, row_some first numbers);
      prints = λ text list told after w. text_tells w;
      print = λ g put text list told after puts w. text_tells (w text puts);
      printed_number = a_text_number;
    }
