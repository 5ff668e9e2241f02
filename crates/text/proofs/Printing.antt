-- A text is measured by writing it into no bytes, and written where it fits: `measured` is the law of every function that prints.
-- Assumes nothing.
use Prim.Native.Nat.{ℕ, ◌≤◌, ◌<◌}
use mathlib.Core.Path.{◌≡◌, sym, ap, subst, ◌∙◌}
use mathlib.Core.List.{List, [], ◌++◌}
use native.Mathlib.Omega.{arith}
use borrow.Author.Tests.{le-leb, lt-leb}
use lib.ListN.{length}
use lib.Seq.{sets}
use Rattle.std.specs.Prelude.{Result, Ok, Err}
use Rattle.text.specs.Wrote.{last_place, behind, Wrote}
use Rattle.text.specs.Printed.{fits_in, printed_of, written, Prints}
use Rattle.text.proofs.Writing.{sets_past}
use Rattle.findings.specs.declared.TooShort.{TooShort}
use Rattle.findings.specs.Told.{too_short}

-- what is told and what the list holds, by whether the text fits
prints_short : {text out : List ℕ} → length out < length text → Prints text out (Err too_short) out
unfolding fits_in printed_of written
prints_short {text} {out} h = let e = lt-leb (length text) (length out) h in record { answer = rw e; list = rw e }

prints_long : {text out after : List ℕ} {end : ℕ} → length text ≤ length out → end ≡ length text → after ≡ sets out 0 text → Prints text out (Ok end) after
unfolding fits_in printed_of written
prints_long {text} {out} h e a = let f = le-leb (length text) (length out) h in record { answer = rw (f, e); list = rw f a }

-- a text is written at once where it is known that it fits: what is told and what the list holds is what measuring it first would give
pub at_once : {text out after : List ℕ} {end : ℕ} → length text ≤ length out → length out < last_place → Wrote out 0 text after end → Prints text out (Ok end) after
unfolding behind
at_once {text} {end = end} h most w = let p : end ≡ behind 0 (length text) = w.place in prints_long h (omega arith) w.list

-- a text that was measured: 13 and nothing written where the list is shorter, else it is written
pub record Measured (text out whole : List ℕ) (size : ℕ) : Type 0 where
  pub short : length whole < size → Prints text out (Err too_short) whole
  pub long : {after : List ℕ} {end : ℕ} → size ≤ length whole → Wrote whole 0 text after end → length whole < last_place → Prints text out (Ok end) after

-- `front` is the part of a list, no bytes long, into which a text was written to measure it: the list is as it was,
pub unaltered : {text front out : List ℕ} {size : ℕ} → Wrote [] 0 text front size → front ++ out ≡ out
unfolding behind
unaltered {text} {out = out} w = ap (λ (f : List ℕ). f ++ out) (w.list ∙ sets_past [] 0 text (omega arith))

-- and its size is the text's length
pub size_is : {text front : List ℕ} {size : ℕ} → Wrote [] 0 text front size → length text ≤ last_place → size ≡ length text
unfolding behind
size_is {text} {size = size} w few = let p : size ≡ behind 0 (length text) = w.place in omega arith

pub measured : {text front out : List ℕ} {size : ℕ} → Wrote [] 0 text front size → Measured text out (front ++ out) size
unfolding behind
measured {text} {front} {out} {size} w =
    let e : front ++ out ≡ out = unaltered w in
    let p : size ≡ behind 0 (length text) = w.place in
    let same : length (front ++ out) ≡ length out = ap length e in
    record {
      short = λ h. subst (λ (l : List ℕ). Prints text out (Err too_short) l) (sym e) (prints_short (omega arith));
      long = λ {after} {end} h v most. at_once (omega arith) (omega (arith, same, most)) (subst (λ (l : List ℕ). Wrote l 0 text after end) e v);
    }

-- the same text, said otherwise
pub text_is : (text other out : List ℕ) {p : Result ℕ TooShort} {after : List ℕ} → text ≡ other → Prints text out p after → Prints other out p after
text_is text other out {p} {after} e h = subst (λ (t : List ℕ). Prints t out p after) e h
