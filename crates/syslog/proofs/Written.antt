-- What was written for an event stands at the list's front; the laws of the functions that write. Assumes nothing.
use Prim.Native.Nat.{ℕ, ◌≤◌}
use mathlib.Core.Path.{◌≡◌, refl, sym, ap, ◌∙◌}
use mathlib.Core.Bool.{Bool, true, false, cond}
use mathlib.Core.List.{List, [], ◌++◌}
use native.Mathlib.Omega.{arith}
use native.Mathlib.Nat.{zero-add}
use lib.Dec.{eqb}
use lib.ListN.{length, take, drop}
use borrow.Author.Tests.{leb-true, eqb-true}
use lib.Seq.{sets-eq, take-append_seam}
use Rattle.std.specs.Prelude.{Result, Ok, Err}
use Rattle.std.specs.List.{starts_with}
use Rattle.std.proofs.lemmas.Bool.Decides.{Decides-eqb}
use Rattle.std.proofs.lemmas.Slice.Eq.{slice_eq-Decides}
use Rattle.tables.specs.Below.{Tells}
use Rattle.text.specs.Wrote.{last_place, behind, Wrote}
use Rattle.text.specs.Printed.{fits_in, printed_of, written, Prints}
use Rattle.syslog.specs.declared.Msgid.{Msgid}
use Rattle.syslog.specs.declared.Msgid.TheVariants.{Grant, Deny, Pass, Lapse}
use Rattle.syslog.specs.declared.LineEvent.{LineEvent}
use Rattle.syslog.specs.declared.Unwritten.{Unwritten}
use Rattle.syslog.specs.declared.Unwritten.TheVariants as unwritten
use Rattle.syslog.specs.Line.{reason_part, line_of, framed_of, Fits, fits_line}
use Rattle.syslog.specs.Numbers.{short_line}
use Rattle.syslog.specs.Lent.{written_of, list_with, Writes, as_line}
use Rattle.syslog.specs.Reading.{FrameAt}
use Rattle.syslog.proofs.Fit.{fits_tells}
use Rattle.findings.specs.declared.TooShort.{TooShort}
use Rattle.findings.specs.Told.{too_short}

-- ---- the functions that write

-- an event that doesn't fit
pub writes_unfit : {e : LineEvent} {text out : List ℕ} → fits_line e ≡ false → Writes e text out (Err unwritten.Unfit) out
unfolding written_of list_with
writes_unfit f = record { answer = rw f; list = rw f }

pub writes_printed : {e : LineEvent} {text out after : List ℕ} {told : Result ℕ TooShort} → fits_line e ≡ true → Prints text out told after → Writes e text out (as_line told) after
unfolding written_of list_with printed_of
writes_printed {e} {text} {out} {after} {told} f p = record { answer = rw f (ap as_line p.answer ∙ go (fits_in text out)); list = rw f p.list }
  where
    go : (b : Bool) → as_line (cond b (Ok (length text)) (Err too_short)) ≡ cond b (Ok (length text)) (Err unwritten.TooShort)
    go true = refl
    go false = refl

-- the same where there is no room, and the refusal goes on
pub writes_short : {e : LineEvent} {text out after : List ℕ} {short : TooShort} {told : Result ℕ Unwritten} {refusal : Unwritten} → told ≡ Err refusal
    → refusal ≡ short_line short → fits_line e ≡ true → Prints text out (Err short) after → Writes e text out told after
writes_short is as_short f p = rw (is, as_short) (writes_printed f p)

-- what isn't denied has no reason to tell
pub no_reason : (m : Msgid) (reason held : ℕ) → (m ≡ Deny → ⊥) → reason_part m reason held ≡ []
no_reason Grant reason held other = refl
no_reason Deny reason held other = absurd (other refl)
no_reason Pass reason held other = refl
no_reason Lapse reason held other = refl

-- a text that was written into the front of a list of one's own, and compared
pub own_text : {text own after : List ℕ} {end : ℕ} → Wrote own 0 text after end → length text ≤ length own → length own ≤ last_place
    → (end ≡ length text) × (take end after ≡ text)
unfolding behind
own_text {text} {own} {after} {end} w room few =
    let place : end ≡ behind 0 (length text) = w.place in
    let size : end ≡ length text = omega arith in
    (size, rw (size, w.list, sets-eq text own 0 (omega arith)) (take-append_seam text _))

-- where it is as long as another, the other is compared with its front
pub own_tells : (own after text : List ℕ) {end : ℕ} {same : Bool} → (end ≡ length own) × (take end after ≡ own) → end ≡ length text
    → same ≡ starts_with eqb after text → Tells same (text ≡ own)
own_tells own after text {end} {same} o size is =
    let front : take (length text) after ≡ own = ap (λ (n : ℕ). take n after) (sym size) ∙ o.1 in
    let decides = slice_eq-Decides Decides-eqb text own same (rw front at is) in
    record { yes = decides.0; back = decides.1 }

pub own_longer : {own text : List ℕ} {end : ℕ} → end ≡ length own → (end ≡ length text → ⊥) → Tells (eqb end (length text)) (text ≡ own)
own_longer {end = end} size other =
    record { yes = λ same. absurd (other (eqb-true end _ same)); back = λ same. absurd (other (size ∙ ap length (sym same))) }

-- ---- what was written, at the list's front

same_length : {n m : ℕ} → ◌≡◌ {A = Result ℕ Unwritten} (Ok n) (Ok m) → n ≡ m
same_length e = ap count e
  where
    count : Result ℕ Unwritten → ℕ
    count (Ok n) = n
    count (Err refusal) = 0

-- the text was written, and these are its bytes and those behind it
record Front (text before after : List ℕ) (n : ℕ) : Type 0 where
  size : n ≡ length text
  list : after ≡ text ++ drop (length text) before

at_front : {e : LineEvent} {text before after : List ℕ} {n : ℕ} → Fits e → Writes e text before (Ok n) after → Front text before after n
unfolding written_of list_with written fits_in
at_front {e} {text} {before} {after} {n} f w = go (fits_in text before) refl
  where
    ok : fits_line e ≡ true
    ok = (fits_tells e).back f

    go : (b : Bool) → fits_in text before ≡ b → Front text before after n
    go true b =
        let room = leb-true (length text) (length before) b in
        record {
          size = same_length (w.answer ∙ rw (ok, b));
          list = w.list ∙ rw (ok, b) (rw zero-add at (sets-eq text before 0 (omega arith)));
        }
    go false b = let z : ◌≡◌ {A = Result ℕ Unwritten} (Ok n) (Err unwritten.TooShort) = w.answer ∙ rw (ok, b) in let y : ◌≡◌ {A = ℕ} 0 1 = cc in absurd (omega arith)

pub written_line : (e : LineEvent) → Fits e → (before after : List ℕ) (n : ℕ) → Writes e (line_of e) before (Ok n) after → take n after ≡ line_of e
written_line e f before after n w = let x = at_front f w in rw (x.size, x.list) (take-append_seam (line_of e) (drop (length (line_of e)) before))

pub written_frame : (e : LineEvent) → Fits e → (before after : List ℕ) (n : ℕ) → Writes e (framed_of e) before (Ok n) after → FrameAt after 0 e n
written_frame e f before after n w =
    let x = at_front f w in
    record { fits = f; front = []; rest = drop (length (framed_of e)) before; split = x.list; place = refl; behind_it = x.size ∙ sym (zero-add (length (framed_of e))) }
