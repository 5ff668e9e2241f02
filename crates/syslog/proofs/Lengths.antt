-- A line is its beginning and its tail; how long lines and frames are. Assumes nothing.
use Prim.Native.Nat.{ℕ, ◌+◌, ◌*◌, ◌/◌, ◌≤◌, ◌<◌}
use mathlib.Core.Path.{◌≡◌, refl, ap, ◌∙◌}
use mathlib.Core.List.{List, [], ◌∷◌, ◌++◌}
use native.Mathlib.Omega.{arith}
use borrow.Author.Tests.{eqb-true, eqb-false}
use lib.Dec.{eqb}
use lib.ListN.{length, length-append}
use Rattle.tables.proofs.Cases.{either}
use Rattle.text.specs.Text.{digits, decimal}
use Rattle.text.specs.Wrote.{last_place}
use Rattle.text.proofs.Decimal.{decimal_short, decimal_long, one_digit_lem, two_digits, digits_most}
use Rattle.syslog.specs.declared.Msgid.{Msgid}
use Rattle.syslog.specs.declared.Msgid.TheVariants.{Grant, Deny, Pass, Lapse}
use Rattle.syslog.specs.declared.LineEvent.{LineEvent}
use Rattle.syslog.specs.Line.{facility, severity_of, name_of, door_mark, person_mark, reason_mark, held_mark, held_reason, held_part, reason_part, line_of, head_of, tail_of, framed_of, ReasonFits, HeldFits, Fits}
use Rattle.syslog.proofs.Fit.{held_below}

-- ---- the parts of a line

head_first : (m : Msgid) (t : List ℕ)
    → 60 ∷ (decimal (facility * 8 + severity_of m) ++ (62 ∷ 49 ∷ 32 ∷ 45 ∷ 32 ∷ 45 ∷ 32 ∷ 45 ∷ 32 ∷ 45 ∷ 32 ∷ (name_of m ++ (32 ∷ 45 ∷ 32 ∷ (door_mark ++ t)))))
    ≡ head_of m ++ t
unfolding decimal digits
head_first Grant t = refl
head_first Deny t = refl
head_first Pass t = refl
head_first Lapse t = refl

pub head_and_tail : (e : LineEvent) → line_of e ≡ head_of e.msgid ++ tail_of e
unfolding line_of
head_and_tail e = head_first e.msgid (tail_of e)

-- what holds of a held door's part and of none, each with its reason, holds of what a denial adds
pub by_held : (P : List ℕ → Type 0) (reason held : ℕ) → (reason ≡ held_reason → P (held_mark ++ decimal held)) → ((reason ≡ held_reason → ⊥) → P [])
    → P (held_part reason held)
by_held P reason held told none = either P (eqb reason held_reason) (λ is. told (eqb-true reason held_reason is)) (λ other. none (eqb-false reason held_reason other))

-- ---- lengths

head_most : (m : Msgid) → length (head_of m) ≤ 27
unfolding decimal digits
head_most Grant = omega arith
head_most Deny = omega arith
head_most Pass = omega arith
head_most Lapse = omega arith

pub head_least : (m : Msgid) → 26 ≤ length (head_of m)
unfolding decimal digits
head_least Grant = omega arith
head_least Deny = omega arith
head_least Pass = omega arith
head_least Lapse = omega arith

-- a line with numbers of at most so many digits
held_most : (reason held width : ℕ) → length (decimal held) ≤ width → length (held_part reason held) ≤ 6 + width
held_most reason held width h =
    by_held (λ (t : List ℕ). length t ≤ 6 + width) reason held (λ _. let l = length-append held_mark (decimal held) in omega arith) (λ _. omega arith)

reason_most : (m : Msgid) (reason held width wide : ℕ) → length (decimal reason) ≤ width → length (decimal held) ≤ wide
    → length (reason_part m reason held) ≤ 14 + width + wide
reason_most Grant reason held width wide h k = omega arith
reason_most Deny reason held width wide h k =
    let l = length-append reason_mark (decimal reason ++ held_part reason held) in
    let b = length-append (decimal reason) (held_part reason held) in
    let t = held_most reason held wide k in
    omega arith
reason_most Pass reason held width wide h k = omega arith
reason_most Lapse reason held width wide h k = omega arith

pub line_length : (e : LineEvent)
    → length (line_of e) ≡ length (head_of e.msgid) + (length (decimal e.door) + (8 + (length (decimal e.person) + length (reason_part e.msgid e.reason e.held))))
line_length e =
    let end = reason_part e.msgid e.reason e.held in
    ap length (head_and_tail e) ∙ length-append (head_of e.msgid) (tail_of e)
    ∙ rw (length-append (decimal e.door) (person_mark ++ (decimal e.person ++ end)), length-append person_mark (decimal e.person ++ end), length-append (decimal e.person) end)

pub line_least : (e : LineEvent) → 10 ≤ length (line_of e)
line_least e = let l = line_length e in let h = head_least e.msgid in omega arith

-- only a denial has a reason, of one digit, and a held door, of two at most
fit_part : (m : Msgid) (reason held : ℕ) → ReasonFits m reason → HeldFits reason held → length (head_of m) + length (reason_part m reason held) ≤ 43
unfolding decimal digits
fit_part Grant reason held h k = omega arith
fit_part Deny reason held h k =
    let r = reason_most Deny reason held 1 2 (one_digit_lem reason (omega (arith, h.1))) (two_digits held (omega (arith, held_below reason held k))) in
    omega arith
fit_part Pass reason held h k = omega arith
fit_part Lapse reason held h k = omega arith

pub line_short : (e : LineEvent) → Fits e → length (line_of e) ≤ 55
line_short e f =
    let l = line_length e in
    let d = two_digits e.door (omega (arith, f.door)) in
    let p = two_digits e.person (omega (arith, f.person)) in
    let r = fit_part e.msgid e.reason e.held f.reason f.held in
    omega arith

two_exactly : (n : ℕ) → 10 ≤ n → n < 100 → length (decimal n) ≡ 2
two_exactly n l h = rw (decimal_long n l, decimal_short (n / 10) (omega arith))

pub frame_is : (e : LineEvent) → Fits e → length (framed_of e) ≡ length (line_of e) + 3
unfolding framed_of
frame_is e f =
    let l = length-append (decimal (length (line_of e))) (32 ∷ line_of e) in
    let s = line_short e f in
    let k = two_exactly (length (line_of e)) (line_least e) (omega arith) in
    omega arith

pub frame_short : (e : LineEvent) → Fits e → length (framed_of e) ≤ 58
frame_short e f = let i = frame_is e f in let s = line_short e f in omega arith

-- ---- any event at all

twenty_digits : (n : ℕ) → n ≤ last_place → length (decimal n) ≤ 20
twenty_digits n h = digits_most 19 n (omega arith)

pub line_small : (e : LineEvent) → e.door ≤ last_place → e.person ≤ last_place → e.reason ≤ last_place → e.held ≤ last_place → length (line_of e) ≤ 129
line_small e d p r k =
    let l = line_length e in
    let h = head_most e.msgid in
    let x = twenty_digits e.door d in
    let y = twenty_digits e.person p in
    let z = reason_most e.msgid e.reason e.held 20 20 (twenty_digits e.reason r) (twenty_digits e.held k) in
    omega arith
