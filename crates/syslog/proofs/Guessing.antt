-- The guess made of a line or a frame is its event. Assumes nothing.
use Prim.Native.Nat.{ℕ, ◌+◌, ◌<◌}
use mathlib.Core.Path.{◌≡◌, refl, sym, ap, ◌∙◌}
use mathlib.Core.List.{List, [], ◌∷◌, ◌++◌, append-nil}
use native.Mathlib.Omega.{arith}
use borrow.Author.Tests.{le-ltb, ne_eqb}
use lib.ListN.{length}
use Rattle.tables.specs.Tables.{and_also}
use Rattle.text.specs.Text.{digit_byte, digits, decimal}
use Rattle.syslog.specs.declared.Msgid.{Msgid}
use Rattle.syslog.specs.declared.Msgid.TheVariants.{Grant, Deny, Pass, Lapse}
use Rattle.syslog.specs.declared.LineEvent.{LineEvent}
use Rattle.syslog.specs.Line.{person_mark, held_part, reason_part, line_of, head_of, tail_of, framed_of, ReasonFits, HeldFits, Fits}
use Rattle.syslog.specs.Guess.{msgid_by, msgid_in, behind_mark, is_digit, number_on, number_from, guess_of}
use Rattle.syslog.proofs.Digits.{skips, Stops, at_end, at_byte, number_back}
use Rattle.syslog.proofs.Lengths.{head_and_tail, by_held}

-- ---- digits are passed over

digit_no_letter : (d : ℕ) → d < 10 → (t : List ℕ) → msgid_in (digit_byte d ∷ t) ≡ msgid_in t
unfolding msgid_in
digit_no_letter d h t = rw (le-ltb 64 (48 + d) (omega arith))

digit_no_mark : (d : ℕ) → d < 10 → (t : List ℕ) → behind_mark (digit_byte d ∷ t) ≡ behind_mark t
unfolding behind_mark
digit_no_mark d h t = rw (ne_eqb (48 + d) 61 (λ e. omega arith))

-- ---- the beginning of a line

pub head_msgid : (m : Msgid) (t : List ℕ) → msgid_in (head_of m ++ t) ≡ m
unfolding decimal digits msgid_in msgid_by
head_msgid Grant t = refl
head_msgid Deny t = refl
head_msgid Pass t = refl
head_msgid Lapse t = refl

pub head_mark : (m : Msgid) (t : List ℕ) → behind_mark (head_of m ++ t) ≡ t
unfolding decimal digits behind_mark
head_mark Grant t = refl
head_mark Deny t = refl
head_mark Pass t = refl
head_mark Lapse t = refl

-- ---- its tail

person_mark_lem : (t : List ℕ) → behind_mark (person_mark ++ t) ≡ t
unfolding behind_mark
person_mark_lem t = refl

-- what stands behind the door's number and the mark of the person, and behind the mark that follows the person's
door_passed : (door : ℕ) (last : List ℕ) → behind_mark (decimal door ++ (person_mark ++ last)) ≡ last
door_passed door last = skips behind_mark digit_no_mark door (person_mark ++ last) ∙ person_mark_lem last

pub both_passed : (door person : ℕ) (end : List ℕ) → behind_mark (behind_mark (decimal door ++ (person_mark ++ (decimal person ++ end)))) ≡ behind_mark end
both_passed door person end = ap behind_mark (door_passed door (decimal person ++ end)) ∙ skips behind_mark digit_no_mark person end

pub held_stops : (reason held : ℕ) → Stops (held_part reason held)
unfolding is_digit and_also
held_stops reason held = by_held Stops reason held (λ _. at_byte {b = 32} refl) (λ _. at_end)

reason_mark_lem : (m : Msgid) (reason held : ℕ) → ReasonFits m reason → number_from (behind_mark (reason_part m reason held)) ≡ reason
unfolding behind_mark number_on
reason_mark_lem Grant reason held f = sym f
reason_mark_lem Deny reason held f = number_back reason (omega (arith, f.1)) (held_stops reason held)
reason_mark_lem Pass reason held f = sym f
reason_mark_lem Lapse reason held f = sym f

-- the held door stands behind a mark of its own, and is 0 where there is none
held_number : (reason held : ℕ) → HeldFits reason held → number_from (behind_mark (held_part reason held)) ≡ held
unfolding behind_mark number_on
held_number reason held f =
    by_held (λ (t : List ℕ). number_from (behind_mark t) ≡ held) reason held
    (λ is. rw append-nil at (number_back held {t = []} (omega (arith, f.0 is)) at_end)) (λ other. sym (f.1 other))

none_held : (reason held : ℕ) → reason ≡ 0 → HeldFits reason held → 0 ≡ held
none_held reason held z f = sym (f.1 (λ is. omega arith))

held_mark_lem : (m : Msgid) (reason held : ℕ) → ReasonFits m reason → HeldFits reason held
    → number_from (behind_mark (behind_mark (reason_part m reason held))) ≡ held
unfolding behind_mark number_on
held_mark_lem Grant reason held f g = none_held reason held f g
held_mark_lem Deny reason held f g = ap number_from (skips behind_mark digit_no_mark reason (held_part reason held)) ∙ held_number reason held g
held_mark_lem Pass reason held f g = none_held reason held f g
held_mark_lem Lapse reason held f g = none_held reason held f g

blank_stops : (t : List ℕ) → Stops (person_mark ++ t)
unfolding is_digit and_also
blank_stops t = at_byte {b = 32} refl

reason_stops : (m : Msgid) (reason held : ℕ) → Stops (reason_part m reason held)
unfolding is_digit and_also
reason_stops Grant reason held = at_end
reason_stops Deny reason held = at_byte {b = 32} refl
reason_stops Pass reason held = at_end
reason_stops Lapse reason held = at_end

-- a text with an event's MSGID for its first word, and its tail behind the first mark
guess_is : (e : LineEvent) → Fits e → (t : List ℕ) → msgid_in t ≡ e.msgid → behind_mark t ≡ tail_of e → guess_of t ≡ e
guess_is e f t m b =
    let end = reason_part e.msgid e.reason e.held in
    let last = decimal e.person ++ end in
    let two : behind_mark (tail_of e) ≡ last = door_passed e.door last in
    let three : behind_mark last ≡ behind_mark end = skips behind_mark digit_no_mark e.person end in
    let door : number_from (tail_of e) ≡ e.door = number_back e.door (omega (arith, f.door)) (blank_stops last) in
    let person : number_from last ≡ e.person = number_back e.person (omega (arith, f.person)) (reason_stops e.msgid e.reason e.held) in
    rw (m, b, two, three, door, person, reason_mark_lem e.msgid e.reason e.held f.reason, held_mark_lem e.msgid e.reason e.held f.reason f.held)

pub guess_line : (e : LineEvent) → Fits e → guess_of (line_of e) ≡ e
guess_line e f =
    guess_is e f (line_of e) (ap msgid_in (head_and_tail e) ∙ head_msgid e.msgid (tail_of e))
    (ap behind_mark (head_and_tail e) ∙ head_mark e.msgid (tail_of e))

-- ---- the octet count has no letter and no mark

count_msgid : (n : ℕ) (t : List ℕ) → msgid_in (decimal n ++ (32 ∷ t)) ≡ msgid_in t
unfolding msgid_in
count_msgid n t = skips msgid_in digit_no_letter n (32 ∷ t)

count_mark : (n : ℕ) (t : List ℕ) → behind_mark (decimal n ++ (32 ∷ t)) ≡ behind_mark t
unfolding behind_mark
count_mark n t = skips behind_mark digit_no_mark n (32 ∷ t)

pub guess_frame : (e : LineEvent) → Fits e → guess_of (framed_of e) ≡ e
unfolding framed_of
guess_frame e f =
    guess_is e f (framed_of e) (count_msgid (length (line_of e)) (line_of e) ∙ ap msgid_in (head_and_tail e) ∙ head_msgid e.msgid (tail_of e))
    (count_mark (length (line_of e)) (line_of e) ∙ ap behind_mark (head_and_tail e) ∙ head_mark e.msgid (tail_of e))
