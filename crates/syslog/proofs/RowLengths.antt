-- How long the rows of a stream are: no row is longer than its frame. Assumes nothing.
use Prim.Native.Nat.{ℕ, ◌+◌, ◌-◌, ◌≤◌, ◌<◌}
use mathlib.Core.Bool.{Bool}
use mathlib.Core.List.{List, [], ◌∷◌, ◌++◌}
use native.Mathlib.Omega.{arith}
use lib.ListN.{length, length-append}
use Rattle.numbers.specs.Numbers.{not_aline_no}
use Rattle.grammar.specs.Grammar.{comma}
use Rattle.text.specs.Text.{digits, decimal, row_of_numbers}
use Rattle.text.proofs.Decimal.{one_digit_lem, two_digits}
use Rattle.text.proofs.Rows.{last_length, more_length}
use Rattle.syslog.specs.declared.Msgid.{Msgid}
use Rattle.syslog.specs.declared.Msgid.TheVariants.{Grant, Deny, Pass, Lapse}
use Rattle.syslog.specs.declared.LineEvent.{LineEvent}
use Rattle.syslog.specs.Line.{name_of, framed_of, ReasonFits, Fits}
use Rattle.syslog.specs.Reading.{StreamSays, ends, breaks, more}
use Rattle.syslog.specs.Rows.{most_stream, events_header, event_row, refused_row, event_rows, stream_rows, long_rows}
use Rattle.syslog.proofs.Fit.{held_below}
use Rattle.syslog.proofs.Lengths.{head_least, line_length, frame_is}
use Rattle.syslog.proofs.Finding.{frame_onward}

name_few : (m : Msgid) → length (name_of m) ≤ 5
name_few Grant = omega arith
name_few Deny = omega arith
name_few Pass = omega arith
name_few Lapse = omega arith

reason_few : (m : Msgid) (reason : ℕ) → ReasonFits m reason → reason < 10
reason_few Grant reason f = omega (arith, f)
reason_few Deny reason f = omega (arith, f.1)
reason_few Pass reason f = omega (arith, f)
reason_few Lapse reason f = omega (arith, f)

row_short : (e : LineEvent) → Fits e → length (event_row e) ≤ length (framed_of e)
unfolding event_row
row_short e f =
    let numbers = row_of_numbers e.door (e.person ∷ e.reason ∷ e.held ∷ []) in
    let a = length-append (decimal 0) (comma ∷ (name_of e.msgid ++ (comma ∷ numbers))) in
    let b = length-append (name_of e.msgid) (comma ∷ numbers) in
    let c = more_length e.door e.person (e.reason ∷ e.held ∷ []) in
    let d = more_length e.person e.reason (e.held ∷ []) in
    let g = more_length e.reason e.held [] in
    let h = last_length e.held in
    let one = one_digit_lem 0 (omega arith) in
    let name = name_few e.msgid in
    let reason = one_digit_lem e.reason (reason_few e.msgid e.reason f.reason) in
    let held = two_digits e.held (omega (arith, held_below e.reason e.held f.held)) in
    let frame = frame_is e f in
    let line = line_length e in
    let head = head_least e.msgid in
    omega arith

refused_short : length (refused_row not_aline_no) ≤ 13
unfolding refused_row decimal digits row_of_numbers
refused_short = omega arith

rows_few : {s : List ℕ} {at : ℕ} {es : List LineEvent} {whole : Bool} → StreamSays s at es whole → length (event_rows es whole) ≤ length s - at + 13
unfolding event_rows
rows_few (ends x) = omega arith
rows_few (breaks x) = let r = refused_short in omega arith
rows_few (more {e = e} {es = es} {whole = whole} x on) =
    let both = length-append (event_row e) (event_rows es whole) in
    let first = row_short e x.fits in
    let rest = rows_few on in
    let onward = frame_onward x in
    let next = x.behind_it in
    omega (arith, onward.0, onward.1)

-- no text of a stream has more than 64 bytes beyond the longest stream
pub stream_rows_few : (s : List ℕ) (es : List LineEvent) (whole : Bool) → length s ≤ most_stream → StreamSays s 0 es whole → length (stream_rows es whole) ≤ most_stream + 64
unfolding stream_rows
stream_rows_few s es whole h says = let a = length-append events_header (event_rows es whole) in let b = rows_few says in omega arith

pub long_rows_few : length long_rows ≤ most_stream + 64
unfolding long_rows refused_row decimal digits row_of_numbers
long_rows_few = omega arith
