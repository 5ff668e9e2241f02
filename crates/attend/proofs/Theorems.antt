-- The theorems of the crate: what the panel's own loop writes, row by row, is what the programs print of the whole sheet.
--     live-is-panel     the text of `panel`, the record of `where` and the stream of `events`, of calls of `attend` too
--     rows-attended     calls of `attend`, one after the other, write `live_rows` and leave `live_last`
--     comes-in-rows     every text comes in rows
--     live-unlimited    without a limit on the sheet: the rows are those of a run of the text's steps
--     bad-row-stays, refused-row-stays     a row of bad form, and one whose step is refused, leave the record as it was
--     bad-row-printed, step-printed        the row to print: `n,2,0,0,0`, or what the step tells
--     row_fits          of a shaped record the row to print has at most 31 bytes, if its number has 20 digits at most
-- Assumes nothing.
use Prim.Native.Nat.{ℕ, ◌+◌, ◌^◌, ◌≤◌, ◌<◌}
use native.Mathlib.Omega.{arith}
use mathlib.Core.Path.{◌≡◌, refl, sym, ap, ◌∙◌}
use mathlib.Core.Bool.{Bool, true, false}
use mathlib.Core.List.{List, ◌++◌, append-nil}
use lib.ListN.{length, take, drop, replicate, length-replicate}
use Rattle.tables.specs.Tables.{most_doors}
use Rattle.tables.specs.Zero.{zeros}
use Rattle.tables.proofs.Zero.{zeros_at}
use Rattle.tables.proofs.Cases.{either}
use Rattle.std.specs.Prelude.{Some, None}
use Rattle.grammar.specs.Sizes.{limit}
use Rattle.verdict.specs.Verdict.{Accepted}
use Rattle.deeds.specs.declared.Told.{Told}
use Rattle.record.specs.declared.record.Record.{Record}
use Rattle.record.specs.Doors.{Shaped}
use Rattle.record.specs.Sound.{Sound}
use Rattle.record.specs.SoundTest.{sound_b}
use Rattle.record.specs.Steps.{doing, refused, step_of, told_by}
use Rattle.record.specs.Run.{last_of, replies_of}
use Rattle.record.proofs.Laws.{step_cases, act_done, shaped_stays}
use Rattle.record.proofs.Tells.{sound_tells}
use Rattle.site_sheet.specs.Site.{site_of, verdict_no}
use Rattle.site_sheet.proofs.Theorems.{accepted_holds}
use Rattle.numbers.specs.Numbers.{bad_form_no}
use Rattle.phases.specs.declared.table.Kind.{Kind}
use Rattle.phases.specs.declared.answer.Answer.TheVariants.{Unsound}
use Rattle.phases.specs.Answers.{answer_no}
use Rattle.phases.specs.declared.table.StepRow.{StepRow}
use Rattle.steps_sheet.specs.Heading.{Rows}
use Rattle.steps_sheet.specs.Says.{TextSaysSteps}
use Rattle.steps_sheet.specs.Steps.{is_step, heading_of, steps_from}
use Rattle.steps_sheet.proofs.Text.{steps_said}
use Rattle.text.proofs.Decimal.{one_digit_lem, two_digits, digits_most}
use Rattle.text.specs.Wrote.{behind}
use Rattle.run_text.specs.Printed.{panel_header, panel_row, run_text, ran_text, record_text, where_text}
use Rattle.run_text.proofs.Fits.{told_short, told_digits, row_length}
use Rattle.run_text.proofs.Serving.{front_of, replies_length}
use Rattle.run_text.proofs.Sheets.{panel_is, where_is}
use Rattle.run_events.specs.Events.{no_spells}
use Rattle.syslog.specs.Line.{stream_of}
use Rattle.stream_text.specs.Stream.{line_events_in}
use Rattle.stream_text.proofs.Sheets.{stream_is}
use Rattle.attend.specs.declared.Attended.{Attended}
use Rattle.attend.specs.Attend.{row_says, asked_in, step_asked, shown_row, Attends}
use Rattle.attend.specs.Live.{InRows, ComesInRows, live_rows, live_last, live_frames, AttendedRows, none_left, bad_form, a_step}
use Rattle.attend.specs.IsPanel.{LiveIsPanel}
use Rattle.attend.proofs.Coming.{text_comes, says_a_step}
use Rattle.attend.proofs.Live.{unknown_stays, rows_ask, rows_printed, rows_done}
use Rattle.attend.proofs.Frames.{frames_written}

-- the header and the rows of a text that says these steps are the text of their run
run_printed : {text : List ℕ} {steps : List StepRow} {whole : Bool} {rows : List (List ℕ)} → TextSaysSteps text steps whole → InRows text rows → (r : Record)
    → panel_header ++ live_rows r 1 rows ≡ run_text (replies_of r steps) whole
unfolding run_text
run_printed {steps = steps} says rows r =
    let count : 1 + length steps ≡ length (replies_of r steps) + 1 = let told = replies_length r steps in omega arith in
    rw (rows_printed (rows_ask says rows refl) r 1, count)

-- and the frames are those of its events, no card being at any door before
frames_of : {text : List ℕ} {steps : List StepRow} {whole : Bool} {rows : List (List ℕ)} → TextSaysSteps text steps whole → InRows text rows → (r : Record) → Shaped r → Sound r
    → live_frames r (replicate most_doors 0) rows ≡ stream_of (line_events_in r steps)
unfolding zeros
frames_of says come r sh s = frames_written (rows_ask says come refl) r sh s 1 no_spells (replicate most_doors 0) (length-replicate {A = ℕ} most_doors 0) (λ d h. sym (zeros_at most_doors d))

pub comes_in_rows : (text : List ℕ) → ComesInRows text
comes_in_rows = text_comes

-- The rows of any text, however long, are answered as the steps that it says; the record afterwards is the one after them; and of a sound record the
-- frames are those of the run's events.
pub live_unlimited : (s : List ℕ) (from : ℕ) (rows : List (List ℕ)) → InRows (drop from s) rows → (r : Record)
    → (panel_header ++ live_rows r 1 rows ≡ ran_text r (steps_from s from)) × (live_last r rows ≡ last_of r (steps_from s from).rows)
    × (Shaped r → Sound r → live_frames r (replicate most_doors 0) rows ≡ stream_of (line_events_in r (steps_from s from).rows))
live_unlimited s from rows come r =
    (run_printed (steps_said s from) come r, rows_done (rows_ask (steps_said s from) come refl) r, λ sh sound. frames_of (steps_said s from) come r sh sound)

pub bad_row_stays : (r : Record) (row : List ℕ) → row_says row ≡ None → (step_asked r (asked_in row)).next ≡ r
bad_row_stays r row e = rw e (unknown_stays r 0 0)

pub refused_row_stays : (r : Record) (row : List ℕ) → (answer_no (step_asked r (asked_in row)).answer ≡ 0 → ⊥) → (step_asked r (asked_in row)).next ≡ r
refused_row_stays r row =
    let asked = asked_in row in
    step_cases (λ s. (answer_no s.answer ≡ 0 → ⊥) → s.next ≡ r) r asked.kind asked.door asked.person (λ a ph _ _. refl)
    (λ _ no. absurd (no (ap answer_no (act_done r asked.door (doing r asked.kind asked.door asked.person)))))

pub bad_row_printed : (n : ℕ) (row : List ℕ) (told : Told) → row_says row ≡ None → shown_row n (asked_in row) told ≡ panel_row n bad_form_no 0 0 0
unfolding shown_row
bad_row_printed n row told e = rw e

pub step_printed : (r : Record) (n : ℕ) (row : List ℕ) (k : Kind) (d p : ℕ) → row_says row ≡ Some (record { kind = k; at = d; person = p })
    → shown_row n (asked_in row) (told_by (step_asked r (asked_in row)))
    ≡ panel_row n (answer_no (step_of r k d p).answer) (step_of r k d p).phase (step_of r k d p).reason (step_of r k d p).held
unfolding shown_row
step_printed r n row k d p e = rw (e, says_a_step row e)

-- what is told of a step of any record is short
unsound_refused : (r : Record) (k : Kind) (d p : ℕ) → sound_b r ≡ false → step_of r k d p ≡ refused r Unsound 0
unfolding step_of
unsound_refused r k d p e = rw e

told_fits : (r : Record) → Shaped r → (n : ℕ) → n < 10 ^ 20 → (k : Kind) (d p : ℕ)
    → length (panel_row n (answer_no (step_of r k d p).answer) (step_of r k d p).phase (step_of r k d p).reason (step_of r k d p).held) ≤ 31
told_fits r sh n h k d p = go (sound_b r) refl
  where
    go : (b : Bool) → sound_b r ≡ b
        → length (panel_row n (answer_no (step_of r k d p).answer) (step_of r k d p).phase (step_of r k d p).reason (step_of r k d p).held) ≤ 31
    go true e =
        let s = (sound_tells r sh).yes e in
        let told = told_short r s k d p in
        let digits = digits_most 19 n h in
        let short = row_length n _ _ _ _ told.phase_short told.reason_short (told_digits r s k d p) in
        omega (arith, digits, short)
    go false e =
        let digits = digits_most 19 n h in
        let fourteen = two_digits 14 (omega arith) in
        let zero = one_digit_lem 0 (omega arith) in
        let short = row_length n 14 0 0 0 (omega arith) (omega arith) (omega arith) in
        rw (unsound_refused r k d p e) (omega (arith, digits, short))

pub row_fits_lem : (r : Record) → Shaped r → (n : ℕ) → n < 10 ^ 20 → (row : List ℕ) → length (shown_row n (asked_in row) (told_by (step_asked r (asked_in row)))) ≤ 31
unfolding shown_row
row_fits_lem r sh n h row =
    let asked = asked_in row in
    let digits = digits_most 19 n h in
    either (λ (t : List ℕ). length t ≤ 31) (is_step asked.kind) (λ _. told_fits r sh n h asked.kind asked.door asked.person)
    (λ _.
    let two = one_digit_lem 2 (omega arith) in
    let zero = one_digit_lem 0 (omega arith) in
    let short = row_length n 2 0 0 0 (omega arith) (omega arith) (omega arith) in
    omega arith)

-- what stands at the front of the list after a call is the row to print
front_is : {r : Record} {row : List ℕ} {n : ℕ} {before : List ℕ} {a : Attended} {next : Record} {after : List ℕ} → Attends r row n before a next after → Shaped r → n < 2 ^ 64
    → 31 ≤ length before → take a.length after ≡ shown_row n (asked_in row) (told_by (step_asked r (asked_in row)))
unfolding behind
front_is {r} {row} {n} {before} {a} called sh h room =
    let text = shown_row n (asked_in row) (told_by (step_asked r (asked_in row))) in
    let short = row_fits_lem r sh n (omega arith) row in
    let place : a.length ≡ behind 0 (length text) = called.wrote.place in
    let size : a.length ≡ length text = omega (arith, short, place) in
    front_of text before size (omega (arith, size, short, room)) called.wrote.list

pub rows_attended : {r : Record} {n : ℕ} {rows : List (List ℕ)} {text : List ℕ} {last : Record} → AttendedRows r n rows text last → Shaped r
    → (text ≡ live_rows r n rows) × (last ≡ live_last r rows)
unfolding live_rows live_last
rows_attended none_left sh = (refl, refl)
rows_attended (bad_form {r = r} {n = n} {row = row} {rows = rows} called h room bad) sh =
    let none : is_step (asked_in row).kind ≡ false = rw called.asked_is at bad in
    (rw none (front_is called sh h room ∙ sym (append-nil _)), rw none called.next_is)
rows_attended (a_step {r = r} {n = n} {row = row} {rows = rows} called h room good more) sh =
    let some : is_step (asked_in row).kind ≡ true = rw called.asked_is at good in
    let asked = asked_in row in
    let behind = rows_attended more (rw called.next_is (shaped_stays r asked.kind asked.door asked.person sh)) in
    (rw (some, front_is called sh h room, behind.0, called.next_is), rw (some, behind.1, called.next_is))

-- Whatever rows a steps sheet with its header comes in, what is written of them is what the programs print of the two sheets.
pub live_is_panel : (site steps : List ℕ) → (site_of site).verdict ≡ Accepted → {from : ℕ} → heading_of steps ≡ Rows from → (rows : List (List ℕ)) → InRows (drop from steps) rows
    → LiveIsPanel site steps rows
live_is_panel site steps taken {from} heading rows come =
    let number : 0 ≡ verdict_no (site_of site).verdict = rw taken in
    let fresh = (site_of site).«record» in
    let accepted = accepted_holds limit site taken in
    let said = steps_said steps from in
    let text = run_printed said come fresh ∙ panel_is site steps refl number refl heading in
    let places : record_text (live_last fresh rows) ≡ where_text site steps = rw (rows_done (rows_ask said come refl) fresh) (where_is site steps refl number refl heading) in
    record {
      text = text;
      places = places;
      calls = λ written last called. let so = rows_attended called accepted.shaped in (rw so.0 text, rw so.1 places);
      events = frames_of said come fresh accepted.shaped accepted.sound ∙ stream_is site steps refl number refl heading;
    }
