-- Demand 1 of what the programs print: no text is too long for the list that its program lends. Assumes nothing.
use Prim.Native.Nat.{ℕ, ◌+◌, ◌*◌, ◌≤◌, ◌<◌}
use mathlib.Core.Path.{◌≡◌, refl, sym, ap, ◌∙◌}
use mathlib.Core.Bool.{Bool, true, false, true≢false, cond}
use mathlib.Core.List.{List, []}
use native.Mathlib.Omega.{arith}
use borrow.Author.Tests.{eqb-true, leb-true, leb-false}
use lib.Dec.{eqb, ltb, leb}
use lib.ListN.{length, get_or, take, replicate, length-append}
use lib.Seq.{get_or-take, length-take-le}
use Rattle.tables.specs.Tables.{Plan, most_people, most_locations, may_be, or_else, and_also}
use Rattle.site_lines.specs.Draft.{unmarked}
use Rattle.site_lines.proofs.Held.{unmarked_at}
use Rattle.record.specs.declared.record.Record.{Record}
use Rattle.record.specs.Doors.{Shaped}
use Rattle.record.specs.Sound.{Sound}
use Rattle.tables.proofs.Cases.{either}
use Rattle.record.proofs.Laws.{run_sound, run_plan}
use Rattle.site_sheet.specs.Site.{site_of, verdict_no}
use Rattle.grammar.specs.Sizes.{limit}
use Rattle.site_sheet.specs.Accepted.{AcceptedRecord}
use Rattle.site_sheet.proofs.Theorems.{accepted_holds, accepted_people}
use Rattle.steps_sheet.specs.Heading.{Heading}
use Rattle.steps_sheet.specs.Heading as heading
use Rattle.steps_sheet.specs.Steps.{heading_of, steps_from}
use Rattle.steps_sheet.proofs.Theorems.{few_steps, headed_short}
use Rattle.run_text.specs.Printed.{panel_header, where_header, panel_row, alone_text, ran_text, steps_text, panel_text, place_rows, places_text, record_text, last_record, where_text}
use Rattle.blank_lists.specs.{most_panel_text, most_where_text}
use Rattle.stream_text.specs.Stream.{events_text}
use Rattle.stream_text.proofs.Theorems.{events_text_fits}
use Rattle.text.proofs.Decimal.{one_digit_lem, two_digits}
use Rattle.run_text.proofs.Fits.{row_short, run_short, places_short}
use Rattle.run_text.proofs.Sheets.{zero_accepted}
use Rattle.sheet_answers.proofs.Texts.{text_tells, blank_long, in_blank}
use Rattle.syslog_answers.proofs.Answers.{read_events_fits}
use Rattle.tables.proofs.Laws.{no_right_past}
use Rattle.demands.specs.DemandOne.{RunAnswers}
use Rattle.demands.proofs.DemandOne.{number_most}

alone_fits : (n : ℕ) → n ≤ 10 → length (alone_text n) ≤ most_panel_text
unfolding alone_text
alone_fits n h =
    let l = length-append panel_header (panel_row 0 n 0 0 0) in
    let a = two_digits n (omega arith) in
    let z = one_digit_lem 0 (omega arith) in
    let w = row_short 0 n 0 0 0 (omega arith) (omega arith) (omega arith) (omega arith) in
    omega arith

ran_fits : (r : Record) → Shaped r → Sound r → (s : List ℕ) (from : ℕ) → length s ≤ limit → length (ran_text r (steps_from s from)) ≤ most_panel_text
ran_fits r sh s sheet from h =
    let most = few_steps sheet from in
    let short = run_short r sh s (steps_from sheet from).rows (steps_from sheet from).whole (omega (arith, most)) in
    omega (arith, most, short)

steps_fit : (site : List ℕ) → AcceptedRecord limit site → (steps : List ℕ) (h : Heading) → heading_of steps ≡ h
    → length (steps_text (site_of site).«record» steps h) ≤ most_panel_text
steps_fit site a steps heading.TooLong e = alone_fits 1 (omega arith)
steps_fit site a steps heading.Wrong e = alone_fits 2 (omega arith)
steps_fit site a steps (heading.Rows from) e = ran_fits (site_of site).«record» a.shaped a.sound steps from (headed_short limit steps e)

panel_fits : (site steps : List ℕ) → length (panel_text site steps) ≤ most_panel_text
unfolding panel_text
panel_fits site steps =
    either (λ (t : List ℕ). length t ≤ most_panel_text) (eqb (verdict_no (site_of site).verdict) 0)
    (λ z. steps_fit site (accepted_holds limit site (zero_accepted (site_of site).verdict (eqb-true _ _ z))) steps (heading_of steps) refl)
    (λ _. alone_fits (verdict_no (site_of site).verdict) (number_most (site_of site).verdict))

-- everyone is in a location of the site
place_small : (r : Record) → Sound r → (p : ℕ) → p < r.people → get_or r.place p 0 < 100
place_small r s p h = go (leb most_locations (get_or r.place p 0)) refl
  where
    go : (q : Bool) → leb most_locations (get_or r.place p 0) ≡ q → get_or r.place p 0 < 100
    go true q = absurd (true≢false (sym (s.placed p h) ∙ no_right_past r.right p (get_or r.place p 0) (leb-true _ _ q)))
    go false q = let l = leb-false most_locations (get_or r.place p 0) q in omega arith

record_fits : (r : Record) → Sound r → r.people ≤ most_people → length (record_text r) ≤ most_where_text
unfolding places_text
record_fits r s few =
    let people = s.tables.in_range.people_to in
    let n = length-take-le r.people r.place (omega arith) in
    let l = length-append where_header (place_rows 0 (take r.people r.place)) in
    let short = places_short (take r.people r.place) 0 (omega arith) (λ i k. rw (get_or-take r.people r.place i 0 (omega arith)) (place_small r s i (omega arith))) in
    omega arith

last_fits_where : (site : List ℕ) → AcceptedRecord limit site → (steps : List ℕ) (h : Heading) → length (record_text (last_record (site_of site).«record» steps h)) ≤ most_where_text
last_fits_where site a steps heading.TooLong = record_fits (site_of site).«record» a.sound (accepted_people a)
last_fits_where site a steps heading.Wrong = record_fits (site_of site).«record» a.sound (accepted_people a)
last_fits_where site a steps (heading.Rows from) =
    let rows = (steps_from steps from).rows in
    record_fits _ (run_sound (site_of site).«record» rows a.shaped a.sound)
    (rw (ap (λ (plan : Plan). plan.people) (run_plan (site_of site).«record» rows)) (accepted_people a))

none_fit : length (places_text []) ≤ most_where_text
unfolding places_text place_rows
none_fit = omega arith

where_fits : (site steps : List ℕ) → length (where_text site steps) ≤ most_where_text
unfolding where_text
where_fits site steps =
    either (λ (t : List ℕ). length t ≤ most_where_text) (eqb (verdict_no (site_of site).verdict) 0)
    (λ z. last_fits_where site (accepted_holds limit site (zero_accepted (site_of site).verdict (eqb-true _ _ z))) steps (heading_of steps))
    (λ _. none_fit)

no_more_written : (list : List ℕ) (n : ℕ) → cond (leb n (length list)) n 0 ≤ length list
no_more_written list n = either (λ (m : ℕ). m ≤ length list) (leb n (length list)) (λ h. leb-true n (length list) h) (λ _. omega arith)

nobody_may : (p l : ℕ) → may_be (replicate (most_people * most_locations) false) p l ≡ eqb l 0
unfolding may_be or_else and_also unmarked
nobody_may p l = rw (unmarked_at (most_people * most_locations) (p * most_locations + l)) (go (eqb l 0) (ltb l most_locations))
  where
    go : (a b : Bool) → or_else a (and_also b false) ≡ a
    go true b = refl
    go false true = refl
    go false false = refl

pub of_run : RunAnswers
of_run =
    record {
      panel_text_lem = λ site steps out told after w. text_tells w;
      where_text_lem = λ site steps out told after w. text_tells w;
      events_text_lem = λ site steps out told after w. text_tells w;
      blank_sheet = λ s h. let l = blank_long (limit + 1) in omega arith;
      blank_rights = nobody_may;
      write_text = no_more_written;
      panel_fits = panel_fits;
      where_fits = where_fits;
      events_fits = events_text_fits;
      read_events_fits = read_events_fits;
      blank_panel_text = λ site steps. in_blank (panel_text site steps) (panel_fits site steps);
      blank_where_text = λ site steps. in_blank (where_text site steps) (where_fits site steps);
      blank_events_text = λ site steps. in_blank (events_text site steps) (events_text_fits site steps);
    }
