-- Which stream two sheets have, and what is heard of the run of lent lists. Assumes nothing.
use Prim.Native.Nat.{ℕ, zero, suc, ◌≤◌, ◌<◌}
use mathlib.Core.Path.{◌≡◌, refl, sym, ap, ◌∙◌, subst}
use mathlib.Core.Bool.{true}
use mathlib.Core.List.{List, [], ◌∷◌, map}
use native.Mathlib.Omega.{arith}
use borrow.Author.Tests.{ne_eqb, le-leb}
use lib.Dec.{leb}
use lib.ListN.{length, get_or, take, length-map}
use Rattle.std.specs.Prelude.{Ok, Err}
use Rattle.tables.specs.Tables.{most_doors}
use Rattle.phases.specs.declared.answer.Answer.{Answer}
use Rattle.phases.specs.declared.answer.Answer.TheVariants.{Done, NoSuch, NotAllowed, TooShort, Unsound}
use Rattle.phases.specs.Answers.{answer_no}
use Rattle.phases.specs.declared.table.StepRow.{StepRow}
use Rattle.record.specs.declared.record.Record.{Record}
use Rattle.record.specs.Doors.{Shaped}
use Rattle.record.specs.Sound.{Sound}
use Rattle.record.specs.SoundTest.{sound_b}
use Rattle.record.specs.Run.{Reply, row_of, rows_of, room_in, telling_of, replies_of, answer_told, phase_told, reason_told, held_told}
use Rattle.record.proofs.Laws.{done_did, sound_stays, shaped_stays}
use Rattle.record.proofs.Tells.{sound_tells}
use Rattle.site_sheet.specs.Site.{SiteRead, site_told}
use Rattle.site_sheet.specs.Site.{site_of, verdict_no}
use Rattle.text.specs.Printed.{fits_in, printed_of, written, Prints}
use Rattle.steps_sheet.specs.Heading.{Heading, heading_told}
use Rattle.steps_sheet.specs.Heading as heading
use Rattle.steps_sheet.specs.declared.Unheaded.{Unheaded}
use Rattle.steps_sheet.specs.Heading.{TooLong, Wrong}
use Rattle.steps_sheet.specs.Says.{Steps}
use Rattle.steps_sheet.specs.Steps.{heading_of}
use Rattle.run_text.proofs.Serving.{front_of, has_room, ran_told, told_length, parts_back, rows_back, Decodes}
use Rattle.run_events.specs.Lines.{heard_of}
use Rattle.run_events.specs.Events.{events_in}
use Rattle.syslog.specs.Line.{stream_of}
use Rattle.stream_text.specs.Stream.{line_event, line_events_in, steps_events, sheet_events, events_text}
use Rattle.stream_text.specs.Rows.{stream_from, Heard}
use Rattle.verdict.specs.declared.SiteRefused.{SiteRefused}
use Rattle.verdict.specs.Verdict.{Accepted}
use Rattle.verdict.specs.Numbers.{verdict_no}
use Rattle.verdict.proofs.Told.{accepted_told, refused_told, refused_not_done}

-- ---- two sheets

-- "For each grant, denial, passage and lapse the panel writes one"
pub lines_are : (r : Record) (rows : List StepRow) → line_events_in r rows ≡ map line_event (events_in r rows)
lines_are r rows = refl

-- a sheet that can't be run has no events
module _ (r : Record) (steps : List ℕ) where
  pub long_none : steps_events r steps TooLong ≡ []
  long_none = refl

  pub wrong_none : steps_events r steps Wrong ≡ []
  wrong_none = refl

module _ (site steps : List ℕ) {read : SiteRead} {n : ℕ} (is : read ≡ site_of site) (number : n ≡ verdict_no read.verdict) where
  number_is : verdict_no (site_of site).verdict ≡ n
  number_is = ap (λ (x : SiteRead). verdict_no x.verdict) (sym is) ∙ sym number

  pub stream_refused : (n ≡ 0 → ⊥) → [] ≡ events_text site steps
  unfolding events_text sheet_events stream_of
  stream_refused other = rw (number_is, ne_eqb _ _ other)

  pub stream_is : n ≡ 0 → {h : Heading} → heading_of steps ≡ h → stream_of (steps_events read.«record» steps h) ≡ events_text site steps
  unfolding events_text sheet_events
  stream_is z e = rw (number_is, z, e, is)

-- the same by what is handed out of a site sheet: the fresh record,
module _ (site steps : List ℕ) {fresh : Record} (told : Ok fresh ≡ site_told (site_of site)) where
  accepted_with : ((site_of site).verdict ≡ Accepted) × ((site_of site).«record» ≡ fresh)
  accepted_with = accepted_told _ _ told

  pub stream_told : {h : Heading} → heading_of steps ≡ h → stream_of (steps_events fresh steps h) ≡ events_text site steps
  stream_told {h} e =
      subst (λ (r : Record). stream_of (steps_events r steps h) ≡ events_text site steps) accepted_with.1
      (stream_is site steps refl refl (ap verdict_no accepted_with.0) e)

-- or the refusal
module _ (site steps : List ℕ) {refusal : SiteRefused} (told : Err refusal ≡ site_told (site_of site)) where
  pub stream_refusal : [] ≡ events_text site steps
  stream_refusal = stream_refused site steps refl (ap verdict_no (sym (refused_told _ _ told))) (refused_not_done refusal)

-- and so an empty stream
module _ (r : Record) (steps : List ℕ) where
  pub long_stream : heading_of steps ≡ TooLong → [] ≡ stream_of (steps_events r steps (heading_of steps))
  unfolding stream_of
  long_stream e = rw e

  pub wrong_stream : heading_of steps ≡ Wrong → [] ≡ stream_of (steps_events r steps (heading_of steps))
  unfolding stream_of
  wrong_stream e = rw e

  pub unheaded_stream : (h : Heading) {unheaded : Unheaded} → Err unheaded ≡ heading_told h → [] ≡ stream_of (steps_events r steps h)
  unfolding stream_of
  unheaded_stream heading.TooLong e = refl
  unheaded_stream heading.Wrong e = refl
  unheaded_stream (heading.Rows from) e = absurd (cc)

-- which is printed into every list
pub nothing_printed : (text out : List ℕ) → [] ≡ text → Prints text out (Ok 0) out
unfolding fits_in printed_of written
nothing_printed text out e =
    let fit : leb 0 (length out) ≡ true = le-leb 0 (length out) (omega arith) in record { answer = rw (← e, fit); list = rw (← e, fit) }

-- ---- a run in lent lists

done_0 : (a : Answer) → answer_no a ≡ 0 → a ≡ Done
done_0 Done e = refl
done_0 NoSuch e = absurd (omega arith)
done_0 NotAllowed e = absurd (omega arith)
done_0 TooShort e = absurd (omega arith)
done_0 Unsound e = absurd (omega arith)

-- the door of a step that was done exists
pub done_door : (r : Record) → Sound r → (row : StepRow) → answer_no (row_of r row).answer ≡ 0 → row.at < most_doors
done_door r s row e =
    let there = (done_did r row.kind row.at row.person (done_0 _ e)).0.a_door in
    let most = s.tables.in_range.doors_to in
    omega arith

door_exists : (rows : List StepRow) (r : Record) → Shaped r → Sound r → (i : ℕ) → i < length rows → get_or (map answer_told (replies_of r rows)) i 0 ≡ 0
    → get_or (map (λ (row : StepRow). row.at) rows) i 0 < most_doors
unfolding replies_of
door_exists [] r sh s i h e = absurd (omega arith)
door_exists (row ∷ rows) r sh s zero h e = done_door r s row e
door_exists (row ∷ rows) r sh s (suc i) h e =
    door_exists rows (row_of r row).next (shaped_stays r row.kind row.at row.person sh) (sound_stays r row.kind row.at row.person sh s) i
    (omega arith) e

-- the doors of three lists of one length are the second
rows_doors : (kinds doors persons : List ℕ) → length doors ≡ length kinds → length persons ≡ length kinds
    → map (λ (row : StepRow). row.at) (rows_of kinds doors persons) ≡ doors
unfolding rows_of
rows_doors [] [] persons d p = refl
rows_doors [] (x ∷ doors) persons d p = absurd (omega arith)
rows_doors (k ∷ kinds) [] persons d p = absurd (omega arith)
rows_doors (k ∷ kinds) (x ∷ doors) [] d p = absurd (omega arith)
rows_doors (k ∷ kinds) (x ∷ doors) (y ∷ persons) d p = ap (λ (l : List ℕ). x ∷ l) (rows_doors kinds doors persons (omega arith) (omega arith))

-- what is heard of a run in lent lists, and its stream
pub record HeardOf (r : Record) (kinds doors persons answers phases reasons held : List ℕ) : Type 0 where
  pub heard : Heard kinds doors persons answers phases reasons held
  pub stream : stream_from kinds doors persons answers phases reasons held ≡ stream_of (line_events_in r (rows_of kinds doors persons))

-- what a run's lists of answers, phases, reasons and held doors have behind a run with room for them
abbrev Behind : Record → List ℕ → List ℕ → List ℕ → (answers phases reasons held : List ℕ) → (Reply → ℕ) → List ℕ → List ℕ → Type 0
Behind r kinds doors persons answers phases reasons held tell list after =
    after ≡ telling_of r (room_in kinds doors persons answers phases reasons held) (map tell (replies_of r (rows_of kinds doors persons))) list

module _ (r : Record) (kinds doors persons : List ℕ) (d : length doors ≡ length kinds) (p : length persons ≡ length kinds) where
  rows_long : length (rows_of kinds doors persons) ≡ length kinds
  rows_long = sym (length-map (rows_of kinds doors persons) (λ (row : StepRow). row.at)) ∙ (ap length (rows_doors kinds doors persons d p) ∙ d)

  heard_so : Shaped r → sound_b r ≡ true → {answers phases reasons held : List ℕ} → answers ≡ map answer_told (replies_of r (rows_of kinds doors persons))
      → phases ≡ map phase_told (replies_of r (rows_of kinds doors persons)) → reasons ≡ map reason_told (replies_of r (rows_of kinds doors persons))
      → held ≡ map held_told (replies_of r (rows_of kinds doors persons))
      → HeardOf r kinds doors persons answers phases reasons held
  unfolding heard_of
  heard_so sh s a ph why with_door_lem =
      record {
        heard = record {
          doors_long = d;
          persons_long = p;
          answers_long = rw a (told_length answer_told r _ ∙ rows_long);
          phases_long = rw ph (told_length phase_told r _ ∙ rows_long);
          reasons_long = rw why (told_length reason_told r _ ∙ rows_long);
          held_long = rw with_door_lem (told_length held_told r _ ∙ rows_long);
          exists = λ i h e.
              rw (rows_doors kinds doors persons d p) at
              (door_exists (rows_of kinds doors persons) r sh ((sound_tells r sh).yes s) i (rw rows_long h) (rw a at e));
        };
        stream = rw (a, ph, why, with_door_lem, parts_back (replies_of r (rows_of kinds doors persons)));
      }

  pub run_heard : Shaped r → sound_b r ≡ true → (answers phases reasons held : List ℕ) → length kinds ≤ length answers → length kinds ≤ length phases
      → length kinds ≤ length reasons → length kinds ≤ length held → {answers' phases' reasons' held' : List ℕ} → Behind r kinds doors persons answers phases reasons held answer_told answers answers'
      → Behind r kinds doors persons answers phases reasons held phase_told phases phases' → Behind r kinds doors persons answers phases reasons held reason_told reasons reasons'
      → Behind r kinds doors persons answers phases reasons held held_told held held'
      → HeardOf r kinds doors persons (take (length kinds) answers') (take (length kinds) phases') (take (length kinds) reasons') (take (length kinds) held')
  run_heard sh s answers phases reasons held ha hf hr hh a ph why with_door_lem =
      let room : room_in kinds doors persons answers phases reasons held ≡ true = rw (d, p) (has_room (length kinds) _ _ _ _ ha hf hr hh) in
      let long : (tell : Reply → ℕ) → length kinds ≡ length (map tell (replies_of r (rows_of kinds doors persons))) =
      λ tell. sym (told_length tell r (rows_of kinds doors persons) ∙ rows_long) in
      heard_so sh s (front_of _ answers (long answer_told) ha (ran_told r _ _ answers s room a)) (front_of _ phases (long phase_told) hf (ran_told r _ _ phases s room ph))
      (front_of _ reasons (long reason_told) hr (ran_told r _ _ reasons s room why)) (front_of _ held (long held_told) hh (ran_told r _ _ held s room with_door_lem))

-- the fronts of three decoded lists are the steps of the sheet
pub decoded_rows : {steps : Steps} {count : ℕ} {kinds doors persons : List ℕ} → Decodes steps count kinds doors persons
    → rows_of (take count kinds) (take count doors) (take count persons) ≡ steps.rows
decoded_rows {steps} d = rw (d.kinds_are, d.doors_are, d.persons_are) (rows_back steps.rows)
