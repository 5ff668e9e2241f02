-- The frames that are written beside the rows that come are those of the run's events. Assumes nothing.
use Prim.Native.Nat.{ℕ, ◌+◌}
use mathlib.Core.Path.{◌≡◌, refl, sym, ◌∙◌}
use mathlib.Core.Bool.{Bool, true}
use mathlib.Core.List.{List, [], ◌∷◌, ◌++◌, map}
use lib.ListN.{length, length-set}
use Rattle.tables.specs.Tables.{most_doors}
use Rattle.phases.specs.declared.table.StepRow.{StepRow}
use Rattle.record.specs.declared.record.Record.{Record}
use Rattle.record.specs.Doors.{Shaped}
use Rattle.record.specs.Sound.{Sound}
use Rattle.record.specs.Run.{row_of, reply_by, replies_of}
use Rattle.record.proofs.Laws.{shaped_stays, sound_stays}
use Rattle.steps_sheet.specs.Steps.{is_step}
use Rattle.run_events.specs.Lines.{Line, lines_of, heard_of}
use Rattle.run_events.specs.Events.{Spell, meaning_of, spells_after, event_by, events_of}
use Rattle.syslog.specs.Line.{stream_of}
use Rattle.stream_text.specs.Stream.{line_event}
use Rattle.stream_text.proofs.Rows.{Cards, cards_after_lem, stream_both, line_writes}
use Rattle.stream_text.proofs.Sheets.{done_door}
use Rattle.attend.specs.Attend.{asked_in}
use Rattle.attend.specs.Live.{frame_of, cards_after, live_frames}
use Rattle.attend.proofs.Live.{asked_for, nothing_asked, RowsAsk, all_answered, by_step, by_bad_form}

-- the fold over the rows that come, one row at a time
module _ (r : Record) (cards row : List ℕ) (rows : List (List ℕ)) where
  frames_step : (step : StepRow) → asked_in row ≡ asked_for step → is_step step.kind ≡ true
      → live_frames r cards (row ∷ rows) ≡ frame_of cards (asked_for step) (row_of r step) ++ live_frames (row_of r step).next (cards_after cards (asked_for step) (row_of r step)) rows
  unfolding live_frames
  frames_step step e is = rw (e, is)

  frames_bad : asked_in row ≡ nothing_asked → live_frames r cards (row ∷ rows) ≡ []
  unfolding live_frames
  frames_bad e = rw e

-- a step beside its reply
abbrev line_of : Record → StepRow → Line
line_of r step = record { row = step; reply = reply_by (row_of r step) }

-- the frames written beside rows that come are those of the steps' events, where the list has the person of each door's card
pub frames_written : {steps : List StepRow} {whole : Bool} {rows : List (List ℕ)} → RowsAsk steps whole rows → (r : Record) → Shaped r → Sound r → (n : ℕ) (spells : ℕ → Spell)
    (cards : List ℕ) → length cards ≡ most_doors → Cards spells cards → live_frames r cards rows ≡ stream_of (map line_event (events_of spells n (heard_of r steps)))
unfolding live_frames replies_of lines_of heard_of events_of stream_of
frames_written all_answered r sh s n spells cards long shown = refl
frames_written (by_step {step = step} {steps = steps} {row = row} {rows = rows} asked is more) r sh s n spells cards long shown =
    let line = line_of r step in
    let frame = line_writes line n spells cards shown (done_door r s step) in
    let behind =
    frames_written more (row_of r step).next (shaped_stays r step.kind step.at step.person sh) (sound_stays r step.kind step.at step.person sh s)
    (n + 1) (spells_after spells n line) (cards_after cards (asked_for step) (row_of r step)) (length-set cards _ _ ∙ long) (cards_after_lem spells n line cards long shown) in
    frames_step r cards row rows step asked is
    ∙ (rw (behind, ← frame) (sym (stream_both (event_by (meaning_of line) n step.at (spells step.at).person) (events_of (spells_after spells n line) (n + 1) (heard_of (row_of r step).next steps)))))
frames_written (by_bad_form {row = row} {rows = rows} asked) r sh s n spells cards long shown = frames_bad r cards row rows asked
