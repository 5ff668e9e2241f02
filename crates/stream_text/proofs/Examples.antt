-- The streams of specs/Examples.antt, computed from the bytes of the sheets. Assumes nothing.
use Prim.Native.Nat.{ℕ}
use mathlib.Core.Path.{◌≡◌, refl, sym, ap, ◌∙◌}
use mathlib.Core.List.{List, [], map}
use Rattle.tables.specs.Below.{or_at, least_below}
use Rattle.tables.specs.Tables.{or_else, and_also, may_be}
use Rattle.tables.specs.Zero.{zeros}
use Rattle.text.specs.Text.{digits, decimal}
use Rattle.phases.specs.Phase.{grants}
use Rattle.phases.specs.declared.table.StepRow.{StepRow}
use Rattle.phases.specs.Kinds.{allows}
use Rattle.door_does.specs.Does.{effect}
use Rattle.granting.specs.Grants.{grants_to, grant_of, has_grant}
use Rattle.granting.specs.Reasons.{first_reason, held_with}
use Rattle.deeds.specs.Deeds.{exist_among}
use Rattle.record.specs.Steps.{act, sound_step}
use Rattle.record.specs.Run.{Reply}
use Rattle.steps_sheet.specs.Says.{Steps}
use Rattle.steps_sheet.specs.Steps.{heading_of, steps_from}
use Rattle.steps_sheet.specs.Heading.{Rows}
use Rattle.run_events.specs.Lines.{lines_of, heard_of}
use Rattle.run_events.specs.Events.{meaning_by, meaning_of, spell_by, spells_after, no_spells, event_by, events_of}
use Rattle.run_text.specs.Examples.{site_header, site_sheet, steps_sheet, bad_row}
use Rattle.run_text.proofs.Examples.{sound_replies, sound_replies_lem, site_of_01, sites, steps_of01, one_card, headings, steps, shaped, sound, five_refused}
use Rattle.syslog.specs.Line.{line_of, framed_of, stream_of}
use Rattle.stream_text.specs.Stream.{line_event, line_events_in, events_text}
use Rattle.stream_text.specs.Examples.{grant_frame, deny_frame, pass_frame, StreamExamples}
use Rattle.stream_text.proofs.Sheets.{stream_refused, stream_is, wrong_stream}

-- the stream of a run, its steps computed
sound_stream : List StepRow → List ℕ
sound_stream rows = stream_of (map line_event (events_of no_spells 1 (lines_of rows (sound_replies site_of_01 rows))))

sound_stream_lem : (rows : List StepRow) → stream_of (line_events_in site_of_01 rows) ≡ sound_stream rows
unfolding sound_stream heard_of
sound_stream_lem rows = ap (λ (replies : List Reply). stream_of (map line_event (events_of no_spells 1 (lines_of rows replies)))) (sound_replies_lem rows site_of_01 shaped sound)

ran : (s : List ℕ) {x : Steps} → heading_of s ≡ Rows 18 → steps_from s 18 ≡ x → events_text site_sheet s ≡ sound_stream x.rows
ran s e f =
    sym (stream_is site_sheet s (sym sites.0) refl refl e) ∙ (ap (λ (x : Steps). stream_of (line_events_in site_of_01 x.rows)) f ∙ sound_stream_lem _)

streams : (sound_stream steps_of01.rows ≡ grant_frame 0 0 (deny_frame 1 0 1 (pass_frame 0 0 []))) × (sound_stream one_card.rows ≡ [])
unfolding sound_stream sound_replies steps_of01 one_card sound_step first_reason held_with effect act exist_among allows has_grant grant_of least_below or_at grants_to grants may_be and_also or_else zeros lines_of meaning_by meaning_of spell_by spells_after event_by events_of line_event line_of framed_of stream_of decimal digits
streams = (refl, refl)

pub stream_examples : StreamExamples
stream_examples =
    record {
      stream_of_01 = ran steps_sheet headings.0 steps.0 ∙ streams.0;
      bad_row_first = ran bad_row headings.1 steps.1 ∙ streams.1;
      wrong_header = sym (stream_is site_sheet [] (sym sites.0) refl refl refl) ∙ sym (wrong_stream site_of_01 [] headings.2);
      refused_site_lem = sym (stream_refused site_header steps_sheet (sym sites.1) refl five_refused);
    }
