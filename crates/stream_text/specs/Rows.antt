-- The rows of a run in lent lists, as the crate `stream` goes through them. What it writes is said by `events_of` and no other definition.
use Rattle.std.specs.Prelude.{ℕ, ◌<◌, ◌≡◌, cond, List, map, length, get_or, eqb}
use Rattle.numbers.specs.Numbers.{done_no}
use Rattle.tables.specs.Tables.{most_doors}
use Rattle.phases.specs.declared.table.Kind.{Kind}
use Rattle.phases.specs.declared.table.Kind.TheVariants.{Card, Decide, Green, Red, Walk, Tick, Passed, Lapsed, Dark, Ack, Unknown}
use Rattle.phases.specs.Phase.{granted}
use Rattle.record.specs.Run.{rows_of}
use Rattle.run_events.specs.Lines.{Line, lines_of}
use Rattle.run_events.specs.Events.{Grant, Denial, event, meaning_of, no_spells, event_by, events_of}
use Rattle.run_text.specs.Printed.{replies_from}
use Rattle.syslog.specs.declared.Msgid.{Msgid}
use Rattle.syslog.specs.declared.LineEvent.{LineEvent}
use Rattle.syslog.specs.Line.{stream_of}
use Rattle.stream_text.specs.Stream.{line_event}

-- a step beside its reply
abbrev pub line_with : Kind → ℕ → ℕ → ℕ → ℕ → ℕ → ℕ → Line
line_with kind d p answer phase reason held =
    record { row = record { kind = kind; at = d; person = p }; reply = record { answer = answer; phase = phase; reason = reason; held = held } }

-- seven lent lists are the lines of a run
abbrev pub lines_from : List ℕ → List ℕ → List ℕ → List ℕ → List ℕ → List ℕ → List ℕ → List Line
lines_from kinds doors persons answers phases reasons held = lines_of (rows_of kinds doors persons) (replies_from answers phases reasons held)

-- and their events are a stream
abbrev pub stream_from : List ℕ → List ℕ → List ℕ → List ℕ → List ℕ → List ℕ → List ℕ → List ℕ
stream_from kinds doors persons answers phases reasons held = stream_of (map line_event (events_of no_spells 1 (lines_from kinds doors persons answers phases reasons held)))

-- the lists are as long as one another, and the door of a step that was done exists
pub record Heard (kinds doors persons answers phases reasons held : List ℕ) : Type 0 where
  pub doors_long : length doors ≡ length kinds
  pub persons_long : length persons ≡ length kinds
  pub answers_long : length answers ≡ length kinds
  pub phases_long : length phases ≡ length kinds
  pub reasons_long : length reasons ≡ length kinds
  pub held_long : length held ≡ length kinds
  pub exists : (i : ℕ) → i < length kinds → get_or answers i 0 ≡ done_no → get_or doors i 0 < most_doors

-- an event in the words of a line
abbrev pub line_words : Msgid → ℕ → ℕ → ℕ → ℕ → LineEvent
line_words id d p reason held = record { msgid = id; door = d; person = p; reason = reason; held = held }

-- the event of a `decide`: "1 to 2 or 6"
abbrev pub decided_event : ℕ → ℕ → ℕ → ℕ → ℕ → LineEvent
decided_event phase reason held d p = line_event (event 0 d p (cond (eqb phase granted) Grant (Denial reason held)))

-- what one step writes, a card of person p being at its door
unfoldable pub told_text : Kind → ℕ → ℕ → ℕ → ℕ → ℕ → ℕ → List ℕ
told_text kind answer phase reason held d p = stream_of (map line_event (event_by (meaning_of (line_with kind d 0 answer phase reason held)) 0 d p))

-- whose card is at the door after a step with this person was done: a `card` is taken, an `ack` frees the door
abbrev pub card_by : Kind → ℕ → ℕ → ℕ
card_by Card person was = person
card_by Ack person was = 0
card_by Decide person was = was
card_by Green person was = was
card_by Red person was = was
card_by Walk person was = was
card_by Tick person was = was
card_by Passed person was = was
card_by Lapsed person was = was
card_by Dark person was = was
card_by Unknown person was = was

unfoldable pub card_after : Kind → ℕ → ℕ → ℕ → ℕ
card_after kind answer person was = cond (eqb answer done_no) (card_by kind person was) was
