-- The syslog stream of a run, from the bytes of the two sheets. 02, C-11: "Installers collect doors and pumps in one place", "For each
-- grant, denial, passage and lapse the panel writes one [line]".
use Rattle.std.specs.Prelude.{ℕ, ◌*◌, Bool, true, false, cond, List, [], ◌∷◌, map, get_or, set, eqb}
use Rattle.numbers.specs.Numbers.{done_no}
use Rattle.phases.specs.declared.table.StepRow.{StepRow}
use Rattle.record.specs.declared.record.Record.{Record}
use Rattle.site_sheet.specs.Site.{SiteRead}
use Rattle.site_sheet.specs.Site.{site_of, verdict_no}
use Rattle.steps_sheet.specs.Heading.{Heading}
use Rattle.steps_sheet.specs.Heading.{TooLong, Wrong, Rows}
use Rattle.steps_sheet.specs.Steps.{heading_of, steps_from}
use Rattle.steps_sheet.specs.Lent.{most_steps}
use Rattle.run_events.specs.Events.{What, Grant, Denial, Passage, Lapse, RunEvent, events_in}
use Rattle.syslog.specs.declared.Msgid.{Msgid}
use Rattle.syslog.specs.declared.Msgid.TheVariants as msgid
use Rattle.syslog.specs.declared.LineEvent.{LineEvent}
use Rattle.syslog.specs.Line.{stream_of}

-- ---- an event of a run, as its line has it

-- "The four MSGIDs are GRANT, DENY, PASS, LAPSE."
abbrev pub msgid_of : What → Msgid
msgid_of Grant = msgid.Grant
msgid_of (Denial why held) = msgid.Deny
msgid_of Passage = msgid.Pass
msgid_of Lapse = msgid.Lapse

-- "a denial, which adds ` reason=` and the number"; all else has none
abbrev pub reason_of : What → ℕ
reason_of Grant = 0
reason_of (Denial why held) = why
reason_of Passage = 0
reason_of Lapse = 0

-- 02, C-12: "DENY lines with reason 3 end in ` held=` and the door", which the run tells with the reason; all else has none
abbrev pub held_by : What → ℕ
held_by Grant = 0
held_by (Denial why held) = held
held_by Passage = 0
held_by Lapse = 0

-- `door=3 person=1`: its door and the card's person; a line doesn't tell the row
unfoldable pub line_event : RunEvent → LineEvent
line_event e = record { msgid = msgid_of e.what; door = e.at; person = e.person; reason = reason_of e.what; held = held_by e.what }

-- ---- the events of two sheets

-- "For each grant, denial, passage and lapse the panel writes one": of the run of a list of steps, in the order of its rows
abbrev pub line_events_in : Record → List StepRow → List LineEvent
line_events_in fresh rows = map line_event (events_in fresh rows)

-- none where the steps sheet is long or wrongly headed; else up to the row of bad form, where there is one
abbrev pub steps_events : Record → List ℕ → Heading → List LineEvent
steps_events r steps TooLong = []
steps_events r steps Wrong = []
steps_events r steps (Rows from) = line_events_in r (steps_from steps from).rows

-- and none where the site is refused
abbrev pub site_events : SiteRead → List ℕ → List LineEvent
site_events read steps = cond (eqb (verdict_no read.verdict) done_no) (steps_events read.«record» steps (heading_of steps)) []

unfoldable pub sheet_events : List ℕ → List ℕ → List LineEvent
sheet_events site steps = site_events (site_of site) steps

-- What `events` prints: "On a stream the octet count of RFC 6587 stands in front".
unfoldable pub events_text : List ℕ → List ℕ → List ℕ
events_text site steps = stream_of (sheet_events site steps)

-- No stream is longer: a sheet has at most so many steps, a step gives one event or none, and a frame has at most 58 bytes.
abbrev pub most_stream_text : ℕ
most_stream_text = 58 * most_steps

-- ---- what a collector makes of a stream

unfoldable pub is_pass : Msgid → Bool
is_pass msgid.Grant = false
is_pass msgid.Deny = false
is_pass msgid.Pass = true
is_pass msgid.Lapse = false

-- everyone's places after these events: each PASS puts its person in its door's destination, and nothing else moves anybody
unfoldable pub collected : List ℕ → List ℕ → List LineEvent → List ℕ
collected destination place [] = place
collected destination place (e ∷ es) =
    collected destination (cond (is_pass e.msgid) (set place e.person (get_or destination e.door 0)) place) es
