-- The events of a run: "each grant, denial, passage and lapse" (02, C-11), and beside them the spell at each door, from a taken
-- card to its `ack`. Both are made from the lines alone, never from the record's inside.
use Rattle.std.specs.Prelude.{ℕ, ◌+◌, cond, List, [], ◌∷◌, ◌++◌, eqb}
use Rattle.record.specs.declared.record.Record.{Record}
use Rattle.phases.specs.declared.table.Kind.{Kind}
use Rattle.phases.specs.declared.table.Kind.TheVariants.{Card, Decide, Green, Red, Walk, Tick, Passed, Lapsed, Dark, Ack, Unknown}
use Rattle.phases.specs.Phase.{granted}
use Rattle.phases.specs.declared.table.StepRow.{StepRow}
use Rattle.record.specs.Run.{Reply}
use Rattle.run_events.specs.Lines.{Line, heard_of}

-- what happens to a card: it is granted, or denied with a reason and the door told with it; a grant ends by a passage or a lapse
pub data What : Type 0 where
  Grant : What
  Denial : ℕ → ℕ → What
  Passage : What
  Lapse : What

-- an event: its row (1 for the first step), its door, the card's person, and what it is
pub record RunEvent : Type 0 where
  pub row : ℕ
  pub at : ℕ
  pub person : ℕ
  pub what : What

abbrev pub event : ℕ → ℕ → ℕ → What → RunEvent
event row at person what = record { row = row; at = at; person = person; what = what }

-- ---- what a line means for the card at its door

-- a card is taken, something happens to it, the door is free again, or nothing
pub data Meaning : Type 0 where
  Taken : Meaning
  Happened : What → Meaning
  Freed : Meaning
  Nothing : Meaning

-- the meaning of a step that was done
unfoldable pub meaning_by : Kind → Reply → Meaning
-- "a `card` answered 11 or 12 was never taken": this one was
meaning_by Card reply = Taken
-- "`decide`: 1 to 2 or 6", "and the reason (0 unless `decide` denied)", with its door (02, C-12)
meaning_by Decide reply = Happened (cond (eqb reply.phase granted) Grant (Denial reply.reason reply.held))
-- "A refusal is recorded by the `decide` that denied, a passage by `passed`, a lapse by `lapsed`."
meaning_by Passed reply = Happened Passage
meaning_by Lapsed reply = Happened Lapse
-- "`ack`: 9 to 0"
meaning_by Ack reply = Freed
meaning_by Green reply = Nothing
meaning_by Red reply = Nothing
meaning_by Walk reply = Nothing
meaning_by Tick reply = Nothing
meaning_by Dark reply = Nothing
meaning_by Unknown reply = Nothing

-- the meaning of a line: a refused step means nothing
unfoldable pub meaning_of : Line → Meaning
meaning_of line = cond (eqb line.reply.answer 0) (meaning_by line.row.kind line.reply) Nothing

-- ---- the spell at a door

-- how far a card has come: there is none, it isn't decided, or this happened to it last
pub data Stage : Type 0 where
  NoCard : Stage
  Awaited : Stage
  After : What → Stage

-- a spell: the row in which its card was taken, the card's person, and how far it has come
pub record Spell : Type 0 where
  pub row : ℕ
  pub person : ℕ
  pub stage : Stage

abbrev pub spell : ℕ → ℕ → Stage → Spell
spell row person stage = record { row = row; person = person; stage = stage }

abbrev pub no_spell : Spell
no_spell = spell 0 0 NoCard

-- the spell at a door after a line of this meaning, in row n and with this person
unfoldable pub spell_by : Meaning → ℕ → ℕ → Spell → Spell
spell_by Taken n person was = spell n person Awaited
spell_by (Happened what) n person was = spell was.row was.person (After what)
spell_by Freed n person was = no_spell
spell_by Nothing n person was = was

-- the spells at all doors after the line of row n
unfoldable pub spells_after : (ℕ → Spell) → ℕ → Line → ℕ → Spell
spells_after spells n line d =
    cond (eqb d line.row.at) (spell_by (meaning_of line) n line.row.person (spells d)) (spells d)

-- after a list of lines from row n on
unfoldable pub spells_of : (ℕ → Spell) → ℕ → List Line → ℕ → Spell
spells_of spells n [] = spells
spells_of spells n (line ∷ lines) = spells_of (spells_after spells n line) (n + 1) lines

-- and before the first
abbrev pub no_spells : ℕ → Spell
no_spells d = no_spell

-- ---- the events

-- the event of a line of this meaning, in row n, at door d with a card of this person
unfoldable pub event_by : Meaning → ℕ → ℕ → ℕ → List RunEvent
event_by (Happened what) n d person = event n d person what ∷ []
event_by Taken n d person = []
event_by Freed n d person = []
event_by Nothing n d person = []

-- the events of a list of lines from row n on: each is of the person whose card is at the door of its line
unfoldable pub events_of : (ℕ → Spell) → ℕ → List Line → List RunEvent
events_of spells n [] = []
events_of spells n (line ∷ lines) =
    event_by (meaning_of line) n line.row.at (spells line.row.at).person ++ events_of (spells_after spells n line) (n + 1) lines

-- the events of the run of a list of steps, and the spells at its end
abbrev pub events_in : Record → List StepRow → List RunEvent
events_in fresh rows = events_of no_spells 1 (heard_of fresh rows)

abbrev pub spells_in : Record → List StepRow → ℕ → Spell
spells_in fresh rows = spells_of no_spells 1 (heard_of fresh rows)
