-- What holds of the events and the spells of a run: they are what the record's inside has. Here the record is looked into.
use Rattle.std.specs.Prelude.{ℕ, ◌+◌, ◌≡◌, Bool, true, false, cond, List, [], ◌∷◌, ◌++◌, map, get_or, eqb}
use Rattle.tables.specs.Tables.{and_also}
use Rattle.door.specs.declared.Door.{Door}
use Rattle.record.specs.declared.record.Record.{Record}
use Rattle.phases.specs.declared.table.Kind.{Kind}
use Rattle.phases.specs.declared.table.Kind.TheVariants.{Card, Decide, Green, Red, Walk, Tick, Passed, Lapsed, Dark, Ack, Unknown}
use Rattle.phases.specs.declared.answer.Answer.TheVariants.{Done}
use Rattle.phases.specs.Answers.{answer_no}
use Rattle.phases.specs.Phase.{free, read, grants}
use Rattle.phases.specs.declared.table.StepRow.{StepRow}
use Rattle.record.specs.declared.steps.Step.{Step}
use Rattle.record.specs.Doors.{door_of}
use Rattle.record.specs.Steps.{reason_for, held_for}
use Rattle.record.specs.Run.{row_of, last_of}
use Rattle.run_events.specs.Lines.{Line, heard_of}
use Rattle.run_events.specs.Events.{What, Grant, Denial, Passage, Lapse, RunEvent, event, Taken, Happened, Nothing, meaning_of, Stage, NoCard, Awaited, After, Spell, spell, no_spell, spells_of, events_of}

-- ---- what stands at a door

-- nothing; a person's card that isn't decided; a person's grant that isn't ended; or a card that was denied or whose grant ended,
-- not yet acknowledged
pub data Standing : Type 0 where
  Free : Standing
  CardOf : ℕ → Standing
  GrantOf : ℕ → Standing
  Ended : Standing

-- by what was told ..
abbrev pub standing_by : Stage → ℕ → Standing
standing_by NoCard person = Free
standing_by Awaited person = CardOf person
standing_by (After Grant) person = GrantOf person
standing_by (After (Denial why held)) person = Ended
standing_by (After Passage) person = Ended
standing_by (After Lapse) person = Ended

abbrev pub standing : Spell → Standing
standing s = standing_by s.stage s.person

-- .. and in the record: "1 read", "Phases 2 to 5 hold a grant", "0 free"
unfoldable pub standing_at : Door → Standing
standing_at c =
    cond (grants c.phase) (GrantOf c.holder)
    (cond (eqb c.phase read) (CardOf c.holder)
    (cond (eqb c.phase free) Free Ended))

-- the spells tell of each door what the record has there
pub record Agree (spells : ℕ → Spell) (r : Record) : Type 0 where
  pub each : (d : ℕ) → standing (spells d) ≡ standing_at (door_of r d)

-- spells that agree with a record, by its doors: it keeps no rows, nor of a card that ended who had it and how it ended
unfoldable pub shown_at : Door → Spell
shown_at c =
    cond (grants c.phase) (spell 0 c.holder (After Grant))
    (cond (eqb c.phase read) (spell 0 c.holder Awaited)
    (cond (eqb c.phase free) no_spell (spell 0 0 (After Lapse))))

abbrev pub shown_in : Record → ℕ → Spell
shown_in r d = shown_at (door_of r d)

-- person p has the card of a spell, and was granted last
pub record Granted (s : Spell) (p : ℕ) : Type 0 where
  pub stage : s.stage ≡ After Grant
  pub person : s.person ≡ p

-- ---- the events, seen in the record

-- what a step that is done does to the card at its door, why being the reason for which the record denies it, 0 for none, and held the
-- door that it tells with the reason
unfoldable pub what_by : Kind → ℕ → ℕ → List What
what_by Decide why held = cond (eqb why 0) Grant (Denial why held) ∷ []
what_by Passed why held = Passage ∷ []
what_by Lapsed why held = Lapse ∷ []
what_by Card why held = []
what_by Green why held = []
what_by Red why held = []
what_by Walk why held = []
what_by Tick why held = []
what_by Dark why held = []
what_by Ack why held = []
what_by Unknown why held = []

-- the event of the step of row n that handed back z, with the person whom the record's door held before; a refused step has none
abbrev pub seen_of : ℕ → Record → StepRow → Step → List RunEvent
seen_of n r row z =
    let person = get_or r.holder row.at 0 in
    let why = reason_for r row.at person in
    cond (eqb (answer_no z.answer) 0) (map (event n row.at person) (what_by row.kind why (held_for r person why))) []

-- the events of a list of steps from row n on, the record looked into before each
unfoldable pub events_seen : ℕ → Record → List StepRow → List RunEvent
events_seen n r [] = []
events_seen n r (row ∷ rows) = seen_of n r row (row_of r row) ++ events_seen (n + 1) (row_of r row).next rows

-- ---- the rows of the events

-- does a step that is done decide a card, or end a grant?
unfoldable pub gives_event : Kind → Bool
gives_event Decide = true
gives_event Passed = true
gives_event Lapsed = true
gives_event Card = false
gives_event Green = false
gives_event Red = false
gives_event Walk = false
gives_event Tick = false
gives_event Dark = false
gives_event Ack = false
gives_event Unknown = false

-- the rows of the `decide`, `passed` and `lapsed` that were answered 0, from row n on
unfoldable pub rows_acted : ℕ → List Line → List ℕ
rows_acted n [] = []
rows_acted n (line ∷ lines) =
    cond (and_also (eqb line.reply.answer 0) (gives_event line.row.kind)) (n ∷ []) [] ++ rows_acted (n + 1) lines

-- ---- where a spell began

-- the card at door d comes from one stage to another by these lines: at its door no card is taken and the door isn't freed, and
-- what happens there is its next stage
pub data Comes (d : ℕ) : Stage → List Line → Stage → Type 0 where
  end : {t : Stage} → Comes d t [] t
  elsewhere : {t u : Stage} {line : Line} {lines : List Line} → (line.row.at ≡ d → ⊥) → Comes d t lines u → Comes d t (line ∷ lines) u
  unmoved : {t u : Stage} {line : Line} {lines : List Line} → meaning_of line ≡ Nothing → Comes d t lines u → Comes d t (line ∷ lines) u
  moved : {t u : Stage} {line : Line} {lines : List Line} {what : What} → line.row.at ≡ d → meaning_of line ≡ Happened what
      → Comes d (After what) lines u → Comes d t (line ∷ lines) u

-- the spell s at door d began in one of these lines, from row n on: there its person's card was taken, and has come to its stage since
pub data Began (d : ℕ) (s : Spell) : ℕ → List Line → Type 0 where
  here : {n : ℕ} {line : Line} {lines : List Line} → line.row.at ≡ d → meaning_of line ≡ Taken → s.row ≡ n → s.person ≡ line.row.person
      → Comes d Awaited lines s.stage → Began d s n (line ∷ lines)
  later : {n : ℕ} {line : Line} {lines : List Line} → Began d s (n + 1) lines → Began d s n (line ∷ lines)

-- at a door with a card the spell began in these lines, or it is the one that was there before them
pub data Since (d : ℕ) (was s : Spell) (n : ℕ) (lines : List Line) : Type 0 where
  no_card : s.stage ≡ NoCard → Since d was s n lines
  began : Began d s n lines → Since d was s n lines
  goes_on : (was.stage ≡ NoCard → ⊥) → Comes d was.stage lines s.stage → s.row ≡ was.row → s.person ≡ was.person → Since d was s n lines

-- ---- all of it

-- the steps that end a grant
pub data EndsGrant : Kind → Type 0 where
  passing : EndsGrant Passed
  lapsing : EndsGrant Lapsed

-- From a record with which the spells agree, and for a list of steps from row n on
pub record TellsTruly (spells : ℕ → Spell) (n : ℕ) (r : Record) (rows : List StepRow) : Type 0 where
  -- there is one event for each `decide`, `passed` and `lapsed` that acted and none else, and its person is the one whom the
  -- record's door held before that step
  pub events : events_of spells n (heard_of r rows) ≡ events_seen n r rows
  -- the events' rows are those steps' rows, in order, each once
  pub in_rows : map (λ (e : RunEvent). e.row) (events_of spells n (heard_of r rows)) ≡ rows_acted n (heard_of r rows)
  -- a passage or a lapse is of a card that was granted: so the spell at the door says before such a step acts
  pub of_a_grant : (before after : List StepRow) (row : StepRow) → rows ≡ before ++ (row ∷ after) → EndsGrant row.kind
      → (row_of (last_of r before) row).answer ≡ Done
      → Granted (spells_of spells n (heard_of r before) row.at) (get_or (last_of r before).holder row.at 0)
  -- the row and the person of a spell are those of its taken card, and its stage is what happened to that card last
  pub since : (d : ℕ) → Since d (spells d) (spells_of spells n (heard_of r rows) d) n (heard_of r rows)
  -- and the spells agree with the record at the end
  pub agree : Agree (spells_of spells n (heard_of r rows)) (last_of r rows)
