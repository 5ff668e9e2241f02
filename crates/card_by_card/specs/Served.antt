-- Demand 3: what holds of the serving. Each demand is a record of named facts.
use Rattle.std.specs.Prelude.{ℕ, ◌≡◌, cond, List, [], ◌∷◌, ◌++◌, eqb}
use Rattle.numbers.specs.Numbers.{done_no}
use Rattle.tables.specs.Tables.{and_also}
use Rattle.record.specs.declared.record.Record.{Record}
use Rattle.phases.specs.declared.table.Kind.TheVariants.{Decide}
use Rattle.phases.specs.declared.answer.Answer.TheVariants.{Done}
use Rattle.record.specs.declared.steps.Step.{Step}
use Rattle.phases.specs.Phase.{granted, denied}
use Rattle.phases.specs.Answers.{reason_busy}
use Rattle.door.specs.Door.{free_door}
use Rattle.record.specs.Doors.{plan_of, door_of, fresh_record, Shaped}
use Rattle.record.specs.Sound.{Sound}
use Rattle.phases.specs.declared.table.StepRow.{StepRow}
use Rattle.phases.specs.Kinds.{number_of_kind, names_person}
use Rattle.record.specs.Run.{Reply, reply_by, row_of, last_of}
use Rattle.run_events.specs.Lines.{Line, heard_of}
use Rattle.run_events.specs.Events.{What, Denial, Passage, Lapse, RunEvent, no_spells, spells_in, events_in}
use Rattle.run_events.specs.Told.{Standing, Free, CardOf, GrantOf, Ended, standing, standing_at, TellsTruly}
use Rattle.run_events.specs.Open.{NamesOpenGrants}
use Rattle.card_by_card.specs.Serving.{recorded_in, served_as, step_at, card_of, service_of, services}

-- A fresh record: "with everyone in 0 and every door free", of tables that are lawful and 0 beyond the counts, so that it is sound.
pub record Fresh (r : Record) : Type 0 where
  pub fresh : r ≡ fresh_record (plan_of r) r.right
  pub shaped : Shaped r
  pub sound : Sound r

-- every step of a list acts, one after the other
pub data Acts : Record → List StepRow → Type 0 where
  end : {r : Record} → Acts r []
  then : {r : Record} {row : StepRow} {rows : List StepRow} → (row_of r row).answer ≡ Done → Acts (row_of r row).next rows → Acts r (row ∷ rows)

-- what the `decide` of a service answers, by what the event is served as: "`decide`: 1 to 2 or 6", "and the reason (0 unless `decide`
-- denied)", with its door (02, C-12)
pub data Reads (phase reason held : ℕ) : What → Type 0 where
  denying : phase ≡ denied → Reads phase reason held (Denial reason held)
  passing : phase ≡ granted → reason ≡ 0 → held ≡ 0 → Reads phase reason held Passage
  lapsing : phase ≡ granted → reason ≡ 0 → held ≡ 0 → Reads phase reason held Lapse

-- the answer of the `decide` in the service of an event, the service begun at record r
abbrev pub decide_of : Record → RunEvent → Step
decide_of r e = row_of (row_of r (card_of e)).next (step_at Decide e.at)

-- events served one after the other are decided as they were, but for reason 3, which is granted
pub data Decides : Record → List RunEvent → Type 0 where
  end : {r : Record} → Decides r []
  then : {r : Record} {e : RunEvent} {es : List RunEvent} → Reads (decide_of r e).phase (decide_of r e).reason (decide_of r e).held (served_as e.what)
      → Decides (last_of r (service_of e)) es → Decides r (e ∷ es)

-- the record after all services
abbrev pub served_in : Record → List StepRow → Record
served_in fresh rows = last_of fresh (services (recorded_in fresh rows))

-- ---- the account of one door

-- what the lines of door d that were done say, in order
unfoldable pub done_by : {A : Type 0} → (Line → List A) → ℕ → Line → List A
done_by say d line = cond (and_also (eqb line.reply.answer done_no) (eqb d line.row.at)) (say line) []

unfoldable pub done_at : {A : Type 0} → (Line → List A) → ℕ → List Line → List A
done_at say d [] = []
done_at say d (line ∷ lines) = done_by say d line ++ done_at say d lines

-- what the events of door d say, in order
unfoldable pub events_at : {A : Type 0} → (RunEvent → List A) → ℕ → List RunEvent → List A
events_at say d [] = []
events_at say d (e ∷ es) = cond (eqb d e.at) (say e) [] ++ events_at say d es

-- the persons whose cards were taken at door d, in order: "a `card` answered 11 or 12 was never taken"
unfoldable pub taken_by : Line → List ℕ
taken_by line = cond (names_person line.row.kind) (line.row.person ∷ []) []

abbrev pub taken_at : ℕ → List Line → List ℕ
taken_at d lines = done_at taken_by d lines

-- the persons of the events of door d, in order
abbrev pub person_of : RunEvent → List ℕ
person_of e = e.person ∷ []

abbrev pub served_at : ℕ → List RunEvent → List ℕ
served_at d es = events_at person_of d es

-- "A card not decided, or a grant not ended": the person of a card that is open, if one is
unfoldable pub open_of : Standing → List ℕ
open_of Free = []
open_of (CardOf person) = person ∷ []
open_of (GrantOf person) = person ∷ []
open_of Ended = []

-- the decisions told at door d, in order: what each `decide` that was done answered
unfoldable pub decision_by : Line → List Reply
decision_by line = cond (eqb (number_of_kind line.row.kind) (number_of_kind Decide)) (line.reply ∷ []) []

abbrev pub decided_at : ℕ → List Line → List Reply
decided_at d lines = done_at decision_by d lines

-- the decisions with which the cards of door d are served, in order: what the `decide` of each service answers
unfoldable pub decisions_at : ℕ → Record → List RunEvent → List Reply
decisions_at d r [] = []
decisions_at d r (e ∷ es) = cond (eqb d e.at) (reply_by (decide_of r e) ∷ []) [] ++ decisions_at d (last_of r (service_of e)) es

-- granted, and denied for a reason, with its door
abbrev pub granted_reply : Reply
granted_reply = record { answer = done_no; phase = granted; reason = 0; held = 0 }

abbrev pub denied_reply : ℕ → ℕ → Reply
denied_reply why held = record { answer = done_no; phase = denied; reason = why; held = held }

-- "a grant not ended, isn't served": the decision of a grant that is open, if one is
unfoldable pub grant_open : Standing → List Reply
grant_open Free = []
grant_open (CardOf person) = []
grant_open (GrantOf person) = granted_reply ∷ []
grant_open Ended = []

-- decisions that are the same one by one, but for reason 3, which is granted
pub data Alike : List Reply → List Reply → Type 0 where
  end : Alike [] []
  same : {x : Reply} {xs ys : List Reply} → (x.reason ≡ reason_busy → ⊥) → Alike xs ys → Alike (x ∷ xs) (x ∷ ys)
  unused : {held : ℕ} {xs ys : List Reply} → Alike xs ys → Alike (denied_reply reason_busy held ∷ xs) (granted_reply ∷ ys)

-- Demand 3, of a fresh record and a list of steps, of any kinds and numbers, acting or refused
pub record DemandThree (fresh : Record) (rows : List StepRow) : Type 0 where
  -- all services run one after the other from the fresh record: every step acts
  pub acts : Acts fresh (services (recorded_in fresh rows))
  -- each service's `decide` gives the decision, the reason and the held door of its event, but for reason 3, which is granted
  pub decides : Decides fresh (recorded_in fresh rows)
  -- at the end every door is free
  pub all_free : (d : ℕ) → door_of (served_in fresh rows) d ≡ free_door
  -- everyone stands where the real record has them
  pub places : (served_in fresh rows).place ≡ (last_of fresh rows).place
  -- each event served is one that the record had, and a passage or a lapse is of a card that was granted
  pub told : TellsTruly no_spells 1 fresh rows
  -- by the answers alone, the door named by a reason 3 is one whose own card of the same person was granted before and has neither passed
  -- nor lapsed since
  pub held_open : NamesOpenGrants (events_in fresh rows)
  -- what stands open at a door by the answers, the card or the grant and its person, is what the record has open there
  pub open_at_end : (d : ℕ) → standing (spells_in fresh rows d) ≡ standing_at (door_of (last_of fresh rows) d)
  -- "A card not decided, or a grant not ended, isn't served": of the cards taken at a door, in order, all are served but the one open
  pub unserved : (d : ℕ) → taken_at d (heard_of fresh rows) ≡ served_at d (recorded_in fresh rows) ++ open_of (standing (spells_in fresh rows d))
  -- and of the cards decided at a door, in order, each got the decision, the reason and the held door with which it is served, but for
  -- reason 3; only a grant that is open isn't served
  pub decided : (d : ℕ) → Alike (decided_at d (heard_of fresh rows)) (decisions_at d fresh (recorded_in fresh rows) ++ grant_open (standing (spells_in fresh rows d)))
