-- Demand 3: which events of a run are served, and how each is (01, "Steps": "Serving one card, for demand 3"). The events are made
-- from the steps and their answers alone, never from the record's inside.
use Rattle.std.specs.Prelude.{ℕ, zero, suc, Bool, true, false, cond, List, [], ◌∷◌, ◌++◌, eqb}
use Rattle.record.specs.declared.record.Record.{Record}
use Rattle.phases.specs.declared.table.Kind.{Kind}
use Rattle.phases.specs.declared.table.Kind.TheVariants.{Card, Decide, Green, Red, Walk, Tick, Passed, Lapsed, Dark, Ack}
use Rattle.phases.specs.Phase.{green_span, red_span}
use Rattle.phases.specs.Answers.{reason_busy}
use Rattle.phases.specs.declared.table.StepRow.{StepRow}
use Rattle.run_events.specs.Events.{What, Grant, Denial, Passage, Lapse, RunEvent, events_in}

-- ---- what was recorded

-- does an event end its card? "A refusal is recorded by the `decide` that denied, a passage by `passed`, a lapse by `lapsed`."
unfoldable pub ends_card : What → Bool
ends_card Grant = false
ends_card (Denial why held) = true
ends_card Passage = true
ends_card Lapse = true

-- the events that end a card, in order: "A card not decided, or a grant not ended, isn't served."
unfoldable pub recorded : List RunEvent → List RunEvent
recorded [] = []
recorded (e ∷ es) = cond (ends_card e.what) (e ∷ []) [] ++ recorded es

-- what the run of a list of steps records
abbrev pub recorded_in : Record → List StepRow → List RunEvent
recorded_in fresh rows = recorded (events_in fresh rows)

-- ---- the serving of an event

-- what an event is served as: itself; but denied for reason 3, "grant elsewhere", the one reason that is none when cards are served
-- one after the other, as a lapse, "an unused grant"
unfoldable pub served_as : What → What
served_as Grant = Grant
served_as (Denial why held) = cond (eqb why reason_busy) Lapse (Denial why held)
served_as Passage = Passage
served_as Lapse = Lapse

-- the step of this kind at door d
abbrev pub step_at : Kind → ℕ → StepRow
step_at kind d = record { kind = kind; at = d; person = 0 }

-- n ticks of door d, and then the rest
unfoldable pub ticked : ℕ → ℕ → List StepRow → List StepRow
ticked zero d rest = rest
ticked (suc n) d rest = step_at Tick d ∷ ticked n d rest

unfoldable pub after_decide : What → ℕ → List StepRow
-- "then if denied `red`, 20 ticks, `dark`, `ack`"
after_decide (Denial why held) d = step_at Red d ∷ ticked red_span d (step_at Dark d ∷ step_at Ack d ∷ [])
-- "for a passage `green`, `walk`, `passed`, `ack`"
after_decide Passage d = step_at Green d ∷ step_at Walk d ∷ step_at Passed d ∷ step_at Ack d ∷ []
-- "for a lapse or an unused grant `green`, 300 ticks, `lapsed`, `ack`"
after_decide Lapse d = step_at Green d ∷ ticked green_span d (step_at Lapsed d ∷ step_at Ack d ∷ [])
-- "A card not decided, or a grant not ended, isn't served."
after_decide Grant d = []

abbrev pub card_of : RunEvent → StepRow
card_of e = record { kind = Card; at = e.at; person = e.person }

-- "Serving one card, for demand 3: `card`, `decide`; then .."
unfoldable pub service_of : RunEvent → List StepRow
service_of e = card_of e ∷ step_at Decide e.at ∷ after_decide (served_as e.what) e.at

-- all services, one after the other
unfoldable pub services : List RunEvent → List StepRow
services [] = []
services (e ∷ es) = service_of e ++ services es
