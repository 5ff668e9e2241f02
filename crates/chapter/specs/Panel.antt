-- The panel among the machines: where it starts, what each row of a list of steps is to each machine, what its lights show, and that
-- no door is stuck.
use Rattle.std.specs.Prelude.{ℕ, ◌≡◌, List, [], ◌∷◌}
use Rattle.record.specs.declared.record.Record.{Record}
use Rattle.phases.specs.declared.table.Kind.{Kind}
use Rattle.phases.specs.declared.answer.Answer.TheVariants.{Done, NotAllowed}
use Rattle.phases.specs.declared.table.StepRow.{StepRow}
use Rattle.record.specs.Steps.{step_of}
use Rattle.record.specs.Run.{row_of}
use Rattle.machines.specs.Sets.{Empty, ◌∩◌}
use Rattle.machines.specs.Context.{Constants}
use Rattle.machines.specs.Machines.{State, Same, Move, event, skip, seen, MachineStep}
use Rattle.machines.specs.M0 as m0
use Rattle.machines.specs.M1 as m1
use Rattle.machines.specs.M2 as m2
use Rattle.machines.specs.M3 as m3
use Rattle.machines.specs.M4 as m4
use Rattle.machines.specs.M4.{GRN, RED}
use Rattle.machines.specs.M4.{Event, CARD, accept, refuse, pass, ACCEPT, PASS, OFF-GRN, off_grn, REFUSE, OFF-RED, off_red, ACKN}
use Rattle.chapter.specs.Reading.{constants_of, state_of, state_of3, state_of2, state_of1, StandsFor, Enabled, Uneventful}

-- ---- the start

-- The record reads as the initial state of each machine.
pub record StartOfEach (r : Record) : Type 0 where
  pub fourth : m4.Start (constants_of r) (state_of r)
  pub third : m3.Start (constants_of r) (state_of3 r)
  pub second : m2.Start (constants_of r) (state_of2 r)
  -- which has the variables and the `init` of the initial model
  pub first : (m1.machine (constants_of r)).Start (state_of1 r)
  pub initial : m0.Start (constants_of r) (state_of1 r)

-- ---- an order for a light that is burning already

-- Where the panel is stricter than the chapter: the event is enabled, but would alter no variable; the panel answers 12 and alters
-- nothing, so that to each machine the step is skip.
pub record OrderedAgain (r : Record) (k : Kind) (d p : ℕ) : Type 0 where
  pub enabled : Enabled r k d p
  pub no_change : Same (m4.action (constants_of r) (state_of r) enabled.event) (state_of r)
  pub refused : (step_of r k d p).answer ≡ NotAllowed
  pub skips : (step_of r k d p).next ≡ r

-- ---- a row of a list of steps

-- What the step of a row is to the fourth refinement: where it is done, the event that it stands for; a tick that stands for none
-- and a step that is refused are nothing.
pub data MoveOf (r : Record) (row : StepRow) : Move Event → Type 0 where
  done : (e : Event) → (row_of r row).answer ≡ Done → StandsFor r row.at row.person row.kind e → MoveOf r row (event e)
  uneventful : Uneventful r row.kind row.at → MoveOf r row skip
  refused : ((row_of r row).answer ≡ Done → ⊥) → MoveOf r row skip

-- and to the machines before: the event that is refined, and nothing where the event is a new one
abbrev pub move3 : Move Event → Move m3.Event
move3 o = seen m4.from o

abbrev pub move2 : Move Event → Move m2.Event
move2 o = seen m3.from (move3 o)

abbrev pub move1 : Constants → Move Event → Move m1.Event
move1 c o = seen (m2.from c) (move2 o)

abbrev pub move0 : Constants → Move Event → Move m0.Event
move0 c o = seen m1.from (move1 c o)

-- From record r to the next one is, by this move, a step of each machine.
pub record StepOfEach (c : Constants) (r : Record) (o : Move Event) (next : Record) : Type 0 where
  pub fourth : MachineStep (m4.machine c) (state_of r) o (state_of next)
  pub third : MachineStep (m3.machine c) (state_of3 r) (move3 o) (state_of3 next)
  pub second : MachineStep (m2.machine c) (state_of2 r) (move2 o) (state_of2 next)
  pub first : MachineStep (m1.machine c) (state_of1 r) (move1 c o) (state_of1 next)
  pub initial : MachineStep (m0.machine c) (state_of1 r) (move0 c o) (state_of1 next)

-- No row is two moves.
abbrev pub OneMove : Record → StepRow → Type 0
OneMove r row =
    (o u : Move Event) → MoveOf r row o → StepOfEach (constants_of r) r o (row_of r row).next → MoveOf r row u → StepOfEach (constants_of r) r u (row_of r row).next
    → o ≡ u

-- The steps of a list from record r on are a run of each machine: row by row the move that the row's step is, to what the record
-- after it reads as.
pub data RunOfEach (c : Constants) : Record → List StepRow → Type 0 where
  stop : {r : Record} → RunOfEach c r []
  step : {r : Record} {row : StepRow} {rows : List StepRow} (o : Move Event) → MoveOf r row o → StepOfEach c r o (row_of r row).next
      → RunOfEach c (row_of r row).next rows → RunOfEach c r (row ∷ rows)

-- ---- the lights

-- EQP-3: "Each card reader has two lights: one green light and one red light", of which one is on at most
abbrev pub EQP-3 : State m4.names → Type 0
EQP-3 s = Empty (s.set GRN ∩ s.set RED)

-- ---- no door is stuck

-- the door of an event
abbrev pub door_at : Event → ℕ
door_at (CARD p d) = d
door_at (accept p d) = d
door_at (refuse p d) = d
door_at (pass p d) = d
door_at (ACCEPT d) = d
door_at (PASS d) = d
door_at (OFF-GRN d) = d
door_at (off_grn d) = d
door_at (REFUSE d) = d
door_at (OFF-RED d) = d
door_at (off_red d) = d
door_at (ACKN d) = d

-- At this very door an event is enabled, and some step acts and alters the record.
pub record Live (r : Record) (d : ℕ) : Type 0 where
  pub happens : Event
  pub here : door_at happens ≡ d
  pub guard : m4.Guard (constants_of r) (state_of r) happens
  pub kind : Kind
  pub person : ℕ
  pub acts : (step_of r kind d person).answer ≡ Done
  pub alters : (step_of r kind d person).next ≡ r → ⊥
