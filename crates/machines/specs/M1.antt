-- The first refinement (001, section 4): people go where locations communicate. The variables, the invariants and `init` are
-- those of the initial model.
use Rattle.std.specs.Prelude.{ℕ}
use Rattle.machines.specs.Context.{Constants}
use Rattle.machines.specs.Machines.{State, Machine, Move, event, ◌▹◌, ◌sits_in◌}
use Rattle.machines.specs.M0 as m0

pub data Event : Type 0 where
  pass : ℕ → ℕ → Event

-- "pass any p, l where p ↦ l ∈ aut, sit(p) ↦ l ∈ com then sit(p) := l end"
abbrev pub Guard : Constants → State m0.names → Event → Type 0
Guard c s (pass p l) = c.aut p l × c.«com» (s.sit p) l

abbrev pub action : Constants → State m0.names → Event → State m0.names
action c s (pass p l) = s ▹ p sits_in l

abbrev pub machine : Constants → Machine
machine c = record { names = m0.names; Event = Event; Start = m0.Start c; Guard = Guard c; action = action c }

-- "the event pass is refined"
abbrev pub from : Event → Move m0.Event
from (pass p l) = event (m0.pass p l)

-- sit is sit
abbrev pub see : State m0.names → State m0.names
see s = s
