-- The initial model (001, section 3): where everybody is.
use Rattle.std.specs.Prelude.{ℕ, ◌≡◌}
use Rattle.machines.specs.Sets.{Total}
use Rattle.machines.specs.Context.{Constants}
use Rattle.machines.specs.Machines.{Names, State, Machine, ◌▹◌, ◌sits_in◌}

-- "a variable, sit, denoting the location where each person is", and no other
abbrev pub names : Names
names = record { Sets = ⊥; Maps = ⊥; set_no = λ x. absurd x; map_no = λ x. absurd x }

pub record Inv (c : Constants) (s : State names) : Type 0 where
  -- "a person cannot be in two locations at a time and a person is always somewhere": sit ∈ P → L
  pub inv0_1 : Total c.P c.L s.sit
  -- "every person, which in a certain location, is authorized to be there": sit ⊆ aut
  pub inv0_2 : (p : ℕ) → c.P p → c.aut p (s.sit p)

-- "Initially, everyone is outside"
abbrev pub Start : Constants → State names → Type 0
Start c s = (p : ℕ) → c.P p → s.sit p ≡ c.out

pub data Event : Type 0 where
  pass : ℕ → ℕ → Event

-- "pass any p, l where p ↦ l ∈ aut, sit(p) ≠ l then sit(p) := l end"
abbrev pub Guard : Constants → State names → Event → Type 0
Guard c s (pass p l) = c.aut p l × (s.sit p ≡ l → ⊥)

abbrev pub action : Constants → State names → Event → State names
action c s (pass p l) = s ▹ p sits_in l

abbrev pub machine : Constants → Machine
machine c = record { names = names; Event = Event; Start = Start c; Guard = Guard c; action = action c }
