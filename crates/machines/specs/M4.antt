-- The fourth refinement (001, section 7): the physical doors, with the green chain and the red chain of their messages.
use Rattle.std.specs.Prelude.{ℕ, ◌≡◌}
use Rattle.machines.specs.Sets.{Set, Empty, ◌∪◌, ◌∩◌, ◌⊆◌, ◌≐◌}
use Rattle.machines.specs.Context.{Constants}
use Rattle.machines.specs.Machines.{Names, State, Machine, Move, event, skip, ◌▹◌, ◌sits_in◌, ◌∪=◌, ◌∖=◌, ◌at◌:=◌, ◌⩥=◌, ◌∪=⟨◌⇒◌⟩, ◌∖=⟨◌⇒◌⟩}
use Rattle.machines.specs.M2.{Acceptable}
use Rattle.machines.specs.M3.{Maps, dap, m_card, map_no}
use Rattle.machines.specs.M3 as m3

-- The green chain: m_accept, "the set of accepted doors" GRN, m_pass, mOff-grn. The red chain: m_refuse, RED, mOff-red.
pub data Sets : Type 0 where
  BLR m_ackn m_accept GRN m_pass m_off_grn m_refuse RED m_off_red : Sets

abbrev pub set_no : Sets → ℕ
set_no BLR = 0
set_no m_ackn = 1
set_no m_accept = 2
set_no GRN = 3
set_no m_pass = 4
set_no m_off_grn = 5
set_no m_refuse = 6
set_no RED = 7
set_no m_off_red = 8

abbrev pub names : Names
names = record { Sets = Sets; Maps = Maps; set_no = set_no; map_no = map_no }

-- The third refinement's a and this one's s.
pub record Inv (a : State m3.names) (s : State names) : Type 0 where
  -- "m_accept ∪ m_pass ∪ mOff_grn = grn"
  pub inv4_1 : (s.set m_accept ∪ s.set m_pass ∪ s.set m_off_grn) ≐ a.set m3.grn
  -- "m_accept ∩ (m_pass ∪ mOff_grn) = ∅"
  pub inv4_2 : Empty (s.set m_accept ∩ (s.set m_pass ∪ s.set m_off_grn))
  -- "m_pass ∩ mOff_grn = ∅"
  pub inv4_3 : Empty (s.set m_pass ∩ s.set m_off_grn)
  -- "GRN ⊆ m_accept"
  pub inv4_4 : s.set GRN ⊆ s.set m_accept
  -- "m_refuse ∪ mOff_red = red"
  pub inv4_5 : (s.set m_refuse ∪ s.set m_off_red) ≐ a.set m3.red
  -- "m_refuse ∩ mOff_red = ∅"
  pub inv4_6 : Empty (s.set m_refuse ∩ s.set m_off_red)
  -- "RED ⊆ m_refuse"
  pub inv4_7 : s.set RED ⊆ s.set m_refuse

-- everyone is outside, no light is lit, no reader is blocked, no message is under way
pub record Start (c : Constants) (s : State names) : Type 0 where
  pub sit : (p : ℕ) → c.P p → s.sit p ≡ c.out
  pub sets : (X : Sets) → Empty (s.set X)
  pub maps : (f : Maps) (x y : ℕ) → s.map f x y → ⊥

pub data Event : Type 0 where
  CARD accept refuse pass : ℕ → ℕ → Event
  ACCEPT PASS OFF-GRN off_grn REFUSE OFF-RED off_red ACKN : ℕ → Event

abbrev pub Guard : Constants → State names → Event → Type 0
-- "p ∈ P, d ∈ D \ BLR"
Guard c s (CARD p d) = c.P p × c.D d × (s.set BLR d → ⊥)
-- "d ↦ p ∈ m_card" and the three
Guard c s (accept p d) = s.map m_card d p × Acceptable c s.sit (s.map dap) p d
Guard c s (refuse p d) = s.map m_card d p × (Acceptable c s.sit (s.map dap) p d → ⊥)
-- "d ∈ m_pass", p = dap⁻¹(d)
Guard c s (pass p d) = s.set m_pass d × s.map dap p d
-- "d ∈ m_accept"
Guard c s (ACCEPT d) = s.set m_accept d
-- "d ∈ GRN"
Guard c s (PASS d) = s.set GRN d
-- "d ∈ GRN"
Guard c s (OFF-GRN d) = s.set GRN d
-- "d ∈ mOff_grn"
Guard c s (off_grn d) = s.set m_off_grn d
-- "d ∈ m_refuse"
Guard c s (REFUSE d) = s.set m_refuse d
-- "d ∈ RED"
Guard c s (OFF-RED d) = s.set RED d
-- "d ∈ mOff_red"
Guard c s (off_red d) = s.set m_off_red d
-- "d ∈ m_ackn"
Guard c s (ACKN d) = s.set m_ackn d

abbrev pub action : Constants → State names → Event → State names
-- "BLR := BLR ∪ {d}, m_card := m_card ∪ {d ↦ p}"
action c s (CARD p d) = s ▹ BLR ∪= d ▹ m_card ∪=⟨ d ⇒ p ⟩
-- "dap(p) := d, m_card := m_card \ {d ↦ p}, m_accept := m_accept ∪ {d}"
action c s (accept p d) = s ▹ dap at p := d ▹ m_card ∖=⟨ d ⇒ p ⟩ ▹ m_accept ∪= d
-- "m_card := m_card \ {d ↦ p}, m_refuse := m_refuse ∪ {d}"
action c s (refuse p d) = s ▹ m_card ∖=⟨ d ⇒ p ⟩ ▹ m_refuse ∪= d
-- "sit(dap⁻¹(d)) := dst(d), dap := dap ⩥ {d}, m_ackn := m_ackn ∪ {d}, m_pass := m_pass \ {d}"
action c s (pass p d) = s ▹ p sits_in c.dst d ▹ dap ⩥= d ▹ m_ackn ∪= d ▹ m_pass ∖= d
-- "GRN := GRN ∪ {d}"
action c s (ACCEPT d) = s ▹ GRN ∪= d
-- "GRN := GRN \ {d}, m_pass := m_pass ∪ {d}, m_accept := m_accept \ {d}"
action c s (PASS d) = s ▹ GRN ∖= d ▹ m_pass ∪= d ▹ m_accept ∖= d
-- "GRN := GRN \ {d}, mOff_grn := mOff_grn ∪ {d}, m_accept := m_accept \ {d}"
action c s (OFF-GRN d) = s ▹ GRN ∖= d ▹ m_off_grn ∪= d ▹ m_accept ∖= d
-- "dap := dap ⩥ {d}, m_ackn := m_ackn ∪ {d}, mOff_grn := mOff_grn \ {d}"
action c s (off_grn d) = s ▹ dap ⩥= d ▹ m_ackn ∪= d ▹ m_off_grn ∖= d
-- "RED := RED ∪ {d}"
action c s (REFUSE d) = s ▹ RED ∪= d
-- "RED := RED \ {d}, mOff_red := mOff_red ∪ {d}, m_refuse := m_refuse \ {d}"
action c s (OFF-RED d) = s ▹ RED ∖= d ▹ m_off_red ∪= d ▹ m_refuse ∖= d
-- "m_ackn := m_ackn ∪ {d}, mOff_red := mOff_red \ {d}"
action c s (off_red d) = s ▹ m_ackn ∪= d ▹ m_off_red ∖= d
-- "BLR := BLR \ {d}, m_ackn := m_ackn \ {d}"
action c s (ACKN d) = s ▹ BLR ∖= d ▹ m_ackn ∖= d

abbrev pub machine : Constants → Machine
machine c = record { names = names; Event = Event; Start = Start c; Guard = Guard c; action = action c }

-- the events of the doors are new
abbrev pub from : Event → Move m3.Event
from (CARD p d) = event (m3.CARD p d)
from (accept p d) = event (m3.accept p d)
from (refuse p d) = event (m3.refuse p d)
from (pass p d) = event (m3.pass p d)
from (ACCEPT d) = skip
from (PASS d) = skip
from (OFF-GRN d) = skip
from (off_grn d) = event (m3.off_grn d)
from (REFUSE d) = skip
from (OFF-RED d) = skip
from (off_red d) = event (m3.off_red d)
from (ACKN d) = event (m3.ACKN d)

-- the variables of the third refinement, grn and red by inv4-1 and inv4-5
abbrev pub set_made_of : (Sets → Set) → m3.Sets → Set
set_made_of sets m3.grn = sets m_accept ∪ sets m_pass ∪ sets m_off_grn
set_made_of sets m3.red = sets m_refuse ∪ sets m_off_red
set_made_of sets m3.BLR = sets BLR
set_made_of sets m3.m_ackn = sets m_ackn

abbrev pub see : State names → State m3.names
see s = record { sit = s.sit; set = set_made_of s.set; map = s.map }

-- the invariants of this machine and of those before
abbrev pub All : Constants → State names → Type 0
All c s = m3.All c (see s) × Inv (see s) s
