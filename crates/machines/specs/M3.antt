-- The third refinement (001, section 6): card readers, which stay blocked until they are acknowledged.
use Rattle.std.specs.Prelude.{ℕ, ◌≡◌}
use Rattle.machines.specs.Sets.{Partial, Empty, dom, ◌∪◌, ◌∩◌, ◌⊆◌, ◌≐◌}
use Rattle.machines.specs.Context.{Constants}
use Rattle.machines.specs.Machines.{Names, State, Machine, Move, event, skip, ◌▹◌, ◌sits_in◌, ◌∪=◌, ◌∖=◌, ◌at◌:=◌, ◌⩥=◌, ◌∪=⟨◌⇒◌⟩, ◌∖=⟨◌⇒◌⟩}
use Rattle.machines.specs.M2.{Acceptable}
use Rattle.machines.specs.M2 as m2

-- "BLR (for blocked readers)", "the messages which are sent from the readers .. m_card", "the set of acknowledgement messages ..
-- m_ackn"
pub data Sets : Type 0 where
  grn red BLR m_ackn : Sets

pub data Maps : Type 0 where
  dap m_card : Maps

abbrev pub set_no : Sets → ℕ
set_no grn = 0
set_no red = 1
set_no BLR = 2
set_no m_ackn = 3

abbrev pub map_no : Maps → ℕ
map_no dap = 0
map_no m_card = 1

abbrev pub names : Names
names = record { Sets = Sets; Maps = Maps; set_no = set_no; map_no = map_no }

pub record Inv (c : Constants) (s : State names) : Type 0 where
  -- "BLR ⊆ D"
  pub inv3_1 : s.set BLR ⊆ c.D
  -- "m_card ∈ D ⇸ P"
  pub inv3_2 : Partial c.D c.P (s.map m_card)
  -- "m_ackn ⊆ D"
  pub inv3_3 : s.set m_ackn ⊆ c.D
  -- "the four sets dom(m_card), grn, red, and m_ackn form a partition of the set BLR"
  pub inv3_4 : (dom (s.map m_card) ∪ s.set grn ∪ s.set red ∪ s.set m_ackn) ≐ s.set BLR
  pub inv3_5 : Empty (dom (s.map m_card) ∩ (s.set grn ∪ s.set red ∪ s.set m_ackn))
  pub inv3_6 : Empty (s.set m_ackn ∩ (s.set grn ∪ s.set red))

-- everyone is outside, no light is lit, no reader is blocked, no message is under way
pub record Start (c : Constants) (s : State names) : Type 0 where
  pub sit : (p : ℕ) → c.P p → s.sit p ≡ c.out
  pub sets : (X : Sets) → Empty (s.set X)
  pub maps : (f : Maps) (x y : ℕ) → s.map f x y → ⊥

pub data Event : Type 0 where
  CARD accept refuse pass : ℕ → ℕ → Event
  off_grn off_red ACKN : ℕ → Event

abbrev pub Guard : Constants → State names → Event → Type 0
-- "p ∈ P, d ∈ D \ BLR"
Guard c s (CARD p d) = c.P p × c.D d × (s.set BLR d → ⊥)
-- "d ↦ p ∈ m_card" and the three
Guard c s (accept p d) = s.map m_card d p × Acceptable c s.sit (s.map dap) p d
Guard c s (refuse p d) = s.map m_card d p × (Acceptable c s.sit (s.map dap) p d → ⊥)
-- "d ∈ grn", p = dap⁻¹(d)
Guard c s (pass p d) = s.set grn d × s.map dap p d
-- "d ∈ grn"
Guard c s (off_grn d) = s.set grn d
-- "d ∈ red"
Guard c s (off_red d) = s.set red d
-- "d ∈ m_ackn"
Guard c s (ACKN d) = s.set m_ackn d

abbrev pub action : Constants → State names → Event → State names
-- "BLR := BLR ∪ {d}, m_card := m_card ∪ {d ↦ p}"
action c s (CARD p d) = s ▹ BLR ∪= d ▹ m_card ∪=⟨ d ⇒ p ⟩
-- "dap(p) := d, grn := grn ∪ {d}, m_card := m_card \ {d ↦ p}"
action c s (accept p d) = s ▹ dap at p := d ▹ grn ∪= d ▹ m_card ∖=⟨ d ⇒ p ⟩
-- "red := red ∪ {d}, m_card := m_card \ {d ↦ p}"
action c s (refuse p d) = s ▹ red ∪= d ▹ m_card ∖=⟨ d ⇒ p ⟩
-- "sit(dap⁻¹(d)) := dst(d), dap := dap ⩥ {d}, grn := grn \ {d}, m_ackn := m_ackn ∪ {d}"
action c s (pass p d) = s ▹ p sits_in c.dst d ▹ dap ⩥= d ▹ grn ∖= d ▹ m_ackn ∪= d
-- "dap := dap ⩥ {d}, grn := grn \ {d}, m_ackn := m_ackn ∪ {d}"
action c s (off_grn d) = s ▹ dap ⩥= d ▹ grn ∖= d ▹ m_ackn ∪= d
-- "red := red \ {d}, m_ackn := m_ackn ∪ {d}"
action c s (off_red d) = s ▹ red ∖= d ▹ m_ackn ∪= d
-- "BLR := BLR \ {d}, m_ackn := m_ackn \ {d}"
action c s (ACKN d) = s ▹ BLR ∖= d ▹ m_ackn ∖= d

abbrev pub machine : Constants → Machine
machine c = record { names = names; Event = Event; Start = Start c; Guard = Guard c; action = action c }

-- "the refinements of two events accept and refuse"; "the event pass is almost identical"; "a new physical event ACKN"
abbrev pub from : Event → Move m2.Event
from (CARD p d) = skip
from (accept p d) = event (m2.accept p d)
from (refuse p d) = event (m2.refuse p d)
from (pass p d) = event (m2.pass p d)
from (off_grn d) = event (m2.off_grn d)
from (off_red d) = event (m2.off_red d)
from (ACKN d) = skip

-- the variables of the second refinement: each is itself
abbrev pub set_named : m2.Sets → Sets
set_named m2.grn = grn
set_named m2.red = red

abbrev pub map_named : m2.Maps → Maps
map_named m2.dap = dap

abbrev pub see : State names → State m2.names
see s = record { sit = s.sit; set = λ X. s.set (set_named X); map = λ f. s.map (map_named f) }

-- the invariants of this machine and of those before
abbrev pub All : Constants → State names → Type 0
All c s = m2.All c (see s) × Inv c s
