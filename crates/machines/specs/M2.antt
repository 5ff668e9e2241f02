-- The second refinement (001, section 5): one-way doors, and who may pass which.
use Rattle.std.specs.Prelude.{ℕ, ◌≡◌}
use Rattle.machines.specs.Sets.{Relation, Injective, Empty, dom, ran, ◌∪◌, ◌∩◌, ◌⊆◌, ◌≐◌}
use Rattle.machines.specs.Context.{Constants}
use Rattle.machines.specs.Machines.{Names, State, Machine, Move, event, skip, ◌▹◌, ◌sits_in◌, ◌∪=◌, ◌∖=◌, ◌at◌:=◌, ◌⩥=◌}
use Rattle.machines.specs.M0 as m0
use Rattle.machines.specs.M1 as m1

-- "We introduce three new variables in this refinement, namely dap, grn, and red."
pub data Sets : Type 0 where
  grn red : Sets

pub data Maps : Type 0 where
  dap : Maps

abbrev pub set_no : Sets → ℕ
set_no grn = 0
set_no red = 1

abbrev pub map_no : Maps → ℕ
map_no dap = 0

abbrev pub names : Names
names = record { Sets = Sets; Maps = Maps; set_no = set_no; map_no = map_no }

pub record Inv (c : Constants) (s : State names) : Type 0 where
  -- "dap ∈ P ⤔ D"
  pub inv2_1 : Injective c.P c.D (s.map dap)
  -- "(dap ; org) ⊆ sit"
  pub inv2_2 : (p d : ℕ) → s.map dap p d → s.sit p ≡ c.org d
  -- "(dap ; dst) ⊆ aut"
  pub inv2_3 : (p d : ℕ) → s.map dap p d → c.aut p (c.dst d)
  -- "grn ⊆ D", "red ⊆ D"
  pub inv2_4 : s.set grn ⊆ c.D
  pub inv2_5 : s.set red ⊆ c.D
  -- "grn = ran(dap)"
  pub inv2_6 : s.set grn ≐ ran (s.map dap)
  -- "grn ∩ red = ∅"
  pub inv2_7 : Empty (s.set grn ∩ s.set red)

-- everyone is outside, no light is lit, nobody is involved with a door
pub record Start (c : Constants) (s : State names) : Type 0 where
  pub sit : (p : ℕ) → c.P p → s.sit p ≡ c.out
  pub sets : (X : Sets) → Empty (s.set X)
  pub maps : (f : Maps) (x y : ℕ) → s.map f x y → ⊥

pub data Event : Type 0 where
  accept refuse pass : ℕ → ℕ → Event
  off_grn off_red : ℕ → Event

-- "(1) person p must be situated at the origin of d, (2) person p is authorized to go at the destination of d, and finally (3)
-- person p is not already involved with a door": sit(p) = org(d), p ↦ dst(d) ∈ aut, p ∉ dom(dap)
pub record Acceptable (c : Constants) (sit : ℕ → ℕ) (dap : Relation) (p d : ℕ) : Type 0 where
  pub situated : sit p ≡ c.org d
  pub authorized : c.aut p (c.dst d)
  pub uninvolved : dom dap p → ⊥

abbrev pub Guard : Constants → State names → Event → Type 0
-- "p ∈ P, d ∈ D, d ∉ grn ∪ red" and the three
Guard c s (accept p d) = c.P p × c.D d × ((s.set grn ∪ s.set red) d → ⊥) × Acceptable c s.sit (s.map dap) p d
-- "an additional guard which is the negation of the conjunction of the three previous guards"
Guard c s (refuse p d) = c.P p × c.D d × ((s.set grn ∪ s.set red) d → ⊥) × (Acceptable c s.sit (s.map dap) p d → ⊥)
-- "d ∈ grn", "with p = dap⁻¹(d)"
Guard c s (pass p d) = s.set grn d × s.map dap p d
-- "d ∈ grn"
Guard c s (off_grn d) = s.set grn d
-- "d ∈ red"
Guard c s (off_red d) = s.set red d

abbrev pub action : Constants → State names → Event → State names
-- "dap(p) := d, grn := grn ∪ {d}"
action c s (accept p d) = s ▹ dap at p := d ▹ grn ∪= d
-- "red := red ∪ {d}"
action c s (refuse p d) = s ▹ red ∪= d
-- "sit(dap⁻¹(d)) := dst(d), dap := dap ⩥ {d}, grn := grn \ {d}"
action c s (pass p d) = s ▹ p sits_in c.dst d ▹ dap ⩥= d ▹ grn ∖= d
-- "dap := dap ⩥ {d}, grn := grn \ {d}"
action c s (off_grn d) = s ▹ dap ⩥= d ▹ grn ∖= d
-- "red := red \ {d}"
action c s (off_red d) = s ▹ red ∖= d

abbrev pub machine : Constants → Machine
machine c = record { names = names; Event = Event; Start = Start c; Guard = Guard c; action = action c }

-- "the new version of the event pass refines its abstraction", "with p = dap⁻¹(d), l = dst(d)"; "the new events all refine
-- .. skip"
abbrev pub from : Constants → Event → Move m1.Event
from c (accept p d) = skip
from c (refuse p d) = skip
from c (pass p d) = event (m1.pass p (c.dst d))
from c (off_grn d) = skip
from c (off_red d) = skip

-- sit is sit
abbrev pub see : State names → State m0.names
see s = record { sit = s.sit; set = λ x. absurd x; map = λ x. absurd x }

-- the invariants of this machine and of those before
abbrev pub All : Constants → State names → Type 0
All c s = m0.Inv c (see s) × Inv c s
