-- What a machine is: the state of its variables, its events with guard and action, the steps of its runs, and what it is
-- that one machine refines another. An action is a chain of assignments; what none of them names stays as it was.
-- Names are the chapter's, with a hyphen where it has an underscore.
use Rattle.std.specs.Prelude.{ℕ, ◌≡◌, cond, ◌⊎◌, ◌↔◌, eqb}
use Rattle.machines.specs.Sets.{Set, Relation, only, ◌∪◌, ◌∖◌, ◌≐◌}

-- The names of a machine's variables, numbered: those that are sets of doors, and those that are partial functions.
pub record Names : Type 1 where
  pub Sets : Type 0
  pub Maps : Type 0
  pub set_no : Sets → ℕ
  pub map_no : Maps → ℕ

-- The values of a machine's variables. `sit` is a variable of every machine.
pub record State (n : Names) : Type 1 where
  pub sit : ℕ → ℕ
  pub set : n.Sets → Set
  pub map : n.Maps → Relation

-- two states in which every variable has the same value
pub record Same {n : Names} (s t : State n) : Type 0 where
  pub sit : (p : ℕ) → s.sit p ≡ t.sit p
  pub set : (X : n.Sets) → s.set X ≐ t.set X
  pub map : (f : n.Maps) (x y : ℕ) → s.map f x y ↔ t.map f x y

-- ---- assignments

infixl 10 ◌▹◌
infix 20 ◌sits_in◌ ◌∪=◌ ◌∖=◌ ◌at◌:=◌ ◌⩥=◌ ◌∪=⟨◌⇒◌⟩ ◌∖=⟨◌⇒◌⟩
-- s, and then ..
abbrev pub ◌▹◌ : {n : Names} → State n → (State n → State n) → State n
s ▹ f = f s

-- sit(p) := l
abbrev pub ◌sits_in◌ : {n : Names} → ℕ → ℕ → State n → State n
◌sits_in◌ p l s = record { sit = λ q. cond (eqb q p) l (s.sit q); set = s.set; map = s.map }

-- X is given this value
abbrev pub put_set : {n : Names} → n.Sets → (Set → Set) → State n → State n
put_set {n} X to s =
    record { sit = s.sit; set = λ Y. cond (eqb (n.set_no X) (n.set_no Y)) (to (s.set Y)) (s.set Y); map = s.map }

-- X := X ∪ {d}
abbrev pub ◌∪=◌ : {n : Names} → n.Sets → ℕ → State n → State n
X ∪= d = put_set X (λ A. A ∪ only d)

-- X := X \ {d}
abbrev pub ◌∖=◌ : {n : Names} → n.Sets → ℕ → State n → State n
X ∖= d = put_set X (λ A. A ∖ only d)

-- f is given this value
abbrev pub put_map : {n : Names} → n.Maps → (Relation → Relation) → State n → State n
put_map {n} f to s =
    record { sit = s.sit; set = s.set; map = λ g. cond (eqb (n.map_no f) (n.map_no g)) (to (s.map g)) (s.map g) }

-- f(x) := y
abbrev pub ◌at◌:=◌ : {n : Names} → n.Maps → ℕ → ℕ → State n → State n
f at x := y = put_map f (λ g u v. ((u ≡ x) × (v ≡ y)) ⊎ ((u ≡ x → ⊥) × g u v))

-- f := f ⩥ {y}, which the print shows as a join: the pairs of f that don't end in y
abbrev pub ◌⩥=◌ : {n : Names} → n.Maps → ℕ → State n → State n
f ⩥= y = put_map f (λ g u v. g u v × (v ≡ y → ⊥))

-- f := f ∪ {x ↦ y}
abbrev pub ◌∪=⟨◌⇒◌⟩ : {n : Names} → n.Maps → ℕ → ℕ → State n → State n
f ∪=⟨ x ⇒ y ⟩ = put_map f (λ g u v. g u v ⊎ ((u ≡ x) × (v ≡ y)))

-- f := f \ {x ↦ y}
abbrev pub ◌∖=⟨◌⇒◌⟩ : {n : Names} → n.Maps → ℕ → ℕ → State n → State n
f ∖=⟨ x ⇒ y ⟩ = put_map f (λ g u v. g u v × ((u ≡ x) × (v ≡ y) → ⊥))

-- ---- machines

pub record Machine : Type 1 where
  pub names : Names
  pub Event : Type 0
  -- the event `init`
  pub Start : State names → Type 0
  pub Guard : State names → Event → Type 0
  pub action : State names → Event → State names

-- What happens in a step of a run: an event, or nothing, "the event which does nothing, skip".
pub data Move (Event : Type 0) : Type 0 where
  event : Event → Move Event
  skip : Move Event

-- One step of a run, from s to t: an event that its guard allows, with its action; or nothing.
abbrev pub MachineStep : (m : Machine) → State m.names → Move m.Event → State m.names → Type 0
MachineStep m s (event e) t = m.Guard s e × Same t (m.action s e)
MachineStep m s skip t = Same t s

-- ---- refinement

-- Invariants that hold at the start and that every event keeps. (They can't tell states that are the same.)
pub record Keeps (m : Machine) (Inv : State m.names → Type 0) : Type 1 where
  pub starts : (s : State m.names) → m.Start s → Inv s
  pub keeps : (s : State m.names) (e : m.Event) → Inv s → m.Guard s e → Inv (m.action s e)
  pub same : (s t : State m.names) → Same t s → Inv s → Inv t

-- Machine c refines machine a. `see` finds the variables of a in a state of c. `from` tells which event of a an event of c
-- refines; a new one is to "refine the event which does nothing, skip". `Before` are the invariants of a, `Inv` those that c adds.
pub record Refines (a c : Machine) (see : State c.names → State a.names) (from : c.Event → Move a.Event)
    (Before : State a.names → Type 0) (Inv : State c.names → Type 0) : Type 1 where
  pub starts : (s : State c.names) → c.Start s → a.Start (see s)
  pub simulates : (s : State c.names) (e : c.Event) → Before (see s) → Inv s → c.Guard s e → MachineStep a (see s) (from e) (see (c.action s e))
  -- the invariants that c adds hold at the start, and its events keep them
  pub begins : (s : State c.names) → c.Start s → Inv s
  pub keeps : (s : State c.names) (e : c.Event) → Before (see s) → Inv s → c.Guard s e → Inv (c.action s e)
  -- states that are the same are seen alike
  pub see_same : (s t : State c.names) → Same t s → Same (see t) (see s)
  pub inv_same : (s t : State c.names) → Same t s → Inv s → Inv t

-- What machine a sees of a move of c: nothing of nothing, and of an event the one that it refines.
abbrev pub seen : {A C : Type 0} → (C → Move A) → Move C → Move A
seen from (event e) = from e
seen from skip = skip
