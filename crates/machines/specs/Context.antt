-- The carrier sets, the constants and the axioms of 001, sections 3 to 5, and its safety requirements.
use Rattle.std.specs.Prelude.{ℕ, ◌≡◌, ◌↔◌, List, [], ◌∷◌}
use Rattle.machines.specs.Sets.{Set, Relation, Between, Total, only, ◌∖◌, ◌⊆◌}

pub record Constants : Type 1 where
  -- "the set P of person[s] and the set L of locations as carrier sets", "a new carrier set D which makes models of the doors"
  pub P : Set
  pub L : Set
  pub D : Set
  -- "a constant aut denoting the authorization permanently given to persons"
  pub aut : Relation
  -- "a special location, out, denoting the outside"
  pub out : ℕ
  -- "com, denoting the direct communication between two locations"
  pub «com» : Relation
  -- "a function, exit, connecting locations to locations"
  pub exit : ℕ → ℕ
  -- "a location of origin, represented by the total function org"; "a destination location, .. dst"
  pub org : ℕ → ℕ
  pub dst : ℕ → ℕ

pub record Axioms (c : Constants) : Type 1 where
  -- "a carrier set has the implicit unique property of being non-empty"
  pub some_p : (p : ℕ) × c.P p
  pub some_l : (l : ℕ) × c.L l
  pub some_d : (d : ℕ) × c.D d
  -- "aut .. is a binary relation built on the sets P and L"
  pub axm0_1 : Between c.P c.L c.aut
  -- "a special location, out"
  pub axm0_2 : c.L c.out
  -- "everyone is authorized to be in location out!"
  pub axm0_3 : (p : ℕ) → c.P p → c.aut p c.out
  -- "com ∈ L ↔ L"
  pub axm1_1 : Between c.L c.L c.«com»
  -- "com ∩ id = ∅": "A location does not 'communicate' with itself"
  pub axm1_2 : (l m : ℕ) → c.«com» l m → l ≡ m → ⊥
  -- "exit ∈ L \ {out} → L"
  pub axm1_3 : Total (c.L ∖ only c.out) c.L c.exit
  -- "∀ s · s ⊆ exit⁻¹[s] ⇒ s = ∅"
  pub axm1_4 : (s : Set) → s ⊆ (λ l. (c.L ∖ only c.out) l × s (c.exit l)) → (l : ℕ) → s l → ⊥
  -- "exit ⊆ com"
  pub axm1_5 : (l : ℕ) → (c.L ∖ only c.out) l → c.«com» l (c.exit l)
  -- "people must be authorized to follow the exit sign": aut ⩥ {out} ⊆ aut ; exit⁻¹, by SAF-3
  pub axm1_6 : (p l : ℕ) → c.aut p l → (l ≡ c.out → ⊥) → c.aut p (c.exit l)
  -- "∀ p · p ∈ P ⇒ (∃ l · p ↦ l ∈ aut ∧ out ↦ l ∈ com)"
  pub axm1_7 : (p : ℕ) → c.P p → (l : ℕ) × c.aut p l × c.«com» c.out l
  -- "org ∈ D → L", "dst ∈ D → L"
  pub axm2_1 : Total c.D c.L c.org
  pub axm2_2 : Total c.D c.L c.dst
  -- "com = (org⁻¹ ; dst)"
  pub axm2_3 : (l m : ℕ) → c.«com» l m ↔ ((d : ℕ) × c.D d × (c.org d ≡ l) × (c.dst d ≡ m))

-- SAF-1: "No persons must remain blocked in a location", whatever `sit` is: "∀ p · ∃ l · (p ↦ l ∈ aut ∧ sit(p) ↦ l ∈ com)"
abbrev pub SAF-1 : Constants → (ℕ → ℕ) → Type 0
SAF-1 c sit = (p : ℕ) → c.P p → (l : ℕ) × c.aut p l × c.«com» (sit p) l

-- SAF-2: "Any person authorized to be in a location must also be authorized to go in another location which communicates
-- with the first one."
abbrev pub SAF-2 : Constants → Type 0
SAF-2 c = (p l : ℕ) → c.aut p l → (m : ℕ) × c.aut p m × c.«com» l m

-- A way by which person p gets outside: each location communicates with the next, and p is authorized to be in it.
pub data Leads (c : Constants) (p : ℕ) : ℕ → List ℕ → Type 0 where
  outside : Leads c p c.out []
  onward : {l : ℕ} {m : ℕ} {rest : List ℕ} → c.aut p m → c.«com» l m → Leads c p m rest → Leads c p l (m ∷ rest)

-- SAF-3: "Any person authorized to be in a location which is not 'outside', must also be authorized to be in another location
-- communicating with the former and leading towards outside."
abbrev pub SAF-3 : Constants → Type 0
SAF-3 c = (p l : ℕ) → c.aut p l → (l ≡ c.out → ⊥) → (m : ℕ) × c.aut p m × c.«com» l m × ((rest : List ℕ) × Leads c p m rest)
