-- How a record is read as a state of the fourth refinement (01, "The record", the table of phases, column "In 001"), and which
-- event each step of 01 stands for.
use Rattle.std.specs.Prelude.{ℕ, ◌≤◌, ◌<◌, ◌≡◌, Bool, true, not, List, get_or, eqb}
use Rattle.tables.specs.Tables.{Plan, may_be, or_else}
use Rattle.tables.specs.Rules.{DoorFrom}
use Rattle.record.specs.declared.record.Record.{Record}
use Rattle.phases.specs.declared.table.Kind.{Kind}
use Rattle.phases.specs.declared.table.Kind.TheVariants.{Card, Decide, Green, Red, Walk, Tick, Passed, Lapsed, Dark, Ack}
use Rattle.phases.specs.Phase.{free, read, granted, green, walked, expired, denied, red, dimmed, closed}
use Rattle.record.specs.Doors.{plan_of}
use Rattle.granting.specs.Grants.{GrantAt}
use Rattle.machines.specs.Context.{Constants}
use Rattle.machines.specs.Machines.{State}
use Rattle.machines.specs.M0 as m0
use Rattle.machines.specs.M2 as m2
use Rattle.machines.specs.M2.{Acceptable}
use Rattle.machines.specs.M3 as m3
use Rattle.machines.specs.M3.{Maps, dap, m_card}
use Rattle.machines.specs.M4.{Sets, BLR, m_ackn, m_accept, GRN, m_pass, m_off_grn, m_refuse, RED, m_off_red}
use Rattle.machines.specs.M4.{Event, CARD, accept, refuse, pass, ACCEPT, PASS, OFF-GRN, off_grn, REFUSE, OFF-RED, off_red, ACKN}
use Rattle.machines.specs.M4 as m4

-- ---- the constants of a site

-- "All are numbered from 0. Location 0 is outside."
abbrev pub constants_in : Plan → List Bool → Constants
constants_in site right =
    record {
      P = λ p. p < site.people;
      L = λ l. l < site.locations;
      D = λ d. d < site.doors;
      aut = λ p l. (p < site.people) × (l < site.locations) × (may_be right p l ≡ true);
      out = 0;
      «com» = DoorFrom site;
      exit = λ l. get_or site.exit l 0;
      org = λ d. get_or site.origin d 0;
      dst = λ d. get_or site.destination d 0;
    }

abbrev pub constants_of : Record → Constants
constants_of r = constants_in (plan_of r) r.right

-- ---- the state of a record

-- column "In 001": the phases of the doors in each set
unfoldable pub is_in : Sets → ℕ → Bool
-- "0 free: not in BLR"
is_in BLR phase = not (eqb phase free)
-- "2 granted: m_accept without GRN", "3 green: GRN", which is in m_accept (inv4-4)
is_in m_accept phase = or_else (eqb phase granted) (eqb phase green)
is_in GRN phase = eqb phase green
-- "4 walked: m_pass"
is_in m_pass phase = eqb phase walked
-- "5 expired: mOff_grn"
is_in m_off_grn phase = eqb phase expired
-- "6 denied: m_refuse without RED", "7 red: RED", which is in m_refuse (inv4-7)
is_in m_refuse phase = or_else (eqb phase denied) (eqb phase red)
is_in RED phase = eqb phase red
-- "8 dimmed: mOff_red"
is_in m_off_red phase = eqb phase dimmed
-- "9 closed: m_ackn"
is_in m_ackn phase = eqb phase closed

-- the doors of a record that are in set X
pub record DoorIn (r : Record) (X : Sets) (d : ℕ) : Type 0 where
  pub exists : d < r.doors
  pub phase : is_in X (get_or r.phase d 0) ≡ true

-- "1 read: m_card": door d holds the card of p
pub record CardAt (r : Record) (d p : ℕ) : Type 0 where
  pub exists : d < r.doors
  pub phase : get_or r.phase d 0 ≡ read
  pub person : get_or r.holder d 0 ≡ p

abbrev pub map_of : Record → Maps → ℕ → ℕ → Type 0
-- "Phases 2 to 5 hold a grant"
map_of r dap = GrantAt r.doors r.phase r.holder
map_of r m_card = CardAt r

abbrev pub state_of : Record → State m4.names
state_of r = record { sit = λ p. get_or r.place p 0; set = DoorIn r; map = map_of r }

-- and, seen from there, the states of the machines before
abbrev pub state_of3 : Record → State m3.names
state_of3 r = m4.see (state_of r)

abbrev pub state_of2 : Record → State m2.names
state_of2 r = m3.see (state_of3 r)

-- the first refinement and the initial model have the same variable
abbrev pub state_of1 : Record → State m0.names
state_of1 r = m2.see (state_of2 r)

-- ---- which event a step stands for

-- The step k at door d, with p the person of a card. A `decide` stands for accept or refuse, of which one is enabled. A `tick` stands
-- for an event where the countdown reaches 0, and else for nothing.
pub data StandsFor (r : Record) (d p : ℕ) : Kind → Event → Type 0 where
  card : StandsFor r d p Card (CARD p d)
  grant : StandsFor r d p Decide (accept (get_or r.holder d 0) d)
  denial : StandsFor r d p Decide (refuse (get_or r.holder d 0) d)
  green_order : StandsFor r d p Green (ACCEPT d)
  walk : StandsFor r d p Walk (PASS d)
  expiry : get_or r.phase d 0 ≡ green → get_or r.count d 0 ≤ 1 → StandsFor r d p Tick (OFF-GRN d)
  passage : StandsFor r d p Passed (pass (get_or r.holder d 0) d)
  lapse : StandsFor r d p Lapsed (off_grn d)
  red_order : StandsFor r d p Red (REFUSE d)
  dimming : get_or r.phase d 0 ≡ red → get_or r.count d 0 ≤ 1 → StandsFor r d p Tick (OFF-RED d)
  darkness : StandsFor r d p Dark (off_red d)
  acknowledgement : StandsFor r d p Ack (ACKN d)

-- the event that the step stands for is enabled
pub record Enabled (r : Record) (k : Kind) (d p : ℕ) : Type 0 where
  pub event : Event
  pub stands : StandsFor r d p k event
  pub guard : m4.Guard (constants_of r) (state_of r) event

-- ---- where the panel is stricter than the chapter

-- The light that the step orders at door d is burning already. The guards of ACCEPT and REFUSE (d ∈ m_accept, d ∈ m_refuse) hold there
-- too, but "`green` in phase 3 and `red` in phase 7 aren't allowed any more" (02, C-13). This is the one place where the panel asks more
-- than a guard of the chapter.
pub data LitAlready (s : State m4.names) (d : ℕ) : Kind → Type 0 where
  green_lit : s.set GRN d → LitAlready s d Green
  red_lit : s.set RED d → LitAlready s d Red

-- so a step may act where its event is enabled, unless it orders a light that is burning already
pub record MayAct (r : Record) (k : Kind) (d p : ℕ) : Type 0 where
  pub enabled : Enabled r k d p
  pub unlit : LitAlready (state_of r) d k → ⊥

-- ---- a tick that is no event

-- no light burns at its door, or the light's countdown doesn't reach 0
pub record Uneventful (r : Record) (k : Kind) (d : ℕ) : Type 0 where
  pub tick : k ≡ Tick
  pub exists : d < r.doors
  pub green_on : get_or r.phase d 0 ≡ green → 1 < get_or r.count d 0
  pub red_on : get_or r.phase d 0 ≡ red → 1 < get_or r.count d 0

-- ---- why a card is refused

-- The first of the three guards of accept that fails, by 01's number: "reason 1 (not at the origin), 2 (no right), 3 (grant
-- elsewhere), the first that applies"; 0 where none fails. Behind it the door told with it (02, C-12): dap(p) with reason 3, else 0.
pub data FirstFailing (c : Constants) (s : State m4.names) (p d : ℕ) : ℕ → ℕ → Type 0 where
  none : Acceptable c s.sit (s.map dap) p d → FirstFailing c s p d 0 0
  situated : (s.sit p ≡ c.org d → ⊥) → FirstFailing c s p d 1 0
  authorized : s.sit p ≡ c.org d → (c.aut p (c.dst d) → ⊥) → FirstFailing c s p d 2 0
  uninvolved : s.sit p ≡ c.org d → c.aut p (c.dst d) → {e : ℕ} → s.map dap p e → ((f : ℕ) → s.map dap p f → f ≡ e) → FirstFailing c s p d 3 e
