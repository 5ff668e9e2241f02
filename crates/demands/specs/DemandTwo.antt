-- Demand 2: "A site sheet is accepted exactly when it obeys the written rules, and its record holds what its rows say, so everybody
-- has a signed way outside which they may use. Each step does what the events of the location access chapter, to its fourth
-- refinement, say: it acts exactly when it may, is green exactly when all three conditions hold, otherwise red with the first reason
-- that applies." Behind it, what shuts out the wrong panels that 01 names ("What the promises leave no room for").
use Rattle.std.specs.Prelude.{ℕ, ◌-◌, ◌+◌, ◌≤◌, ◌<◌, ◌≡◌, List, ◌++◌, ◌⊎◌, ◌↔◌, length, get_or, drop, Ok}
use Rattle.tables.specs.Tables.{most_locations}
use Rattle.tables.specs.Rules.{SafeWay}
use Rattle.tables.specs.Way.{Way}
use Rattle.record.specs.declared.record.Record.{Record}
use Rattle.phases.specs.declared.table.Kind.{Kind}
use Rattle.phases.specs.declared.table.Kind.TheVariants.{Decide, Green, Red, Tick}
use Rattle.phases.specs.declared.answer.Answer.TheVariants.{Done, NotAllowed}
use Rattle.record.specs.declared.steps.Step.{Step}
use Rattle.phases.specs.Phase.{granted, green, expired, denied, red, dimmed, green_span, red_span}
use Rattle.door.specs.Door.{door}
use Rattle.record.specs.Doors.{plan_of, door_of, Shaped}
use Rattle.record.specs.Sound.{Sound}
use Rattle.record.specs.Steps.{Admitted, First, step_of}
use Rattle.record.specs.Run.{last_of}
use Rattle.phases.specs.declared.table.StepRow.{StepRow}
use Rattle.phases.specs.Answers.{reason_busy}
use Rattle.granting.specs.Grants.{GrantAt}
use Rattle.record.specs.Lights.{ticks, Each, NoWalk}
use Rattle.record.specs.Questions.{way_answer_of, way_written}
use Rattle.verdict.specs.Verdict.{Accepted}
use Rattle.grammar.specs.Sizes.{limit}
use Rattle.site_sheet.specs.Site.{site_of}
use Rattle.site_lines.specs.Gives.{Obeys}
use Rattle.site_sheet.specs.Accepted.{AcceptedRecord}
use Rattle.machines.specs.Context.{Constants, Axioms}
use Rattle.machines.specs.Machines.{Same}
use Rattle.machines.specs.M3.{dap}
use Rattle.machines.specs.M4.{Event}
use Rattle.machines.specs.M4 as m4
use Rattle.chapter.specs.Whole.{Chapter}
use Rattle.chapter.specs.Reading.{constants_of, state_of, StandsFor, LitAlready, MayAct, Uneventful, FirstFailing}
use Rattle.chapter.specs.Panel.{StartOfEach, OrderedAgain, OneMove, RunOfEach, Live}
use Rattle.run_events.specs.Lines.{heard_of, rows_heard}
use Rattle.run_events.specs.Burning.{LightsTold}
use Rattle.paper_cases.specs.Cases.{fresh_site}
use Rattle.paper_cases.specs.WholeRun.{run_of01}

-- ---- the way outside

-- the way out of location l by these exits, and the question for it
pub record WayAsked (exit : List ℕ) (r : Record) (l : ℕ) : Type 0 where
  pub way : List ℕ
  -- "its exit followed by the way out of that exit, and nothing for location 0"
  pub signed : Way exit l way
  -- "has at most 31 members"
  pub short : length way ≤ most_locations - 1
  -- and it is what the question for the way out tells and writes into any list that has room for it
  pub told : (list : List ℕ) → length way ≤ length list
      → (way_answer_of r l list ≡ Ok (length way)) × (way_written r l list ≡ way ++ drop (length way) list)

-- "everybody has a signed way outside which they may use": person p of record r, from where they are
pub record WayOutside (site r : Record) (p : ℕ) : Type 0 where
  pub asked : WayAsked site.exit r (get_or r.place p 0)
  -- to 0, through doors, by locations that they may be in
  pub usable : SafeWay (plan_of site) site.right p (get_or r.place p 0) asked.way

-- ---- a step and its event

-- "Each step does what the events of the location access chapter, to its fourth refinement, say"
pub record StepIsEvent (r : Record) (k : Kind) (d p : ℕ) : Type 0 where
  -- "it acts exactly when it may": its event's guard holds, and the light that it orders isn't burning already (02, C-13); or it is a tick
  -- that takes no light's last
  pub acts : ((step_of r k d p).answer ≡ Done) ↔ (MayAct r k d p ⊎ Uneventful r k d)
  -- acting, it does what the event does ..
  pub does : (e : Event) → (step_of r k d p).answer ≡ Done → StandsFor r d p k e → m4.Guard (constants_of r) (state_of r) e
      → Same (state_of (step_of r k d p).next) (m4.action (constants_of r) (state_of r) e)
  -- .. of which there is one at most
  pub one : (e f : Event) → StandsFor r d p k e → m4.Guard (constants_of r) (state_of r) e → StandsFor r d p k f → m4.Guard (constants_of r) (state_of r) f → e ≡ f
  -- to the chapter, such a tick is nothing
  pub ticks_on : Uneventful r k d → Same (state_of (step_of r k d p).next) (state_of r)
  pub no_event : (e : Event) → Uneventful r k d → StandsFor r d p k e → ⊥
  -- the order for a light that is burning already: 12, and nothing altered
  pub again : LitAlready (state_of r) d k → OrderedAgain r k d p
  -- a step that doesn't act alters nothing
  pub refused : ((step_of r k d p).answer ≡ Done → ⊥) → (step_of r k d p).next ≡ r
  -- and the next record is as sound as this one
  pub sound_again : Shaped (step_of r k d p).next × Sound (step_of r k d p).next

-- ---- a decision

-- the order for one light is taken and that light burns, and the order for the other is refused
pub record Light (r : Record) (d : ℕ) (on off : Kind) (burning : ℕ) : Type 0 where
  pub taken : (p : ℕ) → (step_of r on d p).answer ≡ Done
  pub burns : (p : ℕ) → (step_of r on d p).phase ≡ burning
  pub other : (p : ℕ) → (step_of r off d p).answer ≡ NotAllowed

-- "is green exactly when all three conditions hold, otherwise red with the first reason that applies": s is what `decide` answered
-- of the card that door d holds
pub record Decided (r : Record) (d : ℕ) (s : Step) : Type 0 where
  pub granted_when : (s.phase ≡ granted) ↔ Admitted r d (get_or r.holder d 0)
  pub denied_when : (s.phase ≡ denied) ↔ (Admitted r d (get_or r.holder d 0) → ⊥)
  pub green_then : Admitted r d (get_or r.holder d 0) → Light s.next d Green Red green
  pub red_then : (Admitted r d (get_or r.holder d 0) → ⊥) → Light s.next d Red Green red
  -- "the first that applies", in 01's words; and by the chapter's guards, with its door; 0 where all three hold
  pub reason : First r d (get_or r.holder d 0) s.reason
  pub guard : FirstFailing (constants_of r) (state_of r) (get_or r.holder d 0) d s.reason s.held

-- "`decide` must tell the door that is granted to the person, together with the reason" (02, C-12): s is what `decide` answered
pub record HeldIsTheGrant (r : Record) (d : ℕ) (s : Step) : Type 0 where
  -- in 01's words: that door and no other is in phases 2 to 5 with the person whose card door d holds, ..
  pub the_door : s.reason ≡ reason_busy → (e : ℕ) → (e ≡ s.held) ↔ GrantAt r.doors r.phase r.holder (get_or r.holder d 0) e
  -- .. and by the chapter: it is dap(p), which a record reads as just these grants (`map_of`). It isn't door d itself, which holds a card
  -- and no grant
  pub by_dap : s.reason ≡ reason_busy → (e : ℕ) → (e ≡ s.held) ↔ (state_of r).map dap (get_or r.holder d 0) e
  pub elsewhere : s.reason ≡ reason_busy → s.held ≡ d → ⊥
  -- "0 with any other reason"
  pub else_none : (s.reason ≡ reason_busy → ⊥) → s.held ≡ 0

-- ---- what steps alter

-- "The tables, and beside them ..": what the record keeps of the sheet is the same in both records
pub record SameTables (r next : Record) : Type 0 where
  -- the counts, the doors and the exits
  pub same_plan : plan_of next ≡ plan_of r
  pub same_rights : next.right ≡ r.right

-- an idle tick: the door is in neither 3 nor 7. "In any other phase: done, nothing altered."
pub record IdleTick (r : Record) (k : Kind) (d : ℕ) : Type 0 where
  pub tick : k ≡ Tick
  pub no_green : get_or r.phase d 0 ≡ green → ⊥
  pub no_red : get_or r.phase d 0 ≡ red → ⊥

-- "is expired after exactly as many of its own ticks as its countdown says": a light burns at door d of r. Through every list of steps of
-- which Through holds, it burns while the door's ticks are fewer than its countdown, which is less by just those; with the tick that
-- makes them as many it is out. The door's person stays
pub record CountsDown (r : Record) (d : ℕ) (Through : List StepRow → Type 0) (burning out : ℕ) : Type 0 where
  pub burns : (rows : List StepRow) → Through rows → ticks d rows < get_or r.count d 0
      → door_of (last_of r rows) d ≡ door burning (get_or r.holder d 0) (get_or r.count d 0 - ticks d rows)
  pub ends : (rows : List StepRow) → Through rows → ticks d rows + 1 ≡ get_or r.count d 0
      → (p : ℕ) → door_of (step_of (last_of r rows) Tick d p).next d ≡ door out (get_or r.holder d 0) 0

-- ---- all of it

pub record DemandTwo : Type 1 where
  -- "A site sheet is accepted exactly when it obeys the written rules,"
  pub accepted : (s : List ℕ) → ((site_of s).verdict ≡ Accepted) ↔ Obeys limit s
  -- "and its record holds what its rows say,"
  pub holds : (s : List ℕ) → (site_of s).verdict ≡ Accepted → AcceptedRecord limit s
  -- "so everybody has a signed way outside which they may use": in every sound record, and after any list of steps by the tables of
  -- the sheet's own record
  pub way_outside_of : (r : Record) → Shaped r → Sound r → (p : ℕ) → p < r.people → WayOutside r r p
  pub way_outside : (s : List ℕ) → (site_of s).verdict ≡ Accepted → (rows : List StepRow) (p : ℕ) → p < (site_of s).«record».people
      → WayOutside (site_of s).«record» (last_of (site_of s).«record» rows) p
  -- and after any list of steps the question tells the way out of every location by the exits of the sheet's own record
  pub way_asked : (s : List ℕ) → (site_of s).verdict ≡ Accepted → (rows : List StepRow) (l : ℕ) → l < (site_of s).«record».locations
      → WayAsked (site_of s).«record».exit (last_of (site_of s).«record» rows) l
  -- "Each step does what the events of the location access chapter .. say: it acts exactly when it may,"
  pub step : (r : Record) → Shaped r → Sound r → (k : Kind) (d p : ℕ) → StepIsEvent r k d p
  -- "is green exactly when all three conditions hold, otherwise red with the first reason that applies."
  pub decision : (r : Record) → Shaped r → Sound r → (d p : ℕ) → (step_of r Decide d p).answer ≡ Done → Decided r d (step_of r Decide d p)
  -- "Demands 2 and 3 read the reason with its door": reason 3 is told with the door of the person's grant
  pub held_is_the_grant : (r : Record) → Shaped r → Sound r → (d p : ℕ) → (step_of r Decide d p).answer ≡ Done → HeldIsTheGrant r d (step_of r Decide d p)
  -- "to its fourth refinement": the tables are constants as its axioms want them; of any such constants each machine keeps its
  -- invariants and refines the one before; every invariant holds of what a sound record reads as; the record of an accepted sheet
  -- reads as the initial state of each machine; and any list of steps is a run of each, row by row the event that the row's step
  -- stands for, or nothing
  pub axioms : (r : Record) → Sound r → Axioms (constants_of r)
  pub chapter : (c : Constants) → Axioms c → Chapter c
  pub invariants : (r : Record) → Sound r → m4.All (constants_of r) (state_of r)
  pub starts : (s : List ℕ) → (site_of s).verdict ≡ Accepted → StartOfEach (site_of s).«record»
  pub runs : (r : Record) → Shaped r → Sound r → (rows : List StepRow) → RunOfEach (constants_of r) r rows
  pub one_move : (r : Record) (row : StepRow) → OneMove r row
  -- and each door has an event that is enabled, and a step that acts and alters the record
  pub no_door_stuck : (r : Record) → Shaped r → Sound r → (d : ℕ) → d < r.doors → Live r d
  -- "a panel that refuses everything, one that gives one light always": on 01's site the steps of 01's run are answered as 01 prints
  -- them: row 2 is granted and row 6 denied, 9 and 10 are refused and all others act; and `where` prints 1 of person 0, 0 of person 1
  pub whole_run : heard_of fresh_site (rows_heard run_of01) ≡ run_of01
  pub whole_run_places : (get_or (last_of fresh_site (rows_heard run_of01)).place 0 0 ≡ 1) × (get_or (last_of fresh_site (rows_heard run_of01)).place 1 0 ≡ 0)
  -- whatever they do, a step and a list of steps leave the tables alone
  pub tables_stay : (r : Record) (k : Kind) (d p : ℕ) → SameTables r (step_of r k d p).next
  pub run_tables_stay : (r : Record) (rows : List StepRow) → SameTables r (last_of r rows)
  -- "one whose steps alter nothing": a step that acts leaves the record as it was if and only if it is an idle tick
  pub alters : (r : Record) → Shaped r → Sound r → (k : Kind) (d p : ℕ) → (step_of r k d p).answer ≡ Done
      → ((step_of r k d p).next ≡ r) ↔ IdleTick r k d
  -- "and one whose countdown isn't the span less its ticks": "`green`: .. countdown 300. `red`: .. countdown 20.",
  pub green_ordered : (r : Record) → Shaped r → Sound r → (d p : ℕ) → (step_of r Green d p).answer ≡ Done
      → door_of (step_of r Green d p).next d ≡ door green (get_or r.holder d 0) green_span
  pub red_ordered : (r : Record) → Shaped r → Sound r → (d p : ℕ) → (step_of r Red d p).answer ≡ Done
      → door_of (step_of r Red d p).next d ≡ door red (get_or r.holder d 0) red_span
  -- and from any countdown on, a light burns for just so many ticks: a green one through steps without a `walk` at its door, a red one
  -- through any steps
  pub green_counts : (r : Record) → Shaped r → Sound r → (d : ℕ) → d < r.doors → get_or r.phase d 0 ≡ green
      → CountsDown r d (Each (NoWalk d)) green expired
  pub red_counts : (r : Record) → Shaped r → Sound r → (d : ℕ) → d < r.doors → get_or r.phase d 0 ≡ red
      → CountsDown r d (λ rows. Unit {0}) red dimmed
  -- "Prove that between a grant's `green` and the step that ends its phase 3 lie at most 300 ticks of that door" (02, C-13), by what a run
  -- tells alone; and just 20 between `red` and the end of its phase 7
  pub lights : (r : Record) → Shaped r → Sound r → (rows : List StepRow) → LightsTold (heard_of r rows)
