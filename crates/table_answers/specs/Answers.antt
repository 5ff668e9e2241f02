-- Demand 1 of lists, tables, phases and one door: each field is a public function of the crates `lists`, `rules`, `phases`, `door`, `door_fits`
-- and `door_does`, and says what follows of the definition that its promise cites. A function that answers no number tells a fact,
-- exactly where its field has `Tells`, `Answers` or `↔`.
use Rattle.std.specs.Prelude.{ℕ, ◌-◌, ◌≤◌, ◌<◌, ◌≡◌, Bool, true, false, List, [], ◌∷◌, ◌++◌, ◌⊎◌, ◌↔◌, length, get_or, set, drop, Some, Ok, Err}
use Rattle.numbers.specs.Numbers.{done_no, no_such_no, not_allowed_no, too_short_no, unsound_no}
use Rattle.tables.specs.Tables.{Plan, right_at, may_be, most_locations}
use Rattle.tables.specs.Below.{Tells, Answers, AnswersPair}
use Rattle.tables.specs.Rules.{PlanInRange, FirstLocation, ExitDoor, ExitRight, Lawful}
use Rattle.tables.specs.Tests.{plan_in_range, first_no_exit, first_stray, first_no_door, first_no_right, first_shut_out, lawful_b}
use Rattle.tables.specs.Way.{LeadsOut, way_of, way_told_in, way_written_in}
use Rattle.phases.specs.declared.table.Kind.{Kind}
use Rattle.phases.specs.declared.table.Kind.TheVariants.{Tick, Passed, Unknown}
use Rattle.phases.specs.declared.answer.Answer.{Answer}
use Rattle.phases.specs.Answers.{answer_no, reason_none, reason_away, reason_barred, reason_busy}
use Rattle.door.specs.declared.Door.{Door}
use Rattle.door_does.specs.declared.Does.{Does}
use Rattle.door_does.specs.declared.Does.TheVariants.{Stays, Turns, Moves}
use Rattle.phases.specs.Phase.{free, read, granted, green, walked, expired, denied, red, dimmed, closed, green_span, red_span, keeps, grants, least_count, most_count}
use Rattle.door.specs.Door.{door, free_door, door_in}
use Rattle.door_fits.specs.Fits.{fields_fit}
use Rattle.door_does.specs.Does.{effect}
use Rattle.phases.specs.Kinds.{kind_of, number_of_kind, allows}
use Rattle.phases.specs.Table.{asked}
use Rattle.numbers.specs.Telling.{OneOf}
use Rattle.findings.specs.Told.{too_short}

-- ---- crate `lists`

-- a number put at a place of a list: it stands there, all else is as it was, and past the list's end nothing is written
pub record PutTells (list : List ℕ) (at n : ℕ) : Type 0 where
  pub as_long : length (set list at n) ≡ length list
  pub there : at < length list → get_or (set list at n) at 0 ≡ n
  pub others : (i : ℕ) → (i ≡ at → ⊥) → get_or (set list at n) i 0 ≡ get_or list i 0
  pub past : length list ≤ at → set list at n ≡ list

-- n is read at a place of a list: what has so many before it, and past the list's end what is read of nothing
pub record ReadTells {A : Type 0} (nothing : A) (list : List A) (at : ℕ) (n : A) : Type 0 where
  pub there : (before : List A) (x : A) (after : List A) → list ≡ before ++ x ∷ after → length before ≡ at → n ≡ x
  pub past : length list ≤ at → n ≡ nothing

pub record TablesAnswers : Type 0 where
  pub byte_at : (list : List ℕ) (at : ℕ) → ReadTells 0 list at (get_or list at 0)
  pub word_at : (list : List ℕ) (at : ℕ) → ReadTells 0 list at (get_or list at 0)
  pub flag_at : (list : List Bool) (at : ℕ) → ReadTells false list at (get_or list at false)
  pub put_byte : (list : List ℕ) (at n : ℕ) → PutTells list at n
  pub put_word : (list : List ℕ) (at n : ℕ) → PutTells list at n

-- ---- crate `rules`

-- 13: "list lent for a way out is shorter than the way"; else its length is told, and it stands in front, the rest unaltered
pub record WayTells (way list : List ℕ) : Type 0 where
  pub short : length list < length way → (way_told_in way list ≡ Err too_short) × (way_written_in way list ≡ list)
  pub room : length way ≤ length list → (way_told_in way list ≡ Ok (length way)) × (way_written_in way list ≡ way ++ drop (length way) list)
  pub most : length way ≤ most_locations - 1

-- a test tells its rule, and a search answers none exactly when the rule holds, and else its smallest offender (`Answers` of `tables`)
pub record RulesAnswers : Type 0 where
  -- "person p may be in l .. Location 0 is everybody's": else the right stands in the table, which ends at the last location
  pub may_be_lem : (right : List Bool) (p l : ℕ) → Tells (may_be right p l) ((l ≡ 0) ⊎ ((l < most_locations) × (right_at right p l ≡ true)))
  pub in_range : (most : ℕ) (site : Plan) → Tells (plan_in_range most site) (PlanInRange most site)
  pub first_no_exit_lem : (locations : ℕ) (given : List Bool) → Answers (first_no_exit locations given) (λ l. 1 ≤ l → get_or given l false ≡ true) locations
  -- so where the exits are in range; elsewhere too a location that is told is there
  pub first_stray_lem : (locations : ℕ) (exit : List ℕ)
      → ((l : ℕ) → first_stray locations exit ≡ Some l → l < locations)
      × (1 ≤ locations → locations ≤ most_locations → ((l : ℕ) → l < locations → get_or exit l 0 < locations)
      → Answers (first_stray locations exit) (LeadsOut exit) locations)
  pub first_no_door_lem : (site : Plan) → Answers (first_no_door site) (ExitDoor site) site.locations
  pub first_no_right_lem : (site : Plan) (right : List Bool) → AnswersPair (first_no_right site right) (ExitRight site right) site.people site.locations
  pub first_shut_out_lem : (site : Plan) (right : List Bool) → Answers (first_shut_out site right) (FirstLocation site right) site.people
  pub lawful : (most : ℕ) (site : Plan) (right : List Bool) → Tells (lawful_b most site right) (Lawful most site right)
  pub way_by_exits : (locations : ℕ) (exit : List ℕ) (from : ℕ) (list : List ℕ) → WayTells (way_of locations exit from) list

-- ---- crates `phases`, `door`, `door_fits` and `door_does`

-- "reason 1 (not at the origin), 2 (no right), 3 (grant elsewhere)", and 0 for none
pub data IsReason : ℕ → Type 0 where
  none : IsReason reason_none
  away : IsReason reason_away
  barred : IsReason reason_barred
  busy : IsReason reason_busy

-- "In any other phase: done, nothing altered.": a tick at a door in neither 3 nor 7, and what is no step
abbrev pub Idles : Kind → Door → Type 0
Idles k c = ((k ≡ Tick) × (c.phase ≡ green → ⊥) × (c.phase ≡ red → ⊥)) ⊎ (k ≡ Unknown)

-- what a list has for a step: the ten stand in the paper's order, `card`, `decide`, `green`, `red`, `walk`, `tick`, `passed`, `lapsed`, `dark`, `ack`
abbrev pub of_step : Kind → List ℕ → ℕ
of_step k list = get_or list (number_of_kind k) 0

-- "0 to 1", "1 to 2", "3 to 4", "4 to 9", "5 to 9", "8 to 9", "9 to 0", and by 02, C-13, 2 to 3 and 6 to 7: the phase that a step leads to, but a tick and a
-- denial
abbrev pub phase_then : Kind → ℕ
phase_then k = of_step k (read ∷ granted ∷ green ∷ red ∷ walked ∷ 0 ∷ closed ∷ closed ∷ closed ∷ free ∷ [])

-- "holding the person", "person dropped": whom the door holds then, but after a denial
abbrev pub holder_then : Kind → ℕ → Door → ℕ
holder_then k p c = of_step k (p ∷ c.holder ∷ c.holder ∷ c.holder ∷ c.holder ∷ c.holder ∷ 0 ∷ 0 ∷ c.holder ∷ 0 ∷ [])

-- "countdown 300", "countdown 20", "the countdown falls by one", and 0 in all other phases
abbrev pub count_then : Kind → Door → ℕ
count_then k c = of_step k (0 ∷ 0 ∷ green_span ∷ red_span ∷ 0 ∷ (c.count - 1) ∷ 0 ∷ 0 ∷ 0 ∷ 0 ∷ [])

-- a step of kind k, p the person of a card and why the reason for a denial, turns a door that is c into x and tells a reason
pub record DoorTurned (k : Kind) (p why : ℕ) (c x : Door) (told : ℕ) : Type 0 where
  -- `decide` tells the reason, and no other step tells one
  pub the_reason : told ≡ of_step k (0 ∷ why ∷ [])
  -- "1 to .. 6", "Denied drops the person."
  pub denies : (told ≡ reason_none → ⊥) → x ≡ door denied 0 0
  pub the_phase : told ≡ reason_none → (k ≡ Tick → ⊥) → x.phase ≡ phase_then k
  pub the_holder : told ≡ reason_none → x.holder ≡ holder_then k p c
  pub the_count : x.count ≡ count_then k c
  -- "on reaching 0 the phase becomes 5 or 8"
  pub burns_on : k ≡ Tick → (x.count ≡ 0 → ⊥) → x.phase ≡ c.phase
  pub goes_out : k ≡ Tick → x.count ≡ 0 → ((c.phase ≡ green) × (x.phase ≡ expired)) ⊎ ((c.phase ≡ red) × (x.phase ≡ dimmed))
  -- so a door in one of the ten phases is left in one of them, and of the reasons one is told
  pub of_the_ten : c.phase ≤ closed → x.phase ≤ closed
  pub a_reason : IsReason why → IsReason told

-- what such a step does at such a door: nothing exactly where it has nothing to do, a person is moved exactly by `passed`, "4 to 9; .. the
-- person is dropped", and else the door is turned
pub record DoesTells (k : Kind) (p why : ℕ) (c : Door) (does : Does) : Type 0 where
  pub stays : (does ≡ Stays) ↔ Idles k c
  pub moves : (x : Door) → (does ≡ Moves x) ↔ ((k ≡ Passed) × (x ≡ door closed 0 0))
  pub turns : (x : Door) (told : ℕ) → does ≡ Turns x told → DoorTurned k p why c x told

-- "each door's fields fit": the phase is one of the ten, a held person exists, and the countdown is within the bounds of its phase
pub record DoorFits (people : ℕ) (c : Door) : Type 0 where
  pub known : c.phase ≤ closed
  pub held : keeps c.phase ≡ true → c.holder < people
  pub nobody : (keeps c.phase ≡ true → ⊥) → c.holder ≡ 0
  pub least : least_count c.phase ≤ c.count
  pub most : c.count ≤ most_count c.phase

pub record DoorAnswers : Type 0 where
  -- the table's numbers of steps and questions
  pub answer_number : (a : Answer) → OneOf (done_no ∷ no_such_no ∷ not_allowed_no ∷ too_short_no ∷ unsound_no ∷ []) (answer_no a)
  -- the numbers past those of the ten steps, and they alone, name no step; no phase allows that
  pub kind_of_lem : (n : ℕ) → (kind_of n ≡ Unknown) ↔ (number_of_kind Unknown ≤ n)
  -- the number of a step names it
  pub kind_number : (k : Kind) → kind_of (number_of_kind k) ≡ k
  -- "one fixed table, a hundred entries": at the ten phases it says what the steps' own rules say
  pub allowed_in : (k : Kind) (phase : ℕ) → phase ≤ closed → asked k phase ≡ allows k phase
  -- "Phases 2 to 5 hold a grant"
  pub grants : (phase : ℕ) → Tells (grants phase) ((granted ≤ phase) × (phase ≤ expired))
  -- a door has the phase, the person and the countdown that it is made with
  pub new : (phase holder count : ℕ) → ((door phase holder count).phase ≡ phase) × ((door phase holder count).holder ≡ holder) × ((door phase holder count).count ≡ count)
  -- a door among lists has what each of them has for it, and past a list's end 0: beyond all three it is free
  pub among : (phase holder count : List ℕ) (d : ℕ)
      → ReadTells 0 phase d (door_in phase holder count d).phase
      × ReadTells 0 holder d (door_in phase holder count d).holder
      × ReadTells 0 count d (door_in phase holder count d).count
  -- "0 free": person 0, countdown 0; and it fits, whatever the people
  pub free : (free_door.phase ≡ free) × (free_door.holder ≡ 0) × (free_door.count ≡ 0) × ((people : ℕ) → DoorFits people free_door)
  pub fits : (people : ℕ) (c : Door) → Tells (fields_fit people c) (DoorFits people c)
  pub does : (k : Kind) (p why : ℕ) (c : Door) → DoesTells k p why c (effect k p why c)
