-- The ten steps and which of them a phase allows (01, "Steps").
use Rattle.std.specs.Prelude.{ℕ, Bool, true, false, cond, eqb}
use Rattle.phases.specs.declared.table.Kind.{Kind}
use Rattle.phases.specs.declared.table.Kind.TheVariants.{Card, Decide, Green, Red, Walk, Tick, Passed, Lapsed, Dark, Ack, Unknown}
use Rattle.phases.specs.Phase.{free, read, granted, green, walked, expired, denied, dimmed, closed}

-- the ten steps by number, in the paper's order; any other number is an unknown step
unfoldable pub kind_of : ℕ → Kind
kind_of n =
    cond (eqb n 0) Card
    (cond (eqb n 1) Decide
    (cond (eqb n 2) Green
    (cond (eqb n 3) Red
    (cond (eqb n 4) Walk
    (cond (eqb n 5) Tick
    (cond (eqb n 6) Passed
    (cond (eqb n 7) Lapsed
    (cond (eqb n 8) Dark
    (cond (eqb n 9) Ack
    Unknown)))))))))

-- and back
abbrev pub number_of_kind : Kind → ℕ
number_of_kind Card = 0
number_of_kind Decide = 1
number_of_kind Green = 2
number_of_kind Red = 3
number_of_kind Walk = 4
number_of_kind Tick = 5
number_of_kind Passed = 6
number_of_kind Lapsed = 7
number_of_kind Dark = 8
number_of_kind Ack = 9
number_of_kind Unknown = 10

-- "Which step a phase allows": each step's own rule
unfoldable pub allows : Kind → ℕ → Bool
-- "`card`: 0 to 1"
allows Card phase = eqb phase free
-- "`decide`: 1 to 2 or 6"
allows Decide phase = eqb phase read
-- `green`: 2 to 3, and `red`: 6 to 7: "`green` in phase 3 and `red` in phase 7 aren't allowed any more" (02, C-13)
allows Green phase = eqb phase granted
allows Red phase = eqb phase denied
-- "`walk`: 3 to 4"
allows Walk phase = eqb phase green
-- "`tick`: .. In any other phase: done, nothing altered."
allows Tick phase = true
-- "`passed`: 4 to 9"
allows Passed phase = eqb phase walked
-- "`lapsed`: 5 to 9"
allows Lapsed phase = eqb phase expired
-- "`dark`: 8 to 9"
allows Dark phase = eqb phase dimmed
-- "`ack`: 9 to 0"
allows Ack phase = eqb phase closed
-- "Everything else is 12."
allows Unknown phase = false

-- "Each names a door; `card` also a person."
abbrev pub names_person : Kind → Bool
names_person Card = true
names_person Decide = false
names_person Green = false
names_person Red = false
names_person Walk = false
names_person Tick = false
names_person Passed = false
names_person Lapsed = false
names_person Dark = false
names_person Ack = false
names_person Unknown = false
