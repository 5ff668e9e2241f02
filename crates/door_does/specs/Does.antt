-- What a step that may be done does to its door (01, "Steps").
use Rattle.std.specs.Prelude.{ℕ, ◌-◌, cond, eqb, ltb}
use Rattle.door.specs.declared.Door.{Door}
use Rattle.door_does.specs.declared.Does.{Does}
use Rattle.door_does.specs.declared.Does.TheVariants.{Stays, Turns, Moves}
use Rattle.phases.specs.declared.table.Kind.{Kind}
use Rattle.phases.specs.declared.table.Kind.TheVariants.{Card, Decide, Green, Red, Walk, Tick, Passed, Lapsed, Dark, Ack, Unknown}
use Rattle.phases.specs.Phase.{read, granted, green, walked, expired, denied, red, dimmed, closed, green_span, red_span}
use Rattle.door.specs.Door.{door, free_door}

-- "the countdown falls by one, and on reaching 0 the phase becomes" `out`
abbrev pub burns : Door → ℕ → Does
burns c out =
    cond (ltb 1 c.count) (Turns (door c.phase c.holder (c.count - 1)) 0) (Turns (door out c.holder 0) 0)

-- What the step does at a door that is c, p the person of a card and why the reason for a denial, 0 for none.
unfoldable pub effect : Kind → ℕ → ℕ → Door → Does
-- "`card`: 0 to 1, holding the person."
effect Card p why c = Turns (door read p 0) 0
-- "`decide`: 1 to 2 or 6. .. Denied drops the person."
effect Decide p why c = cond (eqb why 0) (Turns (door granted c.holder 0) 0) (Turns (door denied 0 0) why)
-- `green`: 2 to 3, "countdown 300."
effect Green p why c = Turns (door green c.holder green_span) 0
-- `red`: 6 to 7, "countdown 20."
effect Red p why c = Turns (door red c.holder red_span) 0
-- "`walk`: 3 to 4, countdown 0."
effect Walk p why c = Turns (door walked c.holder 0) 0
-- "`tick`: .. In 3 and 7 the countdown falls by one, and on reaching 0 the phase becomes 5 or 8. In any other phase: done,
-- nothing altered."
effect Tick p why c = cond (eqb c.phase green) (burns c expired) (cond (eqb c.phase red) (burns c dimmed) Stays)
-- "`passed`: 4 to 9; the held person's location becomes the destination; the person is dropped."
effect Passed p why c = Moves (door closed 0 0)
-- "`lapsed`: 5 to 9, person dropped."
effect Lapsed p why c = Turns (door closed 0 0) 0
-- "`dark`: 8 to 9."
effect Dark p why c = Turns (door closed c.holder 0) 0
-- "`ack`: 9 to 0."
effect Ack p why c = Turns free_door 0
-- allowed in no phase
effect Unknown p why c = Stays
