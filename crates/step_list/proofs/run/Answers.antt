-- `run` meets its contract: 14, then 13, then the fold. Assumes nothing.
use mathlib.Core.Path.{sym, ◌∙◌}
use Rattle.record.specs.Doors.{Shaped}
use Rattle.record.proofs.Tells.{sound_tells}
use Rattle.step_list.proofs.Running.{ran_unsound, ran_short, ran_done, telling_unsound, telling_short, telling_done, room}
use borrow.Author.Rules.{rules}
use mathlib.Core.Bool.{not}
use mathlib.Core.Path.{ap}
use Rattle.step_list.proofs.run.Goals as goal

pub returns-then-not-is_sound : goal.returns-then-not-is_sound
returns-then-not-is_sound c =
    let s = c.is_sound in
    let no = (ap not c.if-not-is_sound.true) in
    record { ran = ran_unsound _ _ _ s.result s.ensures no; answers = telling_unsound _ _ _ _ s.result s.ensures no; phases = telling_unsound _ _ _ _ s.result s.ensures no; reasons = telling_unsound _ _ _ _ s.result s.ensures no; held = telling_unsound _ _ _ _ s.result s.ensures no }

pub returns-then-not-room_for : goal.returns-then-not-room_for
returns-then-not-room_for c =
    let s = c.is_sound in
    let b = c.room_for in
    let fine = (ap not c.if-not-is_sound.false) in
    let no = (ap not c.if-not-room_for.true) in record { ran = ran_short _ _ _ s.result s.ensures b.result fine b.ensures no; answers = telling_short _ _ _ _ s.result s.ensures b.result fine b.ensures no; phases = telling_short _ _ _ _ s.result s.ensures b.result fine b.ensures no; reasons = telling_short _ _ _ _ s.result s.ensures b.result fine b.ensures no; held = telling_short _ _ _ _ s.result s.ensures b.result fine b.ensures no }

pub run_rows-next-requires : goal.run_rows-next-requires
run_rows-next-requires c =
    -- the lists of the record that is taken are as long as their arrays
    let shaped : Shaped c.args.start = search rules in
    let sound = (sound_tells _ shaped).yes (sym c.is_sound.ensures ∙ c.if-not-is_sound.false) in
    record { sound = sound; room = room _ _ _ _ _ _ _ (sym c.room_for.ensures ∙ c.if-not-room_for.false) }

pub returns : goal.returns
returns c =
    let s = c.is_sound in
    let b = c.room_for in
    let fine = (ap not c.if-not-is_sound.false) in
    let enough = (ap not c.if-not-room_for.false) in
    let e = c.run_rows-next.ensures in record { ran = ran_done _ _ _ s.result s.ensures b.result _ fine b.ensures enough e.last; answers = telling_done _ _ _ _ s.result s.ensures b.result _ fine b.ensures enough e.answers; phases = telling_done _ _ _ _ s.result s.ensures b.result _ fine b.ensures enough e.phases; reasons = telling_done _ _ _ _ s.result s.ensures b.result _ fine b.ensures enough e.reasons; held = telling_done _ _ _ _ s.result s.ensures b.result _ fine b.ensures enough e.held }
