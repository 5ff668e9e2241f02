-- `Record::step` meets its contract: the deed that is judged of a sound record is carried out. Assumes nothing.
use mathlib.Core.Path.{◌≡◌, sym, ap, ◌∙◌}
use mathlib.Core.Bool.{not}
use lib.ListN.{length}
use borrow.Author.Rules.{rules}
use Rattle.tables.specs.Tables.{most_people}
use Rattle.tables.proofs.Cases.{pick_on}
use Rattle.record.specs.Doors.{Shaped}
use Rattle.record.specs.Steps.{step_of}
use Rattle.record.specs.Deeds.{judged}
use Rattle.record.proofs.Deeds.{stepped}
use Rattle.record.proofs.Tells.{sound_tells}
use Rattle.record.proofs.record.Record.step.Goals as goal

pub returns : goal.returns
unfolding step_of
returns c =
    let a = c.args in
    -- the lists of the record that is taken are as long as their arrays
    let shaped : Shaped a.self = search rules in
    let room : length a.self.place ≡ most_people = search rules in
    let tested = c.is_sound in
    let e = c.carry_out-told.ensures in
    let t = c.tables.ensures in
    let m = c.moving-moving.ensures in
    let l = c.door_lists.ensures in
    let deed : c.judge-deed.result ≡ judged a.self a.kind a.door a.person = cc in
    c.telling.ensures ∙ rw c.hold.ensures
    (pick_on _ _ _ _ tested.result tested.ensures (ap not c.if-not-is_sound.false)
    (stepped a.self a.kind a.door a.person room ((sound_tells _ shaped).yes (sym tested.ensures ∙ c.if-not-is_sound.false)) _ deed _ _ _ _ _ (e.told, (cc, (cc, (cc, cc))))))
