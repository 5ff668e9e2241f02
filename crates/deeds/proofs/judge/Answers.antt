-- `judge` meets its contract: a step that may be done does what `allowed_of` says. Assumes nothing.
use mathlib.Core.Path.{◌∙◌, ap}
use mathlib.Core.Bool.{not}
use native.Mathlib.Omega.{arith}
use Rattle.std.proofs.lemmas.Grind.{common_steps}
use Rattle.rules.specs.Lent.{plan_lent}
use Rattle.granting.specs.Reasons.{first_reason}
use Rattle.deeds.specs.Deeds.{judged_of}
use Rattle.deeds.proofs.Judged.{card_person, judged_done}
use Rattle.deeds.proofs.judge.Goals as goal

pub returns : goal.returns
unfolding judged_of first_reason
returns c =
    let some = ap not c.if-not-exist.false in
    let judged =
    c.deed_of.ensures
    ∙ judged_done (plan_lent c.args.site) _ _ _ _ _ _ _ _ c.if-site-gt-MOST_PEOPLE.false _ c.exist.ensures some _ c.at-now.ensures _ c.allowed_in.ensures (ap not c.if-not-allowed_in.false) _ _
    -- the person of a card exists, so that the door's field has room for their number
    (λ card. let exists = card_person _ _ _ _ _ _ c.exist.ensures some card in grind (arith, common_steps)) c.reason_for-why.ensures _ c.does-done.ensures _ c.entry_at.ensures
    in
    record { told = judged; whatever_else = λ locations exit. judged }
