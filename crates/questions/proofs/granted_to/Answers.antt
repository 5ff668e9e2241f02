-- `granted_to` meets its contract: the question is refused, or the door is told. Assumes nothing.
use mathlib.Core.Path.{◌≡◌, sym, ap, ◌∙◌}
use Rattle.std.proofs.Common.{rules, Ok, Err}
use Rattle.granting.specs.Grants.{grant_of}
use Rattle.record.specs.Questions.{granted_to}
use Rattle.record.proofs.Asked.{grant_as_said}
use Rattle.questions.proofs.Questioned.{question_refused, taken}
use Rattle.questions.proofs.granted_to.Goals as goal

pub returns-in_err-asked : goal.returns-in_err-asked
unfolding granted_to
returns-in_err-asked c =
    let x : c.from_residual.result ≡ Err c.in_err-asked.field-0.0 = search rules in
    let e = grant_as_said _ _ _ (x ∙ sym (question_refused _ _ _ _ c.asked.ensures c.in_err-asked.was)) in
    record { answer = e.0; number = e.1.0; door = e.1.1 }

pub returns : goal.returns
unfolding granted_to
returns c =
    let lists = c.door_lists.ensures in
    let found : c.grant_of.result ≡ grant_of c.args.held.doors c.args.held.phase c.args.held.holder c.args.person = rw (← lists.phases, ← lists.holders) c.grant_of.ensures in
    let e = grant_as_said _ _ _ (ap Ok found ∙ sym (taken _ _ _ _ _ _ c.asked.ensures c.in_ok-asked.was)) in
    record { answer = e.0; number = e.1.0; door = e.1.1 }
