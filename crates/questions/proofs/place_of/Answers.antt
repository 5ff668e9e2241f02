-- `place_of` meets its contract: the question is refused, or the place is told. Assumes nothing.
use mathlib.Core.Path.{◌≡◌, sym, ap, ◌∙◌}
use Rattle.std.proofs.Common.{rules, Ok, Err}
use Rattle.record.specs.Questions.{place_of}
use Rattle.record.proofs.Asked.{place_as_said}
use Rattle.questions.proofs.Questioned.{question_refused, taken}
use Rattle.questions.proofs.place_of.Goals as goal

pub returns-in_err-asked : goal.returns-in_err-asked
unfolding place_of
returns-in_err-asked c =
    let x : c.from_residual.result ≡ Err c.in_err-asked.field-0.0 = search rules in
    let e = place_as_said _ _ _ (x ∙ sym (question_refused _ _ _ _ c.asked.ensures c.in_err-asked.was)) in
    record { answer = e.0; number = e.1.0; place = e.1.1 }

pub returns : goal.returns
unfolding place_of
returns c =
    let e = place_as_said _ _ _ (ap Ok c.entry_at.ensures ∙ sym (taken _ _ _ _ _ _ c.asked.ensures c.in_ok-asked.was)) in
    record { answer = e.0; number = e.1.0; place = e.1.1 }
