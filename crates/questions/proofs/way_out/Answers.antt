-- `way_out` meets its contract: the question is refused, the list is too short, or the way is written. Assumes nothing.
use mathlib.Core.Path.{◌≡◌, sym, ap, ◌∙◌}
use Rattle.std.proofs.Common.{rules, Err}
use Rattle.tables.specs.Tables.{Plan}
use Rattle.findings.specs.Told.{refused_way, short_way}
use Rattle.record.specs.Questions.{way_found, way_answer_of, way_written}
use Rattle.record.proofs.Asked.{way_as_said}
use Rattle.questions.proofs.Questioned.{refused_of_way, kept, taken}
use Rattle.questions.proofs.way_out.Goals as goal

pub returns-in_err-asked : goal.returns-in_err-asked
unfolding way_answer_of way_written
returns-in_err-asked c =
    let x : c.from_residual.result ≡ Err (refused_way c.in_err-asked.field-0.0) = search rules in
    let is = x ∙ sym (refused_of_way _ _ _ _ c.asked.ensures c.in_err-asked.was) in
    let e = way_as_said _ _ _ _ _ is (sym (kept _ _ _ _ _ c.asked.ensures c.in_err-asked.was)) in
    record { answer = e.0; number = e.1.0; length = e.1.1.0; written = e.1.1.1 }

pub returns-in_err-way_out : goal.returns-in_err-way_out
unfolding way_answer_of way_written
returns-in_err-way_out c =
    let plan = c.tables.ensures.plan in
    let said = rw (ap (λ (p : Plan). p.locations) plan, ap (λ (p : Plan). p.exit) plan) at c.way_out.ensures.way_told_in in
    let wrote = rw (ap (λ (p : Plan). p.locations) plan, ap (λ (p : Plan). p.exit) plan) at c.way_out.ensures.way_written_in in
    let x : c.from_residual-in_err-way_out.result ≡ Err (short_way c.in_err-way_out.field-0.0) = search rules in
    let told = ap way_found (sym c.in_err-way_out.was ∙ said) in
    let is = x ∙ told ∙ sym (taken _ _ _ _ _ _ c.asked.ensures c.in_ok-asked.was) in
    let written = wrote ∙ sym (taken _ _ _ _ _ _ c.asked.ensures c.in_ok-asked.was) in
    let e = way_as_said _ _ _ _ _ is written in
    record { answer = e.0; number = e.1.0; length = e.1.1.0; written = e.1.1.1 }

pub returns : goal.returns
unfolding way_answer_of way_written
returns c =
    let plan = c.tables.ensures.plan in
    let said = rw (ap (λ (p : Plan). p.locations) plan, ap (λ (p : Plan). p.exit) plan) at c.way_out.ensures.way_told_in in
    let wrote = rw (ap (λ (p : Plan). p.locations) plan, ap (λ (p : Plan). p.exit) plan) at c.way_out.ensures.way_written_in in
    let told = ap way_found (sym c.in_ok-way_out.was ∙ said) in
    let is = told ∙ sym (taken _ _ _ _ _ _ c.asked.ensures c.in_ok-asked.was) in
    let written = wrote ∙ sym (taken _ _ _ _ _ _ c.asked.ensures c.in_ok-asked.was) in
    let e = way_as_said _ _ _ _ _ is written in
    record { answer = e.0; number = e.1.0; length = e.1.1.0; written = e.1.1.1 }
