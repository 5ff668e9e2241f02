-- `print_steps` meets its contract: what was decoded is run and printed. Assumes nothing.
use Prim.Native.Nat.{◌≤◌}
use mathlib.Core.Path.{◌≡◌, refl, sym, ap, ◌∙◌}
use mathlib.Core.Bool.{true}
use mathlib.Core.List.{List}
use native.Mathlib.Omega.{arith}
use borrow.Author.Rules.{rules}
use lib.ListN.{length}
use lib.Seq.{length-take-le}
use Rattle.phases.specs.declared.table.StepRow.{StepRow}
use Rattle.steps_sheet.specs.Lent.{most_steps, decoded_of}
use Rattle.steps_sheet.specs.Steps.{steps_from}
use Rattle.steps_sheet.proofs.Theorems.{few_counted}
use Rattle.text.proofs.Printing.{text_is}
use Rattle.syslog.specs.Line.{stream_of}
use Rattle.run_text.proofs.Serving.{room_most, decoded_are}
use Rattle.stream_text.specs.Stream.{line_events_in}
use Rattle.stream_text.proofs.Sheets.{decoded_rows}
use Rattle.stream.proofs.texts.print_steps.Goals as goal

pub unreachable-requires : goal.unreachable-requires
unfolding decoded_of
unreachable-requires c =
    let run = c.args.run.now in
    let room = room_most (length run.sheet.now) most_steps most_steps most_steps run.short refl refl refl in
    let e : c.decode.result ≡ decoded_of true (steps_from run.sheet.now run.from) = rw room at c.decode.ensures.decoded in
    absurd (cc (c.in_default.is))

pub slice_bounds-kinds-end : goal.slice_bounds-kinds-end
slice_bounds-kinds-end c =
    let run = c.args.run.now in
    let few = few_counted run.sheet.now run.from _ (sym c.in-Ok.is ∙ c.decode.ensures.decoded) in
    let short = run.short in
    let long : most_steps ≡ length c.decode.new.kinds = search rules in
    omega arith

pub slice_bounds-steps-end : goal.slice_bounds-steps-end
slice_bounds-steps-end c =
    let run = c.args.run.now in
    let few = few_counted run.sheet.now run.from _ (sym c.in-Ok.is ∙ c.decode.ensures.decoded) in
    let short = run.short in
    let long : most_steps ≡ length c.decode.new.kinds = search rules in
    sym (length-take-le _ _ (omega arith))

pub slice_bounds-doors-end : goal.slice_bounds-doors-end
slice_bounds-doors-end c =
    let run = c.args.run.now in
    let few = few_counted run.sheet.now run.from _ (sym c.in-Ok.is ∙ c.decode.ensures.decoded) in
    let short = run.short in
    let long : most_steps ≡ length c.decode.new.doors = search rules in
    omega arith

pub slice_bounds-steps-end-2 : goal.slice_bounds-steps-end-2
slice_bounds-steps-end-2 c =
    let run = c.args.run.now in
    let few = few_counted run.sheet.now run.from _ (sym c.in-Ok.is ∙ c.decode.ensures.decoded) in
    let short = run.short in
    let long : most_steps ≡ length c.decode.new.doors = search rules in
    sym (length-take-le _ _ (omega arith))

pub slice_bounds-persons-end : goal.slice_bounds-persons-end
slice_bounds-persons-end c =
    let run = c.args.run.now in
    let few = few_counted run.sheet.now run.from _ (sym c.in-Ok.is ∙ c.decode.ensures.decoded) in
    let short = run.short in
    let long : most_steps ≡ length c.decode.new.persons = search rules in
    omega arith

pub slice_bounds-steps-end-3 : goal.slice_bounds-steps-end-3
slice_bounds-steps-end-3 c =
    let run = c.args.run.now in
    let few = few_counted run.sheet.now run.from _ (sym c.in-Ok.is ∙ c.decode.ensures.decoded) in
    let short = run.short in
    let long : most_steps ≡ length c.decode.new.persons = search rules in
    sym (length-take-le _ _ (omega arith))

pub returns : goal.returns
returns c =
    let run = c.args.run.now in
    let d = c.decode.ensures in
    let steps = steps_from run.sheet.now run.from in
    let room = room_most (length run.sheet.now) most_steps most_steps most_steps run.short refl refl refl in
    let is = sym c.in-Ok.is ∙ d.decoded in
    let counted = few_counted run.sheet.now run.from _ is in
    let few : c.in-Ok.decoded.count ≤ most_steps = omega (arith, run.short) in
    let lists = decoded_are steps _ room is _ _ _ few few few d.kinds d.doors d.persons in
    text_is _ _ c.args.out.now (ap (λ (rows : List StepRow). stream_of (line_events_in run.fresh rows)) (decoded_rows lists)) c.print_run.ensures
