-- `serve` meets its contract: what was decoded is run, and there is room for the answers. Assumes nothing.
use Prim.Native.Nat.{◌≤◌}
use mathlib.Core.Path.{◌≡◌, refl, sym, ap, ◌∙◌}
use mathlib.Core.Bool.{true}
use native.Mathlib.Omega.{arith}
use borrow.Author.Rules.{rules}
use lib.ListN.{length}
use lib.Seq.{length-take-le}
use Rattle.std.specs.Prelude.{Ok}
use Rattle.steps_sheet.specs.Lent.{most_steps, decoded_of}
use Rattle.steps_sheet.specs.Steps.{steps_from}
use Rattle.steps_sheet.proofs.Theorems.{few_counted}
use Rattle.record.specs.Doors.{Shaped}
use Rattle.record.proofs.Tells.{sound_tells}
use Rattle.run_text.proofs.Fits.{run_short}
use Rattle.record.specs.Run.{answer_told, phase_told, reason_told, held_told}
use Rattle.run_text.proofs.Serving.{room_most, count_is, whole_is, decoded_are, ran_steps, told_steps, heard}
use Rattle.run.proofs.serve.serve.Goals as goal

pub unreachable-requires : goal.unreachable-requires
unfolding decoded_of
unreachable-requires c =
    let run = c.args.run.now in
    let room = room_most (length run.sheet.now) most_steps most_steps most_steps run.short refl refl refl in
    let e : c.decode.result ≡ decoded_of true (steps_from run.sheet.now run.from) = rw room at c.decode.ensures.decoded in
    absurd (cc (c.in_default.is))

pub slice_bounds-kinds-end : goal.slice_bounds-kinds-end
slice_bounds-kinds-end c =
    let run = c.args.run.now in
    let few = few_counted run.sheet.now run.from _ (sym c.in-Ok.is ∙ c.decode.ensures.decoded) in
    let short = run.short in
    let long : most_steps ≡ length c.decode.new.kinds = search rules in
    omega arith

pub slice_bounds-run-end : goal.slice_bounds-run-end
slice_bounds-run-end c =
    let run = c.args.run.now in
    let few = few_counted run.sheet.now run.from _ (sym c.in-Ok.is ∙ c.decode.ensures.decoded) in
    let short = run.short in
    let long : most_steps ≡ length c.decode.new.kinds = search rules in
    sym (length-take-le _ _ (omega arith))

pub slice_bounds-doors-end : goal.slice_bounds-doors-end
slice_bounds-doors-end c =
    let run = c.args.run.now in
    let few = few_counted run.sheet.now run.from _ (sym c.in-Ok.is ∙ c.decode.ensures.decoded) in
    let short = run.short in
    let long : most_steps ≡ length c.decode.new.doors = search rules in
    omega arith

pub slice_bounds-run-end-2 : goal.slice_bounds-run-end-2
slice_bounds-run-end-2 c =
    let run = c.args.run.now in
    let few = few_counted run.sheet.now run.from _ (sym c.in-Ok.is ∙ c.decode.ensures.decoded) in
    let short = run.short in
    let long : most_steps ≡ length c.decode.new.doors = search rules in
    sym (length-take-le _ _ (omega arith))

pub slice_bounds-persons-end : goal.slice_bounds-persons-end
slice_bounds-persons-end c =
    let run = c.args.run.now in
    let few = few_counted run.sheet.now run.from _ (sym c.in-Ok.is ∙ c.decode.ensures.decoded) in
    let short = run.short in
    let long : most_steps ≡ length c.decode.new.persons = search rules in
    omega arith

pub slice_bounds-run-end-3 : goal.slice_bounds-run-end-3
slice_bounds-run-end-3 c =
    let run = c.args.run.now in
    let few = few_counted run.sheet.now run.from _ (sym c.in-Ok.is ∙ c.decode.ensures.decoded) in
    let short = run.short in
    let long : most_steps ≡ length c.decode.new.persons = search rules in
    sym (length-take-le _ _ (omega arith))

pub returns : goal.returns
returns c =
    let run = c.args.run.now in
    let told = c.args.told.now in
    let decoded = c.in-Ok.decoded in
    let d = c.decode.ensures in
    let steps = steps_from run.sheet.now run.from in
    let room = room_most (length run.sheet.now) most_steps most_steps most_steps run.short refl refl refl in
    let is = sym c.in-Ok.is ∙ d.decoded in
    let count = count_is steps _ room is in
    let whole = whole_is steps _ room is in
    let counted = few_counted run.sheet.now run.from _ is in
    let few : decoded.count ≤ most_steps = omega (arith, run.short) in
    let lists = decoded_are steps _ room is _ _ _ few few few d.kinds d.doors d.persons in
    let la : most_steps ≡ length told.answers = search rules in
    let lp : most_steps ≡ length told.phases = search rules in
    let lr : most_steps ≡ length told.reasons = search rules in
    let lh : most_steps ≡ length told.held = search rules in
    let shaped : Shaped run.fresh = search rules in
    let e = c.run-ran.ensures in
    let ha : length steps.rows ≤ length told.answers = omega arith in
    let hp : length steps.rows ≤ length told.phases = omega arith in
    let hr : length steps.rows ≤ length told.reasons = omega arith in
    let hh : length steps.rows ≤ length told.held = omega arith in
    let next = ran_steps run.fresh steps told.answers told.phases told.reasons told.held run.sound ha hp hr hh lists e.ran in
    let answers = told_steps run.fresh steps told.answers told.phases told.reasons told.held run.sound ha hp hr hh lists answer_told told.answers e.answers in
    let phases = told_steps run.fresh steps told.answers told.phases told.reasons told.held run.sound ha hp hr hh lists phase_told told.phases e.phases in
    let reasons = told_steps run.fresh steps told.answers told.phases told.reasons told.held run.sound ha hp hr hh lists reason_told told.reasons e.reasons in
    let held = told_steps run.fresh steps told.answers told.phases told.reasons told.held run.sound ha hp hr hh lists held_told told.held e.held in
    record {
      served = rw (next, count, whole);
      few = few;
      answers = answers;
      phases = phases;
      reasons = reasons;
      held = held;
      short = omega (arith, run_short run.fresh shaped ((sound_tells _ shaped).yes run.sound) steps.rows steps.whole (omega (arith, few, count)), count);
      told =
          heard run.fresh steps.rows told.answers told.phases told.reasons told.held count (omega arith, omega arith, omega arith, omega arith) answers phases reasons held;
    }
