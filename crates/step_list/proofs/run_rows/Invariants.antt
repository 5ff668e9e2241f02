-- `run_rows` meets its contract: each turn is one step of the fold. Assumes nothing.
use Prim.Native.Nat.{◌-◌}
use Rattle.record.specs.Deeds.{holding}
use Rattle.step_list.proofs.Running.{Running}
use Rattle.step_list.proofs.run_rows.Given as goal

abbrev pub invariant-loop-at : goal.invariant-loop-at
invariant-loop-at l = Running l.steps l.doors l.persons l.initial.answers l.initial.phases l.initial.reasons l.initial.held l.start l.answers l.phases l.reasons l.held (holding l.start l.moving.place l.moving.phase l.moving.holder l.moving.count) l.at
