-- `walk_doors` meets its contract: each turn goes past a door, and marks the person of its grant. Assumes nothing.
use mathlib.Core.Path.{sym, ◌∙◌}
use native.Mathlib.Omega.{arith}
use Rattle.sole_grants.proofs.Walks.{so_far_start, so_far_past, so_far_twice, so_far_beyond, so_far_on}
use Rattle.sole_grants.proofs.walk_doors.Goals as goal
use Rattle.sole_grants.proofs.walk_doors.Goals.{then-grants+else-met_before+then-from-person, then-grants+else-met_before+else-from-person, else-grants}

pub loop-door-init : goal.loop-door-init
loop-door-init c = so_far_start _ _ _ c.no_marks-met.ensures

pub returns-then-met_before : goal.returns-then-met_before
returns-then-met_before c =
    so_far_twice _ _ _ c.loop-door.invariant (omega arith)
    (rw (← c.entry_at.ensures) (sym c.grants.ensures ∙ c.if-grants.true))
    c.entry_at-person.ensures c.met_before.ensures.is_marked c.if-met_before.true

pub loop-door-preserved : goal.loop-door-preserved
loop-door-preserved c =
    elim c.if-grants.branch [
      | then-grants+else-met_before+then-from-person w ↦
          rw (w.met-is, w.told-is)
          (so_far_beyond _ _ _ c.loop-door.invariant (omega arith)
          (rw (← c.entry_at.ensures) (sym c.grants.ensures ∙ w.if-grants.true))
          w.entry_at-person.ensures w.met_before.ensures.is_marked w.met_before.ensures.with_mark w.if-met_before.false w.if-from-person.true (omega (arith, w.entry_at-person.type_inv)))
      | then-grants+else-met_before+else-from-person w ↦
          rw (w.met-is, w.told-is)
          (so_far_on _ _ _ c.loop-door.invariant (omega arith)
          (rw (← c.entry_at.ensures) (sym c.grants.ensures ∙ w.if-grants.true))
          w.entry_at-person.ensures w.met_before.ensures.is_marked w.met_before.ensures.with_mark w.if-met_before.false w.if-from-person.false)
      | else-grants w ↦
          rw (w.met-is, w.told-is)
          (so_far_past _ _ _ c.loop-door.invariant (omega arith) (rw (← c.entry_at.ensures) (sym c.grants.ensures ∙ w.if-grants.false)))
    ]
