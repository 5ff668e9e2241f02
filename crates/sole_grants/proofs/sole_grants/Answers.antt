-- `sole_grants` meets its contract: each walk tells of the next people, till no grant is of a person beyond. Assumes nothing.
use mathlib.Core.Path.{sym, subst}
use native.Mathlib.Omega.{arith}
use borrow.Author.Rules.{rules}
use Rattle.sole_grants.specs.Marks.{WalkTells}
use Rattle.sole_grants.proofs.Walks.{cleared_start, cleared_all, cleared_more}
use Rattle.sole_grants.proofs.sole_grants.Goals as goal

pub loop-from-init : goal.loop-from-init
loop-from-init c = cleared_start _ _

pub walk_doors-requires : goal.walk_doors-requires
walk_doors-requires c = c.loop-from.invariant.within

pub returns-in-Twice : goal.returns-in-Twice
returns-in-Twice c = sym (subst (WalkTells _ _ _ _) c.in-Twice.is c.walk_doors.ensures)

pub returns-in-Sole : goal.returns-in-Sole
returns-in-Sole c = sym (cleared_all _ _ c.loop-from.invariant (subst (WalkTells _ _ _ _) c.in-Sole.is c.walk_doors.ensures))

pub overflow_add-from : goal.overflow_add-from
overflow_add-from c = let low = c.loop-from.invariant.within in search rules

pub loop-from-smaller : goal.loop-from-smaller
loop-from-smaller c = let beyond = subst (WalkTells _ _ _ _) c.in-Beyond.is c.walk_doors.ensures in omega (arith, beyond.1)

pub loop-from-preserved : goal.loop-from-preserved
loop-from-preserved c = cleared_more _ _ c.loop-from.invariant (subst (WalkTells _ _ _ _) c.in-Beyond.is c.walk_doors.ensures)
