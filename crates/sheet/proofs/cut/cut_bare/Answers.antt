-- `cut_bare` meets its contract, by `row_three`. Assumes nothing.
use mathlib.Core.Path.{sym, ◌∙◌}
use borrow.Author.Rules.{rules}
use Rattle.sheet.proofs.Bare.{to_within, has_within, row_three}
use Rattle.sheet.proofs.cut.cut_bare.Goals as goal

pub overflow_add-first : goal.overflow_add-first
overflow_add-first c = let h = to_within (c.in_ok-first.ensures) in search rules

pub overflow_add-second : goal.overflow_add-second
overflow_add-second c = let h = to_within (c.in_ok-second.ensures) in search rules

pub overflow_add-feed : goal.overflow_add-feed
overflow_add-feed c = let h = to_within (c.in_ok-third.ensures) in search rules

pub overflow_add-result : goal.overflow_add-result
overflow_add-result c = let h = has_within _ _ _ (sym c.has_at.ensures ∙ c.if-not-has_at.false) in search rules

pub returns : goal.returns
returns c =
    rw (c.bare_cell.ensures, c.bare_cell-2.ensures, c.bare_cell-3.ensures)
    (row_three (c.in_ok-first.ensures) (c.in_ok-second.ensures) (c.in_ok-third.ensures) (sym c.has_at.ensures ∙ c.if-not-has_at.false))
