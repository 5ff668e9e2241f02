-- `cut_field` meets its contract. The invariant of its loop: the answer from byte i on is the answer from the start.
-- Assumes nothing.
use Prim.Native.Nat.{◌≤◌, max}
use mathlib.Core.Path.{◌≡◌}
use lib.ListN.{length, drop}
use Rattle.grammar.specs.Cut.{cut_field, field_from}
use Rattle.sheet.proofs.cut.cut_field.Given as goal

abbrev pub invariant-loop-i : goal.invariant-loop-i
invariant-loop-i l = (l.i ≤ max l.at (length l.s)) × (cut_field l.s l.at ≡ field_from l.mode l.cell l.i (drop l.i l.s))
