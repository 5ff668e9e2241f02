-- `fill` meets its contract: each turn is one row more. Assumes nothing.
use Rattle.steps_sheet.proofs.Decoding.{decoding, decode_bad, decode_over, decode_broken}
use Rattle.steps.proofs.fill.Goals as goal

pub returns-in_default : goal.returns-in_default
returns-in_default c = let e = decode_bad c.loop-cells.invariant _ c.row_at.ensures c.requires c.in-Cut.is _ c.steps_line_of.ensures c.in_default.is in record { decoded = e.0; kinds = e.1.0; doors = e.1.1.0; persons = e.1.1.1 }

pub returns-in-NoRow : goal.returns-in-NoRow
returns-in-NoRow c = let e = decode_over c.loop-cells.invariant _ c.row_at.ensures c.requires c.in-NoRow.is in record { decoded = e.0; kinds = e.1.0; doors = e.1.1.0; persons = e.1.1.1 }

pub returns-in-Broken : goal.returns-in-Broken
returns-in-Broken c = let e = decode_broken c.loop-cells.invariant _ c.row_at.ensures c.requires c.in-Broken.is in record { decoded = e.0; kinds = e.1.0; doors = e.1.1.0; persons = e.1.1.1 }

pub bounds-kinds-count : goal.bounds-kinds-count
bounds-kinds-count c = search decoding

pub bounds-doors-count : goal.bounds-doors-count
bounds-doors-count c = search decoding

pub bounds-persons-count : goal.bounds-persons-count
bounds-persons-count c = search decoding

pub loop-cells-smaller : goal.loop-cells-smaller
loop-cells-smaller c = search decoding

pub loop-cells-preserved : goal.loop-cells-preserved
loop-cells-preserved c = search decoding
