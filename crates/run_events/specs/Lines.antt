-- What is heard of a run: each step with what it answered (01, "Steps").
use Rattle.std.specs.Prelude.{List, [], ◌∷◌}
use Rattle.record.specs.declared.record.Record.{Record}
use Rattle.phases.specs.declared.table.StepRow.{StepRow}
use Rattle.record.specs.Run.{Reply, replies_of}

-- a step, and "A step answers its number, the door's phase afterwards .. and the reason", with its door
pub record Line : Type 0 where
  pub row : StepRow
  pub reply : Reply

-- steps beside their replies
unfoldable pub lines_of : List StepRow → List Reply → List Line
lines_of [] replies = []
lines_of (row ∷ rows) [] = []
lines_of (row ∷ rows) (reply ∷ replies) = record { row = row; reply = reply } ∷ lines_of rows replies

-- the steps alone
unfoldable pub rows_heard : List Line → List StepRow
rows_heard [] = []
rows_heard (line ∷ lines) = line.row ∷ rows_heard lines

-- the run of a list of steps, as it is told
unfoldable pub heard_of : Record → List StepRow → List Line
heard_of r rows = lines_of rows (replies_of r rows)
