-- The one record that is lent to step after step. 01, "Steps": "the panel's own loop lends it the one record and finds it altered, or
-- as it was after a refusal."
use Rattle.std.specs.Prelude.{ℕ, ◌≡◌, true, false, List, [], ◌∷◌, map, length, replicate}
use Rattle.std.proofs.lemmas.List.Edits.{sets}
use Rattle.record.specs.declared.record.Record.{Record}
use Rattle.deeds.specs.declared.Told.{Told}
use Rattle.phases.specs.declared.table.Kind.{Kind}
use Rattle.phases.specs.declared.answer.Answer.TheVariants.{Unsound}
use Rattle.phases.specs.Answers.{answer_no}
use Rattle.phases.specs.declared.table.StepRow.{StepRow}
use Rattle.record.specs.SoundTest.{sound_b}
use Rattle.record.specs.Steps.{step_of, told_by}
use Rattle.record.specs.Run.{Reply, rows_of, last_of, replies_of, answer_told, phase_told, reason_told, held_told, run_of, answers_of, phases_of, reasons_of, held_of}

-- what the promise of `step_lent` says of one lending: the record at exit, and what is told
pub record Lent (entry : Record) (k : Kind) (d p : ℕ) (exit : Record) (told : Told) : Type 0 where
  pub next : exit ≡ (step_of entry k d p).next
  pub tells : told ≡ told_by (step_of entry k d p)

-- one record is lent for each step of a list, and is `last` at the end; what is told of each stands in the order of the steps
pub data LentRows : Record → List StepRow → Record → List Told → Type 0 where
  none : {r : Record} → LentRows r [] r []
  one : {r next last : Record} {row : StepRow} {rows : List StepRow} {told : Told} {more : List Told}
      → Lent r row.kind row.at row.person next told → LentRows next rows last more → LentRows r (row ∷ rows) last (told ∷ more)

-- what is told, by its number
abbrev pub reply_of_told : Told → Reply
reply_of_told told = record { answer = answer_no told.answer; phase = told.phase; reason = told.reason; held = told.held }

-- it is the last record of the steps, and what is told is what they tell
pub record LentIsSteps (r : Record) (rows : List StepRow) (last : Record) (told : List Told) : Type 0 where
  pub same_record : last ≡ last_of r rows
  pub same_told : map reply_of_told told ≡ replies_of r rows

-- what a step tells of a record that isn't sound: 14
abbrev pub unsound_told : Told
unsound_told = record { answer = Unsound; phase = 0; reason = 0; held = 0 }

-- it is the record that a run hands back. Of a sound record what is told is what the run writes into its four lists; of another the
-- run answers 14 once and writes nothing, and each lending is told 14
pub record LentIsRun (r : Record) (steps doors persons answers phases reasons held : List ℕ) (last : Record) (told : List Told) : Type 0 where
  pub same_record : (run_of r steps doors persons answers phases reasons held).next ≡ last
  pub same_answers : sound_b r ≡ true → answers_of r steps doors persons answers phases reasons held ≡ sets answers 0 (map answer_told (map reply_of_told told))
  pub same_phases : sound_b r ≡ true → phases_of r steps doors persons answers phases reasons held ≡ sets phases 0 (map phase_told (map reply_of_told told))
  pub same_reasons : sound_b r ≡ true → reasons_of r steps doors persons answers phases reasons held ≡ sets reasons 0 (map reason_told (map reply_of_told told))
  pub same_held : sound_b r ≡ true → held_of r steps doors persons answers phases reasons held ≡ sets held 0 (map held_told (map reply_of_told told))
  pub unsound : sound_b r ≡ false → told ≡ replicate (length (rows_of steps doors persons)) unsound_told
