-- The run of a list of steps: the fold of `step_of`.
use Rattle.std.specs.Prelude.{ℕ, Bool, cond, List, [], ◌∷◌, map, length, leb}
use Rattle.std.proofs.lemmas.List.Edits.{sets}
use Rattle.tables.specs.Tables.{and_also}
use Rattle.record.specs.declared.record.Record.{Record}
use Rattle.record.specs.declared.steps.Step.{Step}
use Rattle.phases.specs.declared.answer.Answer.TheVariants.{Done, TooShort, Unsound}
use Rattle.record.specs.declared.series.Ran.{Ran}
use Rattle.phases.specs.Answers.{answer_no}
use Rattle.phases.specs.declared.table.StepRow.{StepRow}
use Rattle.phases.specs.Kinds.{kind_of}
use Rattle.record.specs.SoundTest.{sound_b}
use Rattle.record.specs.Steps.{step_of}

-- what the step of a row hands back
abbrev pub row_of : Record → StepRow → Step
row_of r row = step_of r row.kind row.at row.person

-- the record after the steps of a list, one after the other
unfoldable pub last_of : Record → List StepRow → Record
last_of r [] = r
last_of r (row ∷ rows) = last_of (row_of r row).next rows

-- "A step answers its number, the door's phase afterwards .. and the reason"; "The answer of a step gains that door" (02, C-12)
pub record Reply : Type 0 where
  pub answer : ℕ
  pub phase : ℕ
  pub reason : ℕ
  pub held : ℕ

abbrev pub reply_by : Step → Reply
reply_by s = record { answer = answer_no s.answer; phase = s.phase; reason = s.reason; held = s.held }

-- what is told of each step, one after the other
unfoldable pub replies_of : Record → List StepRow → List Reply
replies_of r [] = []
replies_of r (row ∷ rows) = reply_by (row_of r row) ∷ replies_of (row_of r row).next rows

-- the parts of it: a lent list holds one of them for each step
abbrev pub answer_told : Reply → ℕ
answer_told x = x.answer

abbrev pub phase_told : Reply → ℕ
phase_told x = x.phase

abbrev pub reason_told : Reply → ℕ
reason_told x = x.reason

abbrev pub held_told : Reply → ℕ
held_told x = x.held

-- three lent lists of numbers are a list of steps: each step's number, its door and its person
unfoldable pub rows_of : List ℕ → List ℕ → List ℕ → List StepRow
rows_of [] doors persons = []
rows_of (k ∷ steps) [] persons = []
rows_of (k ∷ steps) (d ∷ doors) [] = []
rows_of (k ∷ steps) (d ∷ doors) (p ∷ persons) = record { kind = kind_of k; at = d; person = p } ∷ rows_of steps doors persons

-- each of the other lists has room for as many steps as there are
unfoldable pub room_for : ℕ → ℕ → ℕ → ℕ → ℕ → ℕ → ℕ → Bool
room_for steps doors persons answers phases reasons held =
    and_also (leb steps doors)
    (and_also (leb steps persons) (and_also (leb steps answers) (and_also (leb steps phases) (and_also (leb steps reasons) (leb steps held)))))

abbrev pub room_in : List ℕ → List ℕ → List ℕ → List ℕ → List ℕ → List ℕ → List ℕ → Bool
room_in steps doors persons answers phases reasons held =
    room_for (length steps) (length doors) (length persons) (length answers) (length phases) (length reasons) (length held)

-- What a run hands back: with an unsound record 14, with a list that is too short 13, and the record as it was; else the
-- last record.
unfoldable pub ran_of : Record → List StepRow → Bool → Ran
ran_of r rows room =
    cond (sound_b r)
    (cond room
    (record { next = last_of r rows; answer = Done })
    (record { next = r; answer = TooShort }))
    (record { next = r; answer = Unsound })

-- And what a lent list holds then: "After a refusal .. every lent list hold[s] what [it] held before."; else what was told of
-- each step stands in front, and the rest is unaltered.
unfoldable pub telling_of : Record → Bool → List ℕ → List ℕ → List ℕ
telling_of r room told list = cond (and_also (sound_b r) room) (sets list 0 told) list

-- The run of lent lists: what it hands back, and what the lists of answers, phases, reasons and held doors hold then.
abbrev pub run_of : Record → List ℕ → List ℕ → List ℕ → List ℕ → List ℕ → List ℕ → List ℕ → Ran
run_of r steps doors persons answers phases reasons held = ran_of r (rows_of steps doors persons) (room_in steps doors persons answers phases reasons held)

abbrev pub answers_of : Record → List ℕ → List ℕ → List ℕ → List ℕ → List ℕ → List ℕ → List ℕ → List ℕ
answers_of r steps doors persons answers phases reasons held =
    telling_of r (room_in steps doors persons answers phases reasons held) (map answer_told (replies_of r (rows_of steps doors persons))) answers

abbrev pub phases_of : Record → List ℕ → List ℕ → List ℕ → List ℕ → List ℕ → List ℕ → List ℕ → List ℕ
phases_of r steps doors persons answers phases reasons held =
    telling_of r (room_in steps doors persons answers phases reasons held) (map phase_told (replies_of r (rows_of steps doors persons))) phases

abbrev pub reasons_of : Record → List ℕ → List ℕ → List ℕ → List ℕ → List ℕ → List ℕ → List ℕ → List ℕ
reasons_of r steps doors persons answers phases reasons held =
    telling_of r (room_in steps doors persons answers phases reasons held) (map reason_told (replies_of r (rows_of steps doors persons))) reasons

abbrev pub held_of : Record → List ℕ → List ℕ → List ℕ → List ℕ → List ℕ → List ℕ → List ℕ → List ℕ
held_of r steps doors persons answers phases reasons held =
    telling_of r (room_in steps doors persons answers phases reasons held) (map held_told (replies_of r (rows_of steps doors persons))) held
