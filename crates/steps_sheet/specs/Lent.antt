-- The steps of a sheet in lent lists: the number of each, its door and its person. 13: "list lent .. is shorter".
use Rattle.std.specs.Prelude.{ℕ, ◌+◌, ◌/◌, Bool, cond, List, map, length, leb, Result, Ok, Err}
use Rattle.std.proofs.lemmas.List.Edits.{sets}
use Rattle.tables.specs.Tables.{and_also}
use Rattle.grammar.specs.Sizes.{limit}
use Rattle.findings.specs.declared.TooShort.{TooShort}
use Rattle.findings.specs.Told.{too_short}
use Rattle.phases.specs.declared.table.StepRow.{StepRow}
use Rattle.phases.specs.Kinds.{number_of_kind}
use Rattle.steps_sheet.specs.declared.Decoded.{Decoded}
use Rattle.steps_sheet.specs.Says.{Steps}
use Rattle.steps_sheet.specs.Steps.{steps_from}

-- A row that is a step takes eight bytes, its CRLF among them, or as the last without CRLF six: a sheet of n bytes has at most so
-- many steps.
abbrev pub most_in : ℕ → ℕ
most_in n = (n + 2) / 8

abbrev pub most_steps : ℕ
most_steps = most_in limit

-- each of three lists has room for so many steps
unfoldable pub room_for_steps : ℕ → ℕ → ℕ → ℕ → Bool
room_for_steps most kinds doors persons = and_also (leb most kinds) (and_also (leb most doors) (leb most persons))

-- and for those of every sheet as long as this
abbrev pub steps_room_in : List ℕ → List ℕ → List ℕ → List ℕ → Bool
steps_room_in s kinds doors persons = room_for_steps (most_in (length s)) (length kinds) (length doors) (length persons)

-- the steps as three lists of numbers: each step's own, its door and its person
abbrev pub kind_column : StepRow → ℕ
kind_column step = number_of_kind step.kind

abbrev pub door_column : StepRow → ℕ
door_column step = step.at

abbrev pub person_column : StepRow → ℕ
person_column step = step.person

abbrev pub kinds_in : Steps → List ℕ
kinds_in steps = map kind_column steps.rows

abbrev pub doors_in : Steps → List ℕ
doors_in steps = map door_column steps.rows

abbrev pub persons_in : Steps → List ℕ
persons_in steps = map person_column steps.rows

-- What is answered: how many steps there are, and whether the sheet ends behind them; 13 where a lent list is too short.
unfoldable pub decoded_of : Bool → Steps → Result Decoded TooShort
decoded_of room steps = cond room (Ok (record { count = length steps.rows; whole = steps.whole })) (Err too_short)

-- And what a lent list holds then: the numbers in front, the rest unaltered; "After a refusal .. every lent list hold[s] what [it]
-- held before."
unfoldable pub listed : Bool → List ℕ → List ℕ → List ℕ
listed room numbers list = cond room (sets list 0 numbers) list

-- Decoding the rows of a sheet from a position on.
abbrev pub decoded_in : List ℕ → ℕ → List ℕ → List ℕ → List ℕ → Result Decoded TooShort
decoded_in s from kinds doors persons = decoded_of (steps_room_in s kinds doors persons) (steps_from s from)

abbrev pub kinds_listed : List ℕ → ℕ → List ℕ → List ℕ → List ℕ → List ℕ
kinds_listed s from kinds doors persons = listed (steps_room_in s kinds doors persons) (kinds_in (steps_from s from)) kinds

abbrev pub doors_listed : List ℕ → ℕ → List ℕ → List ℕ → List ℕ → List ℕ
doors_listed s from kinds doors persons = listed (steps_room_in s kinds doors persons) (doors_in (steps_from s from)) doors

abbrev pub persons_listed : List ℕ → ℕ → List ℕ → List ℕ → List ℕ → List ℕ
persons_listed s from kinds doors persons = listed (steps_room_in s kinds doors persons) (persons_in (steps_from s from)) persons
