-- The twelve cases of paper 01 ("Twelve cases to prove"), from the sheets' own bytes, and through the steps and the questions.
use Rattle.std.specs.Prelude.{ℕ, ◌≡◌, List, [], ◌∷◌, get_or}
use Rattle.record.specs.declared.record.Record.{Record}
use Rattle.findings.specs.Told.{way_no, length_told}
use Rattle.phases.specs.declared.table.Kind.TheVariants.{Card, Decide, Green, Walk, Passed, Ack}
use Rattle.phases.specs.Phase.{granted}
use Rattle.record.specs.Run.{row_of, last_of}
use Rattle.phases.specs.declared.table.StepRow.{StepRow}
use Rattle.record.specs.Questions.{way_answer_of, way_written}
use Rattle.verdict.specs.Numbers.{verdict_no, first_place, second_place}
use Rattle.site_lines.specs.Line.{door_word, exit_word, right_word}
use Rattle.site_sheet.specs.Site.{site_of}
use Rattle.run_text.specs.Examples.{line, top, four_doors, two_exits, three_rights, site_sheet}
use Rattle.card_by_card.specs.Serving.{step_at, ticked}

-- "without `exit,2,1`"
abbrev pub without_exit : List ℕ
without_exit = top (four_doors (line exit_word 1 0 three_rights))

-- "with exits 1 to 2 and 2 to 1"
abbrev pub exits_in_acircle : List ℕ
exits_in_acircle = top (four_doors (line exit_word 1 2 (line exit_word 2 1 three_rights)))

-- "without `door,2,1`"
abbrev pub without_door : List ℕ
without_door = top (line door_word 0 1 (line door_word 1 2 (line door_word 1 0 (two_exits three_rights))))

-- "without `right,0,1`"
abbrev pub without_right_of0 : List ℕ
without_right_of0 = top (four_doors (two_exits (line right_word 0 2 (line right_word 1 1 []))))

-- "without `right,1,1`"
abbrev pub without_right_of1 : List ℕ
without_right_of1 = top (four_doors (two_exits (line right_word 0 1 (line right_word 0 2 []))))

-- "On that site, from fresh unless said"
abbrev pub fresh_site : Record
fresh_site = (site_of site_sheet).«record»

-- the reason that `decide` tells at a door after some steps, and the door that it tells with it
pub record ToldAt (d : ℕ) (rows : List StepRow) (why held : ℕ) : Type 0 where
  pub the_reason : (row_of (last_of fresh_site rows) (step_at Decide d)).reason ≡ why
  pub the_door : (row_of (last_of fresh_site rows) (step_at Decide d)).held ≡ held

-- the phase of a door after some steps
abbrev pub phase_at : ℕ → List StepRow → ℕ
phase_at d rows = get_or (last_of fresh_site rows).phase d 0

-- a person shows a card at a door
abbrev pub card_at : ℕ → ℕ → StepRow
card_at d p = record { kind = Card; at = d; person = p }

-- a person is granted a door and goes through
abbrev pub goes_through : ℕ → ℕ → List StepRow → List StepRow
goes_through d p more =
    card_at d p ∷ step_at Decide d ∷ step_at Green d ∷ step_at Walk d ∷ step_at Passed d ∷ step_at Ack d ∷ more

-- door 0 is green for person 0 and gets n ticks
abbrev pub green_for : ℕ → List StepRow
green_for n = card_at 0 0 ∷ step_at Decide 0 ∷ step_at Green 0 ∷ ticked n 0 []

-- the location of a person after some steps
abbrev pub place_after : ℕ → List StepRow → ℕ
place_after p rows = get_or (last_of fresh_site rows).place p 0

-- "Numbers given back": a sheet is told this number with these places, of which the unused are 0
pub record GivenBack (s : List ℕ) (number place second : ℕ) : Type 0 where
  pub the_number : verdict_no (site_of s).verdict ≡ number
  pub the_place : first_place (site_of s).verdict ≡ place
  pub the_second : second_place (site_of s).verdict ≡ second

pub record TwelveCases : Type 0 where
  -- "(1) it is accepted"
  pub case_1 : GivenBack site_sheet 0 0 0
  -- "(2) without `exit,2,1`: 6 at 2"
  pub case_2 : GivenBack without_exit 6 2 0
  -- "(3) with exits 1 to 2 and 2 to 1: 7 at 1"
  pub case_3 : GivenBack exits_in_acircle 7 1 0
  -- "(4) without `door,2,1`: 8 at 2"
  pub case_4 : GivenBack without_door 8 2 0
  -- "(5) without `right,0,1`: 9 at person 0, location 2"
  pub case_5 : GivenBack without_right_of0 9 0 2
  -- "(6) without `right,1,1`: 10 at person 1"
  pub case_6 : GivenBack without_right_of1 10 1 0
  -- "(7) row 6 above has reason 1"; with any reason but 3 the door is 0
  pub case_7 : ToldAt 1 (card_at 0 0 ∷ step_at Decide 0 ∷ step_at Green 0 ∷ step_at Walk 0 ∷ card_at 1 0 ∷ []) 1 0
  -- "(8) person 1 in location 1, at door 1: reason 2"
  pub case_8_place : place_after 1 (goes_through 0 1 []) ≡ 1
  pub case_8 : ToldAt 1 (goes_through 0 1 (card_at 1 1 ∷ [])) 2 0
  -- "(9) person 0 in location 1, granted door 1, at door 3: reason 3"; it is told with door 1
  pub case_9_place : place_after 0 (goes_through 0 0 []) ≡ 1
  pub case_9_grant : phase_at 1 (goes_through 0 0 (card_at 1 0 ∷ step_at Decide 1 ∷ [])) ≡ granted
  pub case_9 : ToldAt 3 (goes_through 0 0 (card_at 1 0 ∷ step_at Decide 1 ∷ card_at 3 0 ∷ [])) 3 1
  -- "(10) 299 ticks after `green`: still 3"
  pub case_10 : phase_at 0 (green_for 299) ≡ 3
  -- "(11) 300 ticks: 5"
  pub case_11 : phase_at 0 (green_for 300) ≡ 5
  -- "(12) way out of 2 is 1, 0"
  pub case_12_number : way_no (way_answer_of fresh_site 2 (9 ∷ 9 ∷ 9 ∷ [])) ≡ 0
  pub case_12_length : length_told (way_answer_of fresh_site 2 (9 ∷ 9 ∷ 9 ∷ [])) ≡ 2
  pub case_12 : way_written fresh_site 2 (9 ∷ 9 ∷ 9 ∷ []) ≡ 1 ∷ 0 ∷ 9 ∷ []
