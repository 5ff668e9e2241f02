-- The twelve cases of paper 01, computed; what they say is in `specs/Cases.antt`. The sheets are read from their bytes. The
-- steps are computed without the test for 14, which every record of a run passes; and so is the whole run that 01 prints
-- (`specs/WholeRun.antt`). Assumes nothing.
use Prim.Native.Nat.{ℕ}
use mathlib.Core.Path.{◌≡◌, refl, ap, subst, ◌∙◌}
use mathlib.Core.Bool.{true}
use mathlib.Core.List.{List, [], ◌∷◌}
use lib.ListN.{get_or}
use Rattle.std.specs.Prelude.{Ok}
use Rattle.findings.specs.Told.{way_no, length_told}
use Rattle.tables.specs.Below.{or_at, least_below, with_location, location_of, least_pair, some_below}
use Rattle.tables.specs.Tables.{or_else, and_also, may_be}
use Rattle.tables.specs.Tests.{lacks_exit, first_no_exit, strays, first_stray, joins, lacks_door, first_no_door, lacks_right, first_no_right, lets_in, shut_out, first_shut_out}
use Rattle.tables.specs.Way.{unless_outside, way_out, unvisited, way_of, if_room, way_told_in, way_written_in}
use Rattle.record.specs.declared.record.Record.{Record}
use Rattle.record.specs.declared.steps.Step.{Step}
use Rattle.phases.specs.declared.table.Kind.TheVariants.{Decide, Green, Walk}
use Rattle.phases.specs.Phase.{grants, granted}
use Rattle.record.specs.Doors.{Shaped}
use Rattle.tables.specs.Zero.{zeros}
use Rattle.phases.specs.declared.table.StepRow.{StepRow}
use Rattle.phases.specs.Kinds.{allows}
use Rattle.granting.specs.Grants.{grants_to, grant_of, has_grant}
use Rattle.record.specs.Sound.{Sound}
use Rattle.door_does.specs.Does.{effect}
use Rattle.granting.specs.Reasons.{first_reason, held_with}
use Rattle.deeds.specs.Deeds.{exist_among}
use Rattle.record.specs.Steps.{act, sound_step}
use Rattle.record.specs.SoundTest.{sound_b}
use Rattle.record.specs.Questions.{way_answer_of, way_written}
use Rattle.record.specs.Run.{row_of, last_of, replies_of}
use Rattle.record.proofs.Laws.{sound_steps, sound_stays, shaped_stays, run_sound, run_shaped}
use Rattle.record.proofs.Tells.{sound_tells}
use Rattle.grammar.specs.Cut.{bare_move, shut_move, move_of, end_of, field_from, pushed, row_from, cut_row}
use Rattle.grammar.specs.Rows.{read_rows, rows_from}
use Rattle.cell_meaning.specs.Say.{value_from, digits_from, needless_zero, number_in, content_at, same_bytes, is_word, place_in, place_among, named_from, says_words, number_at}
use Rattle.verdict.specs.Numbers.{verdict_no, first_place, second_place}
use Rattle.verdict.specs.Verdict.{Verdict}
use Rattle.verdict.specs.Verdict.{Accepted, NoExit, Stray, NoDoor, NoRight, ShutOut}
use Rattle.site_lines.specs.Draft.{unmarked, site_row_fits, take_site, door_row_fits, take_door, exit_row_fits, take_exit, right_row_fits, take_right, take_line}
use Rattle.site_lines.specs.Line.{word_named, site_line_at, site_header_at}
use Rattle.site_lines.specs.Taking.{lines_in, read_lines}
use Rattle.site_sheet.specs.Site.{judged_draft, settled, after_header, site_at, site_of}
use Rattle.run_events.specs.Lines.{Line, lines_of, rows_heard, heard_of}
use Rattle.card_by_card.specs.Serving.{step_at, ticked}
use Rattle.card_by_card.specs.Served.{Fresh}
use Rattle.paper_cases.specs.Cases.{without_exit, exits_in_acircle, without_door, without_right_of0, without_right_of1, fresh_site, ToldAt, phase_at, card_at, goes_through, green_for, place_after, GivenBack, TwelveCases}
use Rattle.paper_cases.specs.WholeRun.{run_of01}
use Rattle.run_events.proofs.Steps.{heard_line}
use Rattle.run_text.specs.Examples.{site_sheet}
use Rattle.run_text.proofs.Examples.{sound_last, sound_last_lem, site_of_01}
use Rattle.stream_text.proofs.Accepted.{accepted_fresh}

-- what the six sheets are told, and the record of the first
sheets : ((site_of site_sheet).verdict ≡ Accepted)
    × ((site_of without_exit).verdict ≡ NoExit 2)
    × ((site_of exits_in_acircle).verdict ≡ Stray 1)
    × ((site_of without_door).verdict ≡ NoDoor 2)
    × ((site_of without_right_of0).verdict ≡ NoRight 0 2)
    × ((site_of without_right_of1).verdict ≡ ShutOut 1)
    × (fresh_site ≡ site_of_01)
unfolding bare_move shut_move move_of end_of field_from pushed row_from cut_row read_rows rows_from value_from digits_from needless_zero number_in content_at same_bytes is_word says_words number_at or_at least_below with_location location_of least_pair some_below or_else and_also may_be lacks_exit first_no_exit strays first_stray joins lacks_door first_no_door lacks_right first_no_right lets_in shut_out first_shut_out unless_outside way_out unvisited way_of unmarked site_row_fits take_site door_row_fits take_door exit_row_fits take_exit right_row_fits take_right take_line place_in place_among named_from word_named site_line_at site_header_at lines_in read_lines judged_draft settled after_header site_at zeros
sheets = (refl, refl, refl, refl, refl, refl, refl)

-- a verdict by its number and its places
given_back : {s : List ℕ} {v : Verdict} → (site_of s).verdict ≡ v → GivenBack s (verdict_no v) (first_place v) (second_place v)
given_back e = record { the_number = ap verdict_no e; the_place = ap first_place e; the_second = ap second_place e }

fresh : Fresh fresh_site
fresh = accepted_fresh site_sheet sheets.0

-- ---- the steps, without the test for 14

last_here : (rows : List StepRow) → last_of fresh_site rows ≡ sound_last site_of_01 rows
last_here rows = sound_last_lem rows fresh_site fresh.shaped fresh.sound ∙ ap (λ (x : Record). sound_last x rows) sheets.6

told_here : (d : ℕ) (rows : List StepRow)
    → ToldAt d rows (sound_step (sound_last site_of_01 rows) Decide d 0).reason (sound_step (sound_last site_of_01 rows) Decide d 0).held
told_here d rows =
    let e =
    sound_steps (last_of fresh_site rows) Decide d 0 (run_shaped fresh_site rows fresh.shaped) (run_sound fresh_site rows fresh.shaped fresh.sound)
    ∙ ap (λ (x : Record). sound_step x Decide d 0) (last_here rows)
    in
    record { the_reason = ap (λ (x : Step). x.reason) e; the_door = ap (λ (x : Step). x.held) e }

phase_here : (d : ℕ) (rows : List StepRow) → phase_at d rows ≡ get_or (sound_last site_of_01 rows).phase d 0
phase_here d rows = ap (λ (x : Record). get_or x.phase d 0) (last_here rows)

place_here : (p : ℕ) (rows : List StepRow) → place_after p rows ≡ get_or (sound_last site_of_01 rows).place p 0
place_here p rows = ap (λ (x : Record). get_or x.place p 0) (last_here rows)

steps : ToldAt 1 (card_at 0 0 ∷ step_at Decide 0 ∷ step_at Green 0 ∷ step_at Walk 0 ∷ card_at 1 0 ∷ []) 1 0
    × ToldAt 1 (goes_through 0 1 (card_at 1 1 ∷ [])) 2 0
    × ToldAt 3 (goes_through 0 0 (card_at 1 0 ∷ step_at Decide 1 ∷ card_at 3 0 ∷ [])) 3 1
    × (phase_at 0 (green_for 299) ≡ 3)
    × (phase_at 0 (green_for 300) ≡ 5)
    × (phase_at 1 (goes_through 0 0 (card_at 1 0 ∷ step_at Decide 1 ∷ [])) ≡ granted)
    × (place_after 1 (goes_through 0 1 []) ≡ 1)
    × (place_after 0 (goes_through 0 0 []) ≡ 1)
unfolding sound_last sound_step first_reason held_with effect act exist_among allows has_grant grant_of least_below or_at grants_to grants may_be and_also or_else zeros ticked
steps = (told_here 1 _, told_here 1 _, told_here 3 _, phase_here 0 _, phase_here 0 _, phase_here 1 _, place_here 1 _, place_here 0 _)

-- ---- the whole run

-- what is heard of each step
sound_heard : Record → List StepRow → List Line
sound_heard r [] = []
sound_heard r (row ∷ rows) =
    let s = sound_step r row.kind row.at row.person in
    heard_line row s ∷ sound_heard s.next rows

sound_heard_lem : (rows : List StepRow) (r : Record) → Shaped r → Sound r → heard_of r rows ≡ sound_heard r rows
unfolding heard_of lines_of replies_of sound_heard
sound_heard_lem [] r sh s = refl
sound_heard_lem (row ∷ rows) r sh s =
    ap (λ (l : List Line). heard_line row (row_of r row) ∷ l)
    (sound_heard_lem rows _ (shaped_stays r row.kind row.at row.person sh) (sound_stays r row.kind row.at row.person sh s))
    ∙ ap (λ (x : Step). heard_line row x ∷ sound_heard x.next rows) (sound_steps r row.kind row.at row.person sh s)

pub whole_run : heard_of fresh_site (rows_heard run_of01) ≡ run_of01
unfolding sound_heard rows_heard sound_step first_reason held_with effect act exist_among allows has_grant grant_of least_below or_at grants_to grants may_be and_also or_else zeros
whole_run = sound_heard_lem (rows_heard run_of01) fresh_site fresh.shaped fresh.sound ∙ ap (λ (x : Record). sound_heard x (rows_heard run_of01)) sheets.6

pub whole_run_places : (get_or (last_of fresh_site (rows_heard run_of01)).place 0 0 ≡ 1) × (get_or (last_of fresh_site (rows_heard run_of01)).place 1 0 ≡ 0)
unfolding sound_last rows_heard sound_step first_reason held_with effect act exist_among allows has_grant grant_of least_below or_at grants_to grants may_be and_also or_else zeros
whole_run_places =
    (ap (λ (x : Record). get_or x.place 0 0) (last_here (rows_heard run_of01)), ap (λ (x : Record). get_or x.place 1 0) (last_here (rows_heard run_of01)))

-- ---- the question

tested : sound_b site_of_01 ≡ true
tested = subst (λ (x : Record). sound_b x ≡ true) sheets.6 ((sound_tells fresh_site fresh.shaped).back fresh.sound)

way : (way_answer_of site_of_01 2 (9 ∷ 9 ∷ 9 ∷ []) ≡ Ok 2) × (way_written site_of_01 2 (9 ∷ 9 ∷ 9 ∷ []) ≡ 1 ∷ 0 ∷ 9 ∷ [])
unfolding way_answer_of way_written way_told_in way_written_in if_room way_of way_out unless_outside unvisited
way = (rw (tested), rw (tested))

way_here : way_answer_of fresh_site 2 (9 ∷ 9 ∷ 9 ∷ []) ≡ Ok 2
way_here = ap (λ (x : Record). way_answer_of x 2 (9 ∷ 9 ∷ 9 ∷ [])) sheets.6 ∙ way.0

pub twelve_cases : TwelveCases
twelve_cases =
    record {
      case_1 = given_back sheets.0;
      case_2 = given_back sheets.1;
      case_3 = given_back sheets.2;
      case_4 = given_back sheets.3;
      case_5 = given_back sheets.4;
      case_6 = given_back sheets.5;
      case_7 = steps.0;
      case_8_place = steps.6;
      case_8 = steps.1;
      case_9_place = steps.7;
      case_9_grant = steps.5;
      case_9 = steps.2;
      case_10 = steps.3;
      case_11 = steps.4;
      case_12_number = ap way_no way_here;
      case_12_length = ap length_told way_here;
      case_12 = ap (λ (x : Record). way_written x 2 (9 ∷ 9 ∷ 9 ∷ [])) sheets.6 ∙ way.1;
    }
