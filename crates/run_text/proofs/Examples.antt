-- The runs of specs/Examples.antt, computed from the bytes of the sheets. The steps are computed without the test for 14, which
-- every record of a run passes. Assumes nothing.
use Prim.Native.Nat.{ℕ, ◌+◌, ◌-◌, ◌*◌}
use mathlib.Core.Path.{◌≡◌, refl, sym, ap, subst, ◌∙◌}
use mathlib.Core.Bool.{true, false}
use mathlib.Core.List.{List, [], ◌∷◌}
use lib.ListN.{replicate, set}
use native.Mathlib.Omega.{arith}
use Rattle.tables.specs.Below.{or_at, least_below, with_location, location_of, least_pair, some_below}
use Rattle.tables.specs.Tables.{plan, or_else, and_also, may_be, most_people, most_locations, most_doors}
use Rattle.tables.specs.Tests.{lacks_exit, first_no_exit, strays, first_stray, joins, lacks_door, first_no_door, lacks_right, first_no_right, lets_in, shut_out, first_shut_out}
use Rattle.tables.specs.Way.{unless_outside, way_out, unvisited, way_of}
use Rattle.text.specs.Text.{digits, decimal, row_of_numbers}
use Rattle.record.specs.declared.record.Record.{Record}
use Rattle.record.specs.declared.steps.Step.{Step}
use Rattle.phases.specs.declared.table.Kind.{Kind}
use Rattle.phases.specs.declared.table.Kind.TheVariants.{Card, Decide, Green, Red, Walk, Passed}
use Rattle.phases.specs.Phase.{grants}
use Rattle.record.specs.Doors.{Shaped, fresh_record}
use Rattle.tables.specs.Zero.{zeros}
use Rattle.phases.specs.declared.table.StepRow.{StepRow}
use Rattle.phases.specs.Kinds.{kind_of, allows}
use Rattle.granting.specs.Grants.{grants_to, grant_of, has_grant}
use Rattle.record.specs.Sound.{Sound}
use Rattle.door_does.specs.Does.{effect}
use Rattle.granting.specs.Reasons.{first_reason, held_with}
use Rattle.deeds.specs.Deeds.{exist_among}
use Rattle.record.specs.Steps.{act, sound_step}
use Rattle.record.specs.Run.{Reply, reply_by, row_of, last_of, replies_of}
use Rattle.record.proofs.Laws.{sound_steps, sound_stays, shaped_stays}
use Rattle.grammar.specs.Cut.{bare_move, shut_move, move_of, end_of, field_from, pushed, row_from, cut_row}
use Rattle.grammar.specs.Rows.{read_rows, rows_from}
use Rattle.cell_meaning.specs.Say.{value_from, digits_from, needless_zero, number_in, content_at, same_bytes, is_word, place_in, place_among, named_from, says_words, number_at}
use Rattle.site_sheet.specs.Site.{SiteRead}
use Rattle.site_sheet.specs.Accepted.{AcceptedRecord}
use Rattle.verdict.specs.Verdict.{Accepted, NoSite}
use Rattle.site_lines.specs.Draft.{unmarked, site_row_fits, take_site, door_row_fits, take_door, exit_row_fits, take_exit, right_row_fits, take_right, take_line}
use Rattle.site_lines.specs.Line as site
use Rattle.site_lines.specs.Taking.{lines_in, read_lines}
use Rattle.site_sheet.specs.Site.{judged_draft, settled, after_header, site_at, site_of, refused_site}
use Rattle.grammar.specs.Sizes.{limit}
use Rattle.site_sheet.proofs.Theorems.{accepted_holds}
use Rattle.steps_sheet.specs.Heading.{Heading}
use Rattle.steps_sheet.specs.Heading.{Wrong, Rows}
use Rattle.steps_sheet.specs.Says.{Steps}
use Rattle.steps_sheet.specs.Steps.{person_at, steps_line_at, steps_header_at, heading_at, heading_of, steps_in, steps_from}
use Rattle.run_text.specs.Printed.{answer_rows, run_text, alone_text, ran_text, steps_text, panel_text, place_rows, places_text, record_text, last_record, where_text}
use Rattle.run_text.proofs.Sheets.{panel_refused, where_refused, panel_is, where_is}
use Rattle.run_text.specs.Examples.{site_header, site_sheet, steps_sheet, panel_top, where_top, five, two, panel_of01, bad_row, Examples}

-- ---- the steps, without the test for 14

unfoldable pub sound_last : Record → List StepRow → Record
sound_last r [] = r
sound_last r (row ∷ rows) = sound_last (sound_step r row.kind row.at row.person).next rows

pub sound_last_lem : (rows : List StepRow) (r : Record) → Shaped r → Sound r → last_of r rows ≡ sound_last r rows
unfolding last_of sound_last
sound_last_lem [] r sh s = refl
sound_last_lem (row ∷ rows) r sh s =
    sound_last_lem rows _ (shaped_stays r row.kind row.at row.person sh) (sound_stays r row.kind row.at row.person sh s)
    ∙ ap (λ (x : Step). sound_last x.next rows) (sound_steps r row.kind row.at row.person sh s)

unfoldable pub sound_replies : Record → List StepRow → List Reply
sound_replies r [] = []
sound_replies r (row ∷ rows) =
    let s = sound_step r row.kind row.at row.person in
    reply_by s ∷ sound_replies s.next rows

pub sound_replies_lem : (rows : List StepRow) (r : Record) → Shaped r → Sound r → replies_of r rows ≡ sound_replies r rows
unfolding replies_of sound_replies
sound_replies_lem [] r sh s = refl
sound_replies_lem (row ∷ rows) r sh s =
    ap (λ (l : List Reply). reply_by (row_of r row) ∷ l)
    (sound_replies_lem rows _ (shaped_stays r row.kind row.at row.person sh) (sound_stays r row.kind row.at row.person sh s))
    ∙ ap (λ (x : Step). reply_by x ∷ sound_replies x.next rows) (sound_steps r row.kind row.at row.person sh s)

-- ---- what the sheets are read into

-- the fresh record of 01's site
abbrev pub site_of_01 : Record
site_of_01 =
    fresh_record
    (plan 2 3 4 (0 ∷ 1 ∷ 2 ∷ 1 ∷ replicate (most_doors - 4) 0) (1 ∷ 2 ∷ 1 ∷ 0 ∷ replicate (most_doors - 4) 0) (0 ∷ 0 ∷ 1 ∷ replicate (most_locations - 3) 0))
    (set (set (set (replicate (most_people * most_locations) false) 1 true) 2 true) (most_locations + 1) true)

pub sites : (site_of site_sheet ≡ record { verdict = Accepted; «record» = site_of_01 }) × (site_of site_header ≡ refused_site NoSite)
unfolding bare_move shut_move move_of end_of field_from pushed row_from cut_row read_rows rows_from value_from digits_from needless_zero number_in content_at same_bytes is_word says_words number_at or_at least_below with_location location_of least_pair some_below or_else and_also may_be lacks_exit first_no_exit strays first_stray joins lacks_door first_no_door lacks_right first_no_right lets_in shut_out first_shut_out unless_outside way_out unvisited way_of unmarked site_row_fits take_site door_row_fits take_door exit_row_fits take_exit right_row_fits take_right take_line place_in place_among named_from site.word_named site.site_line_at site.site_header_at lines_in read_lines judged_draft settled after_header site_at zeros
sites = (refl, refl)

abbrev pub step : Kind → ℕ → StepRow
step kind door = record { kind = kind; at = door; person = 0 }

unfoldable pub steps_of01 : Steps
steps_of01 =
    record {
      rows =
          step Card 0 ∷ step Decide 0 ∷ step Green 0 ∷ step Walk 0 ∷ step Card 1 ∷ step Decide 1 ∷ step Passed 0 ∷ step Red 1 ∷ step Decide 0
          ∷ step Card 9 ∷ [];
      whole = true;
    }

-- one card, and then a row of bad form
unfoldable pub one_card : Steps
one_card = record { rows = step Card 0 ∷ []; whole = false }

pub headings : (heading_of steps_sheet ≡ Rows 18) × (heading_of bad_row ≡ Rows 18) × (heading_of [] ≡ Wrong)
unfolding bare_move shut_move move_of end_of pushed row_from cut_row content_at same_bytes is_word says_words steps_header_at heading_at
headings = (refl, refl, refl)

pub steps : (steps_from steps_sheet 18 ≡ steps_of01) × (steps_from bad_row 18 ≡ one_card)
unfolding bare_move shut_move move_of end_of pushed row_from cut_row read_rows rows_from value_from digits_from needless_zero number_in content_at same_bytes is_word number_at place_in place_among named_from kind_of person_at steps_line_at steps_in steps_of01 one_card
steps = (refl, refl)

-- ---- the steps, run

accepted : AcceptedRecord limit site_sheet
accepted = accepted_holds limit site_sheet (ap (λ (x : SiteRead). x.verdict) sites.0)

pub shaped : Shaped site_of_01
shaped = subst (λ (x : SiteRead). Shaped x.«record») sites.0 accepted.shaped

pub sound : Sound site_of_01
sound = subst (λ (x : SiteRead). Sound x.«record») sites.0 accepted.sound

panel_here : (s : List ℕ) {h : Heading} → heading_of s ≡ h → panel_text site_sheet s ≡ steps_text site_of_01 s h
panel_here s e = sym (panel_is site_sheet s (sym sites.0) refl refl e)

where_here : (s : List ℕ) {h : Heading} → heading_of s ≡ h → where_text site_sheet s ≡ record_text (last_record site_of_01 s h)
where_here s e = sym (where_is site_sheet s (sym sites.0) refl refl e)

-- the text of a run, its steps computed
sound_ran : Steps → List ℕ
sound_ran x = run_text (sound_replies site_of_01 x.rows) x.whole

sound_ran_lem : (x : Steps) → ran_text site_of_01 x ≡ sound_ran x
unfolding sound_ran
sound_ran_lem x = rw (sound_replies_lem x.rows site_of_01 shaped sound)

panel_ran : (s : List ℕ) {x : Steps} → heading_of s ≡ Rows 18 → steps_from s 18 ≡ x → panel_text site_sheet s ≡ sound_ran x
panel_ran s e f = panel_here s e ∙ ap (ran_text site_of_01) f ∙ sound_ran_lem _

texts : (sound_ran steps_of01 ≡ panel_of01)
    × (sound_ran one_card ≡ panel_top (five 1 0 1 0 0 (five 2 2 0 0 0 [])))
    × (record_text (sound_last site_of_01 steps_of01.rows) ≡ where_top (two 0 1 (two 1 0 [])))
unfolding sound_ran sound_replies sound_last steps_of01 one_card sound_step first_reason held_with effect act exist_among allows has_grant grant_of least_below or_at grants_to grants may_be and_also or_else zeros run_text answer_rows place_rows places_text row_of_numbers decimal digits
texts = (refl, refl, refl)

alone : (alone_text 2 ≡ panel_top (five 0 2 0 0 0 [])) × (alone_text 5 ≡ panel_top (five 0 5 0 0 0 [])) × (places_text [] ≡ where_top []) × (record_text site_of_01 ≡ where_top (two 0 0 (two 1 0 [])))
unfolding alone_text place_rows places_text row_of_numbers decimal digits zeros
alone = (refl, refl, refl, refl)

pub five_refused : ◌≡◌ {A = ℕ} 5 0 → ⊥
five_refused e = omega arith

pub examples : Examples
examples =
    record {
      panel_of_01 = panel_ran steps_sheet headings.0 steps.0 ∙ texts.0;
      where_of_01 =
          where_here steps_sheet headings.0 ∙ ap (λ (x : Steps). record_text (last_of site_of_01 x.rows)) steps.0
          ∙ ap record_text (sound_last_lem steps_of01.rows site_of_01 shaped sound) ∙ texts.2;
      bad_row_first = panel_ran bad_row headings.1 steps.1 ∙ texts.1;
      wrong_header = panel_here [] headings.2 ∙ alone.0;
      wrong_header_where = where_here [] headings.2 ∙ alone.3;
      refused_site_lem = sym (panel_refused site_header [] (sym sites.1) refl five_refused) ∙ alone.1;
      refused_site_where = sym (where_refused site_header [] (sym sites.1) refl five_refused) ∙ alone.2;
    }
