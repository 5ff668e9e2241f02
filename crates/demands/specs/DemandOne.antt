-- Demand 1: "Any sheet of text, any record, any number for a door or a person: the panel ends, and acts or refuses by a number
-- from the papers. A refusal alters no record and no list lent to it." Each field is a public function, and says what follows of
-- the definition that its promise cites. A function that answers no number tells a place or a fact: the place is there, the fact
-- is told exactly where its field has `Tells`, `Answers` or `↔`. The parts of the site sheet, of the steps sheet and of what is
-- printed are here, and that of rows that come is in `specs/Rows.antt`. The others are in `sheet_answers/specs/Answers.antt`, `syslog_answers/specs/Answers.antt`,
-- `table_answers/specs/Answers.antt`, and `record_answers/specs/Answers.antt`, `record_answers/specs/Deeds.antt` and
-- `record_answers/specs/Enums.antt`.
use Rattle.std.specs.Prelude.{ℕ, ◌+◌, ◌*◌, ◌≤◌, ◌<◌, ◌≡◌, true, false, cond, List, [], ◌∷◌, ◌↔◌, length, drop, replicate, eqb, leb, Result, Ok, Err}
use Rattle.std.proofs.lemmas.List.Edits.{sets}
use Rattle.std.specs.Prelude.{Some, None}
use Rattle.numbers.specs.Numbers.{done_no, too_long_no, bad_form_no, out_of_range_no, twice_no, no_site_no, no_exit_no, stray_no, no_door_no, no_right_no, shut_out_no, too_short_no}
use Rattle.text.specs.Printed.{printed_of, Prints}
use Rattle.record.specs.SoundTest.{sound_b}
use Rattle.verdict.specs.Verdict.{Verdict}
use Rattle.verdict.specs.Verdict.{Accepted, TooLong, BadRow, OutOfRange, Twice, NoSite, NoExit, Stray, NoDoor, NoRight, ShutOut, said_of}
use Rattle.verdict.specs.Numbers.{site_refused_no}
use Rattle.verdict.specs.declared.SiteRefused.{SiteRefused}
use Rattle.record.specs.declared.record.Record.{Record}
use Rattle.grammar.specs.declared.cut.Cells.{Cells}
use Rattle.tables.specs.Tables.{may_be, most_people, most_locations}
use Rattle.grammar.specs.Grammar.{Row}
use Rattle.grammar.specs.Where.{RowHolds}
use Rattle.grammar.specs.Rows.{rows_from}
use Rattle.grammar.specs.Sizes.{limit}
use Rattle.phases.specs.declared.table.StepRow.{StepRow}
use Rattle.site_lines.specs.declared.SiteLine.{SiteLine}
use Rattle.site_lines.specs.Line.{site_line_at}
use Rattle.site_lines.specs.Draft.{blank_draft, Reading}
use Rattle.site_lines.specs.Fault.{Sound}
use Rattle.site_lines.specs.Lent.{fault_of, reading_told}
use Rattle.site_lines.specs.declared.Filled.{Filled}
use Rattle.site_lines.specs.declared.Stopped.{Stopped}
use Rattle.site_lines.specs.Says.{SaysSo, TextSaysLines}
use Rattle.site_lines.specs.Taking.{lines_in, read_lines}
use Rattle.site_sheet.specs.Site.{site_of, site_told, blank_record, first_place, second_place}
use Rattle.site_sheet.specs.Site as site
use Rattle.site_lines.specs.Gives.{RowsTold, Gives}
use Rattle.steps_sheet.specs.Heading.{Heading, heading_told, unheaded_no}
use Rattle.steps_sheet.specs.declared.Unheaded.{Unheaded}
use Rattle.steps_sheet.specs.Says.{Steps, SaysStep, BadForm, TextSaysSteps, HeadingSays}
use Rattle.steps_sheet.specs.Steps.{steps_line_at, heading_of}
use Rattle.steps_sheet.specs.Lent.{most_in, kinds_in, doors_in, persons_in, decoded_in, kinds_listed, doors_listed, persons_listed}
use Rattle.run_text.specs.Printed.{panel_text, where_text}
use Rattle.blank_lists.specs.{most_panel_text, most_where_text}
use Rattle.stream_lists.specs.{most_events_text, most_rows_text}
use Rattle.stream_text.specs.Stream.{events_text}
use Rattle.numbers.specs.Telling.{done, ◌unless◌then◌, NumberBy, OneOf}
use Rattle.sheet_answers.specs.Answers.{SheetAnswers, TextTells, TextAnswers}
use Rattle.syslog_answers.specs.Answers.{RowsText, SyslogAnswers}
use Rattle.table_answers.specs.Answers.{TablesAnswers, RulesAnswers, DoorAnswers}
use Rattle.record_answers.specs.Answers.{SoundAnswers, RecordAnswers}
use Rattle.record_answers.specs.Deeds.{DeedsAnswers}
use Rattle.record_answers.specs.Enums.{EnumAnswers}
use Rattle.demands.specs.Rows.{LiveAnswers}
use Rattle.findings.specs.declared.TooShort.{TooShort}
use Rattle.findings.specs.Told.{too_short, short_no}
use Rattle.numbers.specs.Told.{told_no}
use Rattle.steps_sheet.specs.declared.Decoded.{Decoded}

-- ---- crates `verdict`, `site_row`, `site_tables` and `site`

-- "Numbers given back", columns "No." and "Place told": the number of a verdict and its two places. "Unused place numbers are 0."
pub data TableLine : Verdict → ℕ → ℕ → ℕ → Type 0 where
  -- "none", "0"
  accepted : TableLine Accepted done_no 0 0
  too_long : TableLine TooLong too_long_no 0 0
  -- "row"
  bad_form : (row : ℕ) → TableLine (BadRow row) bad_form_no row 0
  out_of_range : (row : ℕ) → TableLine (OutOfRange row) out_of_range_no row 0
  twice : (row : ℕ) → TableLine (Twice row) twice_no row 0
  -- "1"
  no_site : TableLine NoSite no_site_no 1 0
  -- "smallest such location"
  no_exit : (location : ℕ) → TableLine (NoExit location) no_exit_no location 0
  stray : (location : ℕ) → TableLine (Stray location) stray_no location 0
  no_door : (location : ℕ) → TableLine (NoDoor location) no_door_no location 0
  -- "smallest person, then location"
  no_right : (person location : ℕ) → TableLine (NoRight person location) no_right_no person location
  -- "smallest person"
  shut_out : (person : ℕ) → TableLine (ShutOut person) shut_out_no person 0

-- what is answered to a sheet: each number, with its place, exactly when its line of the table says so
pub record SiteTells (s : List ℕ) : Type 0 where
  pub number : TableLine (site_of s).verdict (site.verdict_no (site_of s).verdict) (first_place (site_of s).verdict) (second_place (site_of s).verdict)
  pub exactly : (v : Verdict) → ((site_of s).verdict ≡ v) ↔ Gives limit s v
  -- "A refused site sheet gives no new record.": the blank one, which isn't sound
  pub no_record : (site.verdict_no (site_of s).verdict ≡ done_no → ⊥) → ((site_of s).«record» ≡ blank_record) × (sound_b (site_of s).«record» ≡ true → ⊥)
  -- what is told of it, in the code's type: the record exactly where the sheet is accepted, and a refusal exactly where its verdict was said
  pub told_record : (r : Record) → (site_told (site_of s) ≡ Ok r) ↔ (((site_of s).verdict ≡ Accepted) × ((site_of s).«record» ≡ r))
  pub told_refusal : (f : SiteRefused) → (site_told (site_of s) ≡ Err f) ↔ ((site_of s).verdict ≡ said_of f)
  -- and the number of what is told is the verdict's
  pub told_number : told_no site_refused_no (site_told (site_of s)) ≡ site.verdict_no (site_of s).verdict

-- what is told of rows that were read, in the code's type: all of it, whether they were taken to the end or stopped
pub record RowsAreTold (r : Reading) : Type 0 where
  pub filled : (x : Filled) → (reading_told r ≡ Ok x) ↔ ((r.fault ≡ Sound) × (r.draft ≡ x.draft) × (r.row ≡ x.row))
  pub stopped : (x : Stopped) → (reading_told r ≡ Err x) ↔ ((r.fault ≡ fault_of x.stop.fault) × (r.row ≡ x.stop.row) × (r.draft ≡ x.draft))

pub record SiteAnswers : Type 0 where
  -- a row is told to say a line exactly when it says it
  pub site_line_of_lem : (s : List ℕ) (cells : Cells) (r : Row) → RowHolds s cells r → (line : SiteLine) → (site_line_at s cells ≡ line) ↔ SaysSo r line
  -- rows are taken into tables that hold what they say, or the first with which something is wrong is told
  pub read_rows_lem : (s : List ℕ) (from : ℕ) (lines : List SiteLine) → TextSaysLines (drop from s) lines
      → RowsTold lines (read_lines blank_draft 1 (lines_in s (rows_from s from))) × RowsAreTold (read_lines blank_draft 1 (lines_in s (rows_from s from)))
  pub read_site : (s : List ℕ) → SiteTells s
  -- each verdict has its line, with its number and its places
  pub verdict_number : (v : Verdict) → TableLine v (site.verdict_no v) (first_place v) (second_place v)
  pub verdict_place : (v : Verdict) (number place second : ℕ) → TableLine v number place second → first_place v ≡ place
  pub verdict_second_place : (v : Verdict) (number place second : ℕ) → TableLine v number place second → second_place v ≡ second
  -- and so has each refusal, in the code's type
  pub site_refused_number : (f : SiteRefused) → TableLine (said_of f) (site_refused_no f) (first_place (said_of f)) (second_place (said_of f))
  pub site_refused_place : (f : SiteRefused) (number place second : ℕ) → TableLine (said_of f) number place second → first_place (said_of f) ≡ place
  pub site_refused_second_place : (f : SiteRefused) (number place second : ℕ) → TableLine (said_of f) number place second → second_place (said_of f) ≡ second

-- ---- crates `steps_row` and `steps`

-- each lent list is as long as the steps of a sheet of so many bytes can be many
pub record StepsRoom (bytes : ℕ) (kinds doors persons : List ℕ) : Type 0 where
  pub in_kinds : most_in bytes ≤ length kinds
  pub in_doors : most_in bytes ≤ length doors
  pub in_persons : most_in bytes ≤ length persons

pub record DecodeTells (s : List ℕ) (from : ℕ) (kinds doors persons : List ℕ) : Type 0 where
  pub number : NumberBy (too_short_no unless StepsRoom (length s) kinds doors persons then done) (told_no short_no (decoded_in s from kinds doors persons))
  -- "After a refusal .. every lent list hold[s] what [it] held before."
  pub unaltered : decoded_in s from kinds doors persons ≡ Err too_short
      → (kinds_listed s from kinds doors persons ≡ kinds) × (doors_listed s from kinds doors persons ≡ doors) × (persons_listed s from kinds doors persons ≡ persons)
  -- else what the text from there says: how many steps, whether it ends behind them, and each in front of each list, the rest unaltered
  pub decoded : (d : Decoded) → decoded_in s from kinds doors persons ≡ Ok d → (steps : Steps) → TextSaysSteps (drop from s) steps.rows steps.whole
      → (d.count ≡ length steps.rows)
      × (d.whole ≡ steps.whole)
      × (kinds_listed s from kinds doors persons ≡ sets kinds 0 (kinds_in steps))
      × (doors_listed s from kinds doors persons ≡ sets doors 0 (doors_in steps))
      × (persons_listed s from kinds doors persons ≡ sets persons 0 (persons_in steps))

-- a row is told to be a step, or of bad form, exactly when it is so
pub record StepsLineTells (s : List ℕ) (cells : Cells) (r : Row) : Type 0 where
  pub a_step : (step : StepRow) → (steps_line_at s cells ≡ Some step) ↔ SaysStep r step
  pub bad : (steps_line_at s cells ≡ None) ↔ BadForm r

pub record StepsAnswers : Type 0 where
  pub steps_line_of_lem : (s : List ℕ) (cells : Cells) (r : Row) → RowHolds s cells r → StepsLineTells s cells r
  -- a sheet is too long, has a header behind which its rows begin, or a wrong one, and is told to be exactly what it is
  pub heading_of_lem : (s : List ℕ) (h : Heading) → ((heading_of s ≡ h) ↔ HeadingSays limit s h) × ((heading_told (heading_of s) ≡ heading_told h) ↔ HeadingSays limit s h)
  -- "sheet over 49,152 bytes", "wrong header"
  pub unheaded_number : (why : Unheaded) → OneOf (too_long_no ∷ bad_form_no ∷ []) (unheaded_no why)
  pub decode : (s : List ℕ) (from : ℕ) (kinds doors persons : List ℕ) → DecodeTells s from kinds doors persons

-- ---- crates `run`, `stream`, `blank_lists` and `program_io`, and the list of `stream_lists` for a stream that is printed

pub record RunAnswers : Type 0 where
  pub panel_text_lem : (site steps out : List ℕ) (told : Result ℕ TooShort) (after : List ℕ) → Prints (panel_text site steps) out told after
      → TextTells (panel_text site steps) out told after
  pub where_text_lem : (site steps out : List ℕ) (told : Result ℕ TooShort) (after : List ℕ) → Prints (where_text site steps) out told after
      → TextTells (where_text site steps) out told after
  pub events_text_lem : (site steps out : List ℕ) (told : Result ℕ TooShort) (after : List ℕ) → Prints (events_text site steps) out told after
      → TextTells (events_text site steps) out told after
  -- the list for a sheet has a byte more than a sheet may have, so that a longer file is seen to be longer
  pub blank_sheet : (s : List ℕ) → length s ≤ limit → length s < length {A = ℕ} (replicate (limit + 1) 0)
  -- before any right is given nobody may be anywhere but outside
  pub blank_rights : (p l : ℕ) → may_be (replicate (most_people * most_locations) false) p l ≡ eqb l 0
  -- no more is written than the list has
  pub write_text : (list : List ℕ) (n : ℕ) → cond (leb n (length list)) n 0 ≤ length list
  -- no text is too long for the lists that the programs lend,
  pub panel_fits : (site steps : List ℕ) → length (panel_text site steps) ≤ most_panel_text
  pub where_fits : (site steps : List ℕ) → length (where_text site steps) ≤ most_where_text
  pub events_fits : (site steps : List ℕ) → length (events_text site steps) ≤ most_events_text
  pub read_events_fits : (stream text : List ℕ) → RowsText stream text → length text ≤ most_rows_text
  -- so that each is printed whole in the list that is there for it
  pub blank_panel_text : (site steps : List ℕ) → printed_of (panel_text site steps) (replicate most_panel_text 0) ≡ Ok (length (panel_text site steps))
  pub blank_where_text : (site steps : List ℕ) → printed_of (where_text site steps) (replicate most_where_text 0) ≡ Ok (length (where_text site steps))
  pub blank_events_text : (site steps : List ℕ) → printed_of (events_text site steps) (replicate most_events_text 0) ≡ Ok (length (events_text site steps))

-- ---- all of them

pub record DemandOne : Type 1 where
  pub of_sheet : SheetAnswers
  pub of_text : TextAnswers
  pub of_syslog : SyslogAnswers
  pub of_tables : TablesAnswers
  pub of_rules : RulesAnswers
  pub of_door : DoorAnswers
  pub of_sound : SoundAnswers
  pub of_deeds : DeedsAnswers
  pub of_record : RecordAnswers
  pub of_enums : EnumAnswers
  pub of_site : SiteAnswers
  pub of_steps : StepsAnswers
  pub of_run : RunAnswers
  pub of_live : LiveAnswers
