-- "That two answers both allowed are equal is itself a theorem" (01, "What the promises leave no room for"). Each field is a public
-- function: whatever its promise allows, the answer and what each lent list holds at exit, is one thing. The promise stands as in the
-- function's `ensures`.
-- The parts of the site sheet, of the steps sheet and of what is printed are here. The others are in specs/Unique.antt of the crates
-- `sheet_answers`, `syslog_answers`, `table_answers` and `record_answers`, and in `record_answers/specs/Deeds.antt` and
-- `record_answers/specs/Enums.antt`.
use Rattle.std.specs.Prelude.{ℕ, ◌+◌, ◌*◌, ◌≡◌, Bool, false, cond, List, length, replicate, leb, Result}
use Rattle.std.specs.Prelude.{Option}
use Rattle.phases.specs.declared.table.StepRow.{StepRow}
use Rattle.grammar.specs.Sizes.{limit}
use Rattle.tables.specs.Tables.{most_people, most_locations}
use Rattle.text.specs.Printed.{Prints}
use Rattle.record.specs.declared.record.Record.{Record}
use Rattle.record.specs.Steps.{First, HeldDoor}
use Rattle.verdict.specs.Verdict.{Verdict, said_of}
use Rattle.verdict.specs.Numbers.{site_refused_no}
use Rattle.verdict.specs.declared.SiteRefused.{SiteRefused}
use Rattle.grammar.specs.declared.cut.Cells.{Cells}
use Rattle.grammar.specs.Rows.{rows_from}
use Rattle.site_lines.specs.declared.SiteLine.{SiteLine}
use Rattle.site_lines.specs.declared.Filled.{Filled}
use Rattle.site_lines.specs.declared.Stopped.{Stopped}
use Rattle.site_lines.specs.Lent.{reading_told}
use Rattle.site_lines.specs.Line.{site_line_at}
use Rattle.site_lines.specs.Draft.{blank_draft, Reading}
use Rattle.site_lines.specs.Taking.{lines_in, read_lines}
use Rattle.site_sheet.specs.Site.{SiteRead, site_of, site_told, first_place, second_place}
use Rattle.site_sheet.specs.Site as site
use Rattle.site_lines.specs.Gives.{Gives}
use Rattle.steps_sheet.specs.Heading.{Heading, heading_told, unheaded_no}
use Rattle.steps_sheet.specs.declared.Unheaded.{Unheaded}
use Rattle.steps_sheet.specs.declared.Decoded.{Decoded}
use Rattle.steps_sheet.specs.Says.{Steps, TextSaysSteps, HeadingSays}
use Rattle.steps_sheet.specs.Steps.{steps_line_at, heading_of}
use Rattle.steps_sheet.specs.Lent.{decoded_in, kinds_listed, doors_listed, persons_listed}
use Rattle.run_text.specs.Printed.{panel_text, where_text}
use Rattle.blank_lists.specs.{most_panel_text, most_where_text}
use Rattle.stream_lists.specs.{most_events_text}
use Rattle.stream_text.specs.Stream.{events_text}
use Rattle.numbers.specs.Telling.{Unique}
use Rattle.sheet_answers.specs.Unique.{SheetUnique, TextUnique}
use Rattle.syslog_answers.specs.Unique.{SyslogUnique}
use Rattle.table_answers.specs.Unique.{TablesUnique, RulesUnique, DoorUnique}
use Rattle.record_answers.specs.Unique.{SoundUnique, RecordUnique}
use Rattle.record_answers.specs.Deeds.{DeedsUnique}
use Rattle.record_answers.specs.Enums.{EnumUnique}
use Rattle.demands.specs.Rows.{LiveUnique}
use Rattle.findings.specs.declared.TooShort.{TooShort}

pub record SiteUnique : Type 0 where
  pub site_line_of_lem : (s : List ℕ) (cells : Cells) → Unique (λ (x : SiteLine). x ≡ site_line_at s cells)
  -- what is read of rows and of a sheet, and what is told of it in the code's type
  pub rows_read : (s : List ℕ) (from : ℕ) → Unique (λ (x : Reading). x ≡ read_lines blank_draft 1 (lines_in s (rows_from s from)))
  pub read_rows_lem : (s : List ℕ) (from : ℕ) → Unique (λ (x : Result Filled Stopped). x ≡ reading_told (read_lines blank_draft 1 (lines_in s (rows_from s from))))
  pub site_read : (s : List ℕ) → Unique (λ (x : SiteRead). x ≡ site_of s)
  pub read_site : (s : List ℕ) → Unique (λ (x : Result Record SiteRefused). x ≡ site_told (site_of s))
  pub verdict_number : (v : Verdict) → Unique (λ (x : ℕ). x ≡ site.verdict_no v)
  pub verdict_place : (v : Verdict) → Unique (λ (x : ℕ). x ≡ first_place v)
  pub verdict_second_place : (v : Verdict) → Unique (λ (x : ℕ). x ≡ second_place v)
  pub site_refused_number : (f : SiteRefused) → Unique (λ (x : ℕ). x ≡ site_refused_no f)
  pub site_refused_place : (f : SiteRefused) → Unique (λ (x : ℕ). x ≡ first_place (said_of f))
  pub site_refused_second_place : (f : SiteRefused) → Unique (λ (x : ℕ). x ≡ second_place (said_of f))

pub record StepsUnique : Type 0 where
  pub steps_line_of_lem : (s : List ℕ) (cells : Cells) → Unique (λ (x : Option StepRow). x ≡ steps_line_at s cells)
  -- what a header says, and what is told of it in the code's type
  pub heading_read : (s : List ℕ) → Unique (λ (x : Heading). x ≡ heading_of s)
  pub heading_of_lem : (s : List ℕ) → Unique (λ (x : Result ℕ Unheaded). x ≡ heading_told (heading_of s))
  pub unheaded_number : (why : Unheaded) → Unique (λ (x : ℕ). x ≡ unheaded_no why)
  -- the answer, and the three lent lists at exit
  pub decode : (s : List ℕ) (from : ℕ) (kinds doors persons : List ℕ)
      → Unique
      (λ (x : Result Decoded TooShort × List ℕ × List ℕ × List ℕ).
      (x.0 ≡ decoded_in s from kinds doors persons)
      × (x.1 ≡ kinds_listed s from kinds doors persons)
      × (x.2 ≡ doors_listed s from kinds doors persons)
      × (x.3 ≡ persons_listed s from kinds doors persons))

pub record RunUnique : Type 0 where
  -- the answer, and the lent list at exit
  pub panel_text_lem : (site steps out : List ℕ)
      → Unique (λ (x : Result ℕ TooShort × List ℕ). Prints (panel_text site steps) out x.0 x.1)
  pub where_text_lem : (site steps out : List ℕ)
      → Unique (λ (x : Result ℕ TooShort × List ℕ). Prints (where_text site steps) out x.0 x.1)
  pub events_text_lem : (site steps out : List ℕ)
      → Unique (λ (x : Result ℕ TooShort × List ℕ). Prints (events_text site steps) out x.0 x.1)
  pub write_text : (list : List ℕ) (n : ℕ) → Unique (λ (x : ℕ). x ≡ cond (leb n (length list)) n 0)
  pub blank_sheet : Unique (λ (x : List ℕ). x ≡ replicate (limit + 1) 0)
  pub blank_rights : Unique (λ (x : List Bool). x ≡ replicate (most_people * most_locations) false)
  pub blank_panel_text : Unique (λ (x : List ℕ). x ≡ replicate most_panel_text 0)
  pub blank_where_text : Unique (λ (x : List ℕ). x ≡ replicate most_where_text 0)
  pub blank_events_text : Unique (λ (x : List ℕ). x ≡ replicate most_events_text 0)

-- Where the papers say an answer by its conditions, not by a definition, they too allow one alone: the number and the place that
-- the table gives a site sheet, the first reason that applies, the door told with it, and the heading and the steps of a steps sheet.
pub record PapersUnique : Type 0 where
  pub table_of_numbers : (s : List ℕ) → Unique (Gives limit s)
  pub first_reason_lem : (r : Record) (d p : ℕ) → Unique (First r d p)
  pub held_door : (r : Record) (p why : ℕ) → Unique (HeldDoor r p why)
  pub heading : (most : ℕ) (s : List ℕ) → Unique (HeadingSays most s)
  pub steps : (text : List ℕ) → Unique (λ (x : Steps). TextSaysSteps text x.rows x.whole)

pub record AnswersUnique : Type 1 where
  pub of_sheet : SheetUnique
  pub of_text : TextUnique
  pub of_syslog : SyslogUnique
  pub of_tables : TablesUnique
  pub of_rules : RulesUnique
  pub of_door : DoorUnique
  pub of_sound : SoundUnique
  pub of_deeds : DeedsUnique
  pub of_record : RecordUnique
  pub of_enums : EnumUnique
  pub of_site : SiteUnique
  pub of_steps : StepsUnique
  pub of_run : RunUnique
  pub of_live : LiveUnique
  pub of_the_papers : PapersUnique
