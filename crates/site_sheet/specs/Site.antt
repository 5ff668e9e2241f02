-- The whole site sheet: what is answered to it. 01, "Site sheet", "Numbers given back" and "The record".
use Rattle.std.specs.Prelude.{ℕ, cond, List, length, ltb, eqb, Option, Some, None, Result}
use Rattle.tables.specs.Tests.{first_no_exit, first_stray, first_no_door, first_no_right, first_shut_out}
use Rattle.record.specs.declared.record.Record.{Record}
use Rattle.record.specs.Doors.{fresh_record}
use Rattle.grammar.specs.declared.cut.RowCut.{RowCut}
use Rattle.grammar.specs.declared.cut.RowCut.TheVariants.{Cut, NoRow, Broken}
use Rattle.grammar.specs.Sizes.{limit}
use Rattle.grammar.specs.Cut.{cut_row}
use Rattle.grammar.specs.Rows.{rows_from}
use Rattle.site_lines.specs.declared.Draft.{Draft}
use Rattle.verdict.specs.declared.SiteRefused.{SiteRefused}
use Rattle.verdict.specs.Verdict.{Verdict, if_accepted, Accepted, TooLong, BadRow, NoSite, NoExit, Stray, NoDoor, NoRight, ShutOut}
use Rattle.site_lines.specs.Draft.{Reading}
use Rattle.site_lines.specs.Line.{site_header_at}
use Rattle.site_lines.specs.Draft.{blank_draft, plan_in}
use Rattle.site_lines.specs.Taking.{sound_fault, verdict_of, lines_in, read_lines}
-- the number and the places of a verdict, passed on to whoever reads of the whole sheet
pub use Rattle.verdict.specs.Numbers.{verdict_no, first_place, second_place}

-- The answer to a sheet: what is said of it, and the fresh record, or a blank one where the sheet is refused.
pub record SiteRead : Type 0 where
  pub verdict : Verdict
  pub «record» : Record

-- "A refused site sheet gives no new record.": of an answer, the record is handed out where the sheet is accepted, and else the refusal alone
abbrev pub site_told : SiteRead → Result Record SiteRefused
site_told read = if_accepted read.verdict read.record

-- "A refused site sheet gives no new record.": the blank record has no people, so that it isn't sound
abbrev pub blank_record : Record
blank_record = fresh_record (plan_in blank_draft) blank_draft.right

abbrev pub refused_site : Verdict → SiteRead
refused_site verdict = record { verdict = verdict; «record» = blank_record }

-- "The fresh record of an accepted sheet"
abbrev pub accepted_site : Draft → SiteRead
accepted_site d = record {
  verdict = Accepted;
  «record» = fresh_record (plan_in d) d.right;
}

abbrev pub unless_found : Option ℕ → (ℕ → Verdict) → SiteRead → SiteRead
unless_found (Some k) refusal on = refused_site (refusal k)
unless_found None refusal on = on

abbrev pub unless_pair : Option (ℕ × ℕ) → (ℕ → ℕ → Verdict) → SiteRead → SiteRead
unless_pair (Some (p, l)) refusal on = refused_site (refusal p l)
unless_pair None refusal on = on

-- "then 6 to 10 over the whole sheet, each finished before the next"
abbrev pub judged_by10 : Draft → SiteRead
judged_by10 d = unless_found (first_shut_out (plan_in d) d.right) ShutOut (accepted_site d)

abbrev pub judged_from8 : Draft → SiteRead
judged_from8 d =
    unless_found (first_no_door (plan_in d)) NoDoor (unless_pair (first_no_right (plan_in d) d.right) NoRight (judged_by10 d))

unfoldable pub judged_draft : Draft → SiteRead
judged_draft d =
    unless_found (first_no_exit d.locations d.given) NoExit
    (unless_found (first_stray d.locations d.exit) Stray (judged_from8 d))

-- "a header alone is 5"
unfoldable pub settled : Reading → SiteRead
settled r =
    cond (sound_fault r.fault) (cond (eqb r.draft.locations 0) (refused_site NoSite) (judged_draft r.draft))
    (refused_site (verdict_of r.fault r.row))

-- "An empty sheet is 2 at row 0"
unfoldable pub after_header : List ℕ → RowCut → SiteRead
after_header s (Cut cells next) = cond (site_header_at s cells) (settled (read_lines blank_draft 1 (lines_in s (rows_from s next)))) (refused_site (BadRow 0))
after_header s NoRow = refused_site (BadRow 0)
after_header s (Broken byte) = refused_site (BadRow 0)

-- "A sheet: 1 first": what is answered to a sheet that may have `most` bytes
unfoldable pub site_at : ℕ → List ℕ → SiteRead
site_at most s = cond (ltb most (length s)) (refused_site TooLong) (after_header s (cut_row s 0))

-- "A sheet is at most 49,152 bytes."
abbrev pub site_of : List ℕ → SiteRead
site_of s = site_at limit s
