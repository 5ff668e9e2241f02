-- Demand 1 of a site sheet; what it says is in `specs/DemandOne.antt`. Assumes nothing.
use Prim.Native.Nat.{ℕ, ◌≤◌}
use mathlib.Core.Path.{◌≡◌, refl, sym}
use mathlib.Core.Bool.{true, false≢true}
use mathlib.Core.List.{List}
use native.Mathlib.Omega.{arith}
use lib.ListN.{length}
use lib.Dec.{eqb, ltb}
use Rattle.std.specs.Prelude.{Option, Some, None}
use Rattle.grammar.specs.declared.cut.RowCut.{RowCut}
use Rattle.grammar.specs.declared.cut.RowCut.TheVariants.{Cut, NoRow, Broken}
use Rattle.grammar.specs.Cut.{cut_row}
use Rattle.tables.specs.Tables.{and_also}
use Rattle.tables.specs.Tests.{first_no_exit, first_stray, first_no_door, first_no_right, first_shut_out, counts_fit, plan_in_range, lawful_b}
use Rattle.soundness.specs.SoundTest.{lists_sound}
use Rattle.record.specs.SoundTest.{sound_b}
use Rattle.tables.proofs.Cases.{either}
use Rattle.verdict.specs.Verdict.{Verdict, said_of}
use Rattle.verdict.proofs.Told.{verdict_number_told, accepted_told, refused_told, said_refused}
use Rattle.site_lines.proofs.Told.{all_told, stop_told, told_all, told_stop}
use Rattle.verdict.specs.Verdict.{Accepted, TooLong, BadRow, OutOfRange, Twice, NoSite, NoExit, Stray, NoDoor, NoRight, ShutOut}
use Rattle.site_sheet.specs.Site.{SiteRead}
use Rattle.site_lines.specs.Draft.{Reading}
use Rattle.site_lines.specs.declared.Draft.{Draft}
use Rattle.site_lines.specs.Line.{site_header_at}
use Rattle.site_lines.specs.Draft.{plan_in}
use Rattle.site_lines.specs.Taking.{sound_fault}
use Rattle.site_sheet.specs.Site.{first_place, second_place, blank_record, accepted_site, unless_found, unless_pair, judged_draft, settled, after_header, site_at, site_of}
use Rattle.grammar.specs.Sizes.{limit}
use Rattle.site_sheet.specs.Site as site
use Rattle.site_lines.proofs.Theorems.{line_exactly, rows_taken}
use Rattle.site_sheet.proofs.Theorems.{given_exactly}
use Rattle.demands.specs.DemandOne.{TableLine, accepted, too_long, bad_form, out_of_range, twice, no_site, no_exit, stray, no_door, no_right, shut_out, SiteTells, RowsAreTold, SiteAnswers}

pub number_most : (v : Verdict) → site.verdict_no v ≤ 10
number_most Accepted = omega arith
number_most TooLong = omega arith
number_most (BadRow n) = omega arith
number_most (OutOfRange n) = omega arith
number_most (Twice n) = omega arith
number_most NoSite = omega arith
number_most (NoExit l) = omega arith
number_most (Stray l) = omega arith
number_most (NoDoor l) = omega arith
number_most (NoRight p l) = omega arith
number_most (ShutOut p) = omega arith

-- the line of each verdict has its number and its places,
line_of : (v : Verdict) → TableLine v (site.verdict_no v) (first_place v) (second_place v)
line_of Accepted = accepted
line_of TooLong = too_long
line_of (BadRow n) = bad_form n
line_of (OutOfRange n) = out_of_range n
line_of (Twice n) = twice n
line_of NoSite = no_site
line_of (NoExit l) = no_exit l
line_of (Stray l) = stray l
line_of (NoDoor l) = no_door l
line_of (NoRight p l) = no_right p l
line_of (ShutOut p) = shut_out p

-- and there is no other line of it
only_line : {v : Verdict} {number place second : ℕ} → TableLine v number place second
    → (first_place v ≡ place) × (second_place v ≡ second)
only_line accepted = (refl, refl)
only_line too_long = (refl, refl)
only_line (bad_form n) = (refl, refl)
only_line (out_of_range n) = (refl, refl)
only_line (twice n) = (refl, refl)
only_line no_site = (refl, refl)
only_line (no_exit l) = (refl, refl)
only_line (stray l) = (refl, refl)
only_line (no_door l) = (refl, refl)
only_line (no_right p l) = (refl, refl)
only_line (shut_out p) = (refl, refl)

-- a sheet that isn't accepted gives the blank record
abbrev Blank : SiteRead → Type 0
Blank x = (site.verdict_no x.verdict ≡ 0 → ⊥) → x.«record» ≡ blank_record

found_blank : (x : Option ℕ) (refusal : ℕ → Verdict) (on : SiteRead) → Blank on → Blank (unless_found x refusal on)
found_blank (Some k) refusal on b some = refl
found_blank None refusal on b some = b some

pair_blank : (x : Option (ℕ × ℕ)) (refusal : ℕ → ℕ → Verdict) (on : SiteRead) → Blank on → Blank (unless_pair x refusal on)
pair_blank (Some (p, l)) refusal on b some = refl
pair_blank None refusal on b some = b some

judged_blank : (d : Draft) → Blank (judged_draft d)
unfolding judged_draft
judged_blank d =
    found_blank (first_no_exit d.locations d.given) NoExit _
    (found_blank (first_stray d.locations d.exit) Stray _
    (found_blank (first_no_door (plan_in d)) NoDoor _
    (pair_blank (first_no_right (plan_in d) d.right) NoRight _
    (found_blank (first_shut_out (plan_in d) d.right) ShutOut (accepted_site d)
    (λ no_way. absurd (no_way refl))))))

settled_blank : (x : Reading) → Blank (settled x)
unfolding settled
settled_blank x some =
    either Blank (sound_fault x.fault) (λ _. either Blank (eqb x.draft.locations 0) (λ _ _. refl) (λ _. judged_blank x.draft)) (λ _ _. refl) some

header_blank : (s : List ℕ) (cut : RowCut) → Blank (after_header s cut)
unfolding after_header
header_blank s (Cut cells next) some = either Blank (site_header_at s cells) (λ _. settled_blank _) (λ _ _. refl) some
header_blank s NoRow some = refl
header_blank s (Broken byte) some = refl

site_blank : (s : List ℕ) → Blank (site_of s)
unfolding site_at
site_blank s some = either Blank (ltb limit (length s)) (λ _ _. refl) (λ _. header_blank s (cut_row s 0)) some

-- which isn't sound: it has no people
blank_unsound : sound_b blank_record ≡ true → ⊥
unfolding sound_b lists_sound lawful_b plan_in_range counts_fit and_also
blank_unsound e = false≢true e

site_tells : (s : List ℕ) → SiteTells s
site_tells s =
    record {
      number = line_of (site_of s).verdict;
      exactly = given_exactly limit s;
      no_record = λ some. let e = site_blank s some in (e, λ t. blank_unsound (rw e at t));
      told_record = λ r. ((λ e. accepted_told _ _ (sym e)), (λ p. rw (p.0, p.1) refl));
      told_refusal = λ f. ((λ e. refused_told _ _ (sym e)), (λ p. rw p (said_refused f _)));
      told_number = verdict_number_told _ _;
    }

rows_are_told : (r : Reading) → RowsAreTold r
rows_are_told r = record { filled = λ x. ((λ e. all_told r (sym e)), told_all r x); stopped = λ x. ((λ e. stop_told r (sym e)), told_stop r x) }

pub of_site : SiteAnswers
of_site = record {
  site_line_of_lem = line_exactly;
  read_rows_lem = λ s from lines says. (rows_taken s from lines says, rows_are_told _);
  read_site = site_tells;
  verdict_number = line_of;
  verdict_place = λ v number place second line. (only_line line).0;
  verdict_second_place = λ v number place second line. (only_line line).1;
  site_refused_number = λ f. line_of (said_of f);
  site_refused_place = λ f number place second line. (only_line line).0;
  site_refused_second_place = λ f number place second line. (only_line line).1;
}
