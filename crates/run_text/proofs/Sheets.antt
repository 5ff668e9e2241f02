-- The two texts by what the two sheets are: a refused site, a long or wrongly headed steps sheet, a run. Assumes nothing.
use Prim.Native.Nat.{ℕ, ◌≤◌}
use mathlib.Core.Path.{◌≡◌, refl, sym, ap, ◌∙◌, subst}
use mathlib.Core.Bool.{true}
use mathlib.Core.List.{List, []}
use native.Mathlib.Omega.{arith}
use borrow.Author.Tests.{ne_eqb}
use Rattle.tables.specs.Tables.{Plan, most_people}
use Rattle.record.specs.Run.{last_of}
use Rattle.phases.specs.declared.table.StepRow.{StepRow}
use Rattle.record.specs.SoundTest.{sound_b}
use Rattle.record.proofs.Tells.{sound_tells}
use Rattle.record.proofs.Laws.{run_plan}
use Rattle.site_sheet.specs.Site.{SiteRead, site_told}
use Rattle.verdict.specs.Verdict.{Verdict}
use Rattle.verdict.specs.Verdict.{Accepted, TooLong, BadRow, OutOfRange, Twice, NoSite, NoExit, Stray, NoDoor, NoRight, ShutOut}
use Rattle.site_sheet.specs.Site.{site_of, verdict_no}
use Rattle.grammar.specs.Sizes.{limit}
use Rattle.site_sheet.specs.Accepted.{AcceptedRecord}
use Rattle.site_sheet.proofs.Theorems.{accepted_holds, accepted_people}
use Rattle.steps_sheet.specs.Heading.{Heading, heading_told, unheaded_no}
use Rattle.steps_sheet.specs.Heading as heading
use Rattle.steps_sheet.specs.Steps.{heading_of}
use Rattle.run_text.specs.Printed.{alone_text, steps_text, panel_text, record_text, last_record, places_text, where_text}
use Rattle.std.specs.Prelude.{Ok, Err}
use Rattle.verdict.specs.declared.SiteRefused.{SiteRefused}
use Rattle.verdict.specs.Numbers.{verdict_no, site_refused_no}
use Rattle.verdict.proofs.Told.{accepted_told, refused_told, refused_not_done}
use Rattle.record.specs.declared.record.Record.{Record}
use Rattle.steps_sheet.specs.declared.Unheaded.{Unheaded}
use Rattle.steps_sheet.specs.declared.Unheaded.TheVariants as told

-- only an accepted sheet has the number 0
pub zero_accepted : (v : Verdict) → verdict_no v ≡ 0 → v ≡ Accepted
zero_accepted Accepted e = refl
zero_accepted TooLong e = absurd (omega arith)
zero_accepted (BadRow n) e = absurd (omega arith)
zero_accepted (OutOfRange n) e = absurd (omega arith)
zero_accepted (Twice n) e = absurd (omega arith)
zero_accepted NoSite e = absurd (omega arith)
zero_accepted (NoExit l) e = absurd (omega arith)
zero_accepted (Stray l) e = absurd (omega arith)
zero_accepted (NoDoor l) e = absurd (omega arith)
zero_accepted (NoRight p l) e = absurd (omega arith)
zero_accepted (ShutOut p) e = absurd (omega arith)

module _ (site steps : List ℕ) {read : SiteRead} {n : ℕ} (is : read ≡ site_of site) (number : n ≡ verdict_no read.verdict) where
  number_is : verdict_no (site_of site).verdict ≡ n
  number_is = ap (λ (x : SiteRead). verdict_no x.verdict) (sym is) ∙ sym number

  pub panel_refused : (n ≡ 0 → ⊥) → alone_text n ≡ panel_text site steps
  unfolding panel_text
  panel_refused other = rw (number_is, ne_eqb _ _ other)

  pub where_refused : (n ≡ 0 → ⊥) → places_text [] ≡ where_text site steps
  unfolding where_text
  where_refused other = rw (number_is, ne_eqb _ _ other)

  module _ (zero : n ≡ 0) where
    accepted : AcceptedRecord limit site
    accepted = accepted_holds limit site (zero_accepted (site_of site).verdict (number_is ∙ zero))

    pub accepted_fresh_sound : sound_b read.«record» ≡ true
    accepted_fresh_sound = rw is ((sound_tells (site_of site).«record» accepted.shaped).back accepted.sound)

    fresh_people : read.«record».people ≤ most_people
    fresh_people = rw is (accepted_people accepted)

    last_people : (rows : List StepRow) → (last_of read.«record» rows).people ≤ most_people
    last_people rows = rw (ap (λ (plan : Plan). plan.people) (run_plan read.«record» rows)) fresh_people

    pub last_few : (h : Heading) → (last_record read.«record» steps h).people ≤ most_people
    last_few heading.TooLong = fresh_people
    last_few heading.Wrong = fresh_people
    last_few (heading.Rows from) = last_people _

    pub panel_is : {h : Heading} → heading_of steps ≡ h → steps_text read.«record» steps h ≡ panel_text site steps
    unfolding panel_text
    panel_is e = rw (number_is, zero, e, is)

    pub where_is : {h : Heading} → heading_of steps ≡ h → record_text (last_record read.«record» steps h) ≡ where_text site steps
    unfolding where_text
    where_is e = rw (number_is, zero, e, is)

-- ---- the same by what is handed out of a site sheet: the fresh record,
module _ (site steps : List ℕ) {fresh : Record} (handed : Ok fresh ≡ site_told (site_of site)) where
  accepted_with : ((site_of site).verdict ≡ Accepted) × ((site_of site).«record» ≡ fresh)
  accepted_with = accepted_told _ _ handed

  zero_told : verdict_no (site_of site).verdict ≡ 0
  zero_told = ap verdict_no accepted_with.0

  pub handed_sound : sound_b fresh ≡ true
  handed_sound = subst (λ (r : Record). sound_b r ≡ true) accepted_with.1 (accepted_fresh_sound site steps refl refl zero_told)

  pub fresh_few : (h : Heading) → (last_record fresh steps h).people ≤ most_people
  fresh_few h = subst (λ (r : Record). (last_record r steps h).people ≤ most_people) accepted_with.1 (last_few site steps refl refl zero_told h)

  pub panel_told : {h : Heading} → heading_of steps ≡ h → steps_text fresh steps h ≡ panel_text site steps
  panel_told {h} e = subst (λ (r : Record). steps_text r steps h ≡ panel_text site steps) accepted_with.1 (panel_is site steps refl refl zero_told e)

  pub where_told : {h : Heading} → heading_of steps ≡ h → record_text (last_record fresh steps h) ≡ where_text site steps
  where_told {h} e = subst (λ (r : Record). record_text (last_record r steps h) ≡ where_text site steps) accepted_with.1 (where_is site steps refl refl zero_told e)

-- or the refusal
module _ (site steps : List ℕ) {refusal : SiteRefused} (handed : Err refusal ≡ site_told (site_of site)) where
  number_told : site_refused_no refusal ≡ verdict_no (site_of site).verdict
  number_told = ap verdict_no (sym (refused_told _ _ handed))

  pub panel_refusal : alone_text (site_refused_no refusal) ≡ panel_text site steps
  panel_refusal = panel_refused site steps refl number_told (refused_not_done refusal)

  pub where_refusal : places_text [] ≡ where_text site steps
  where_refusal = where_refused site steps refl number_told (refused_not_done refusal)

-- a steps sheet whose rows aren't run: the number alone, and the record as it was
pub unheaded_text : (r : Record) (steps : List ℕ) (h : Heading) {unheaded : Unheaded} → Err unheaded ≡ heading_told h
    → alone_text (unheaded_no unheaded) ≡ steps_text r steps h
unheaded_text r steps heading.TooLong {unheaded} e = let q : unheaded ≡ told.TooLong = cc in rw q
unheaded_text r steps heading.Wrong {unheaded} e = let q : unheaded ≡ told.Wrong = cc in rw q
unheaded_text r steps (heading.Rows from) e = absurd (cc)

pub unheaded_record : (r : Record) (steps : List ℕ) (h : Heading) {unheaded : Unheaded} → Err unheaded ≡ heading_told h → r ≡ last_record r steps h
unheaded_record r steps heading.TooLong e = refl
unheaded_record r steps heading.Wrong e = refl
unheaded_record r steps (heading.Rows from) e = absurd (cc)
