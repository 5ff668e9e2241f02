-- The theorems of a site sheet: what is said of it, and what the record of an accepted one holds.
-- Assumes nothing.
use Prim.Native.Nat.{ℕ, ◌≤◌}
use mathlib.Core.Path.{◌≡◌, sym, ap, subst, ◌∙◌}
use native.Mathlib.Omega.{arith}
use mathlib.Core.Logic.{◌↔◌}
use mathlib.Core.List.{List, map}
use lib.ListN.{length}
use Rattle.tables.specs.Tables.{most_people}
use Rattle.tables.specs.Rules.{Lawful}
use Rattle.record.specs.Sound.{Sound}
use Rattle.record.specs.Doors.{Shaped}
use Rattle.record.specs.declared.record.Record.{Record}
use Rattle.tables.proofs.Zero.{zeros_long}
use Rattle.record.proofs.Fresh.{fresh_sound, fresh_shaped}
use Rattle.verdict.specs.Verdict.{Verdict}
use Rattle.verdict.specs.Verdict.{Accepted}
use Rattle.grammar.specs.Grammar.{Row, Sheet}
use Rattle.site_lines.specs.Draft.{plan_in}
use Rattle.site_sheet.specs.Site.{site_at}
use Rattle.site_lines.specs.Says.{contents}
use Rattle.site_lines.specs.Gives.{Obeys, Gives, gives_0}
use Rattle.site_sheet.specs.Accepted.{AcceptedRecord}
use Rattle.site_sheet.proofs.GivenBack.{site_gives}
use Rattle.site_sheet.proofs.Same.{same_answer}
use Rattle.site_sheet.proofs.Only.{gives_site, accepted_obeys, accepted_record, tables_of, fine_held}
use Rattle.site_lines.proofs.Obeyed.{lawful_as}

-- Each number is given, with its place, exactly when its line of the table says so.
pub given_exactly : (most : ℕ) (s : List ℕ) (v : Verdict) → ((site_at most s).verdict ≡ v) ↔ Gives most s v
given_exactly most s v = ((λ e. subst (Gives most s) e (site_gives most s)), (λ g. gives_site g))

-- A sheet is accepted if and only if it obeys the written rules.
pub accepted_exactly : (most : ℕ) (s : List ℕ) → ((site_at most s).verdict ≡ Accepted) ↔ Obeys most s
accepted_exactly most s = ((λ e. accepted_obeys (subst (Gives most s) e (site_gives most s))), (λ o. gives_site (gives_0 o)))

obeys_lawful : {most : ℕ} {s : List ℕ} (o : Obeys most s) → Lawful most_people (plan_in (tables_of o.lines)) (tables_of o.lines).right
obeys_lawful o =
    let h = fine_held o.rows in
    let r = h.ranged o.rows.some in
    lawful_as o.lines (tables_of o.lines) o.rows.fine h.holds r o.six o.seven o.eight o.nine o.ten

-- The record of an accepted sheet holds exactly what its rows say; it is fresh, and it is sound.
pub accepted_holds : (most : ℕ) (s : List ℕ) → (site_at most s).verdict ≡ Accepted → AcceptedRecord most s
accepted_holds most s e =
    let o = (accepted_exactly most s).0 e in
    let h = fine_held o.rows in
    record {
      lines = o.lines;
      headed = o.rows.headed;
      tables = tables_of o.lines;
      holds = h.holds;
      fresh = ap (λ x. x.«record») (accepted_record o);
      sound = subst Sound (sym (ap (λ x. x.«record») (accepted_record o))) (fresh_sound _ _ (obeys_lawful o) h.zero);
      shaped = subst Shaped (sym (ap (λ x. x.«record») (accepted_record o))) (fresh_shaped _ _ h.shape.origins h.shape.destinations h.shape.exits);
    }

-- And its people are no more than a site may have.
pub accepted_people : {most : ℕ} {s : List ℕ} → AcceptedRecord most s → (site_at most s).«record».people ≤ most_people
accepted_people a =
    let room = ap (λ (r : Record). length r.place) a.fresh ∙ zeros_long most_people in
    let people = a.sound.tables.in_range.people_to in
    omega arith

-- Two sheets with the same rows, quoted or not, with the last CRLF or not, have the same answer.
pub same_rows_same_answer : {most : ℕ} {s t : List ℕ} {rs ss : List Row} → length s ≤ most → length t ≤ most → Sheet s rs → Sheet t ss
    → map contents rs ≡ map contents ss → site_at most s ≡ site_at most t
same_rows_same_answer a b x y e = same_answer a b x y e
