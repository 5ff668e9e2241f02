-- What is said of a sheet is what the rules give, for each number.
-- Assumes nothing.
use Prim.Native.Nat.{ℕ, ◌+◌, ◌≤◌}
use native.Mathlib.Omega.{arith}
use mathlib.Core.Path.{◌≡◌, refl, sym, ap, subst, ◌∙◌}
use mathlib.Core.Bool.{true}
use mathlib.Core.List.{List, []}
use lib.ListN.{length}
use lib.Dec.{ltb, eqb}
use borrow.Author.Tests.{ltb-true, ltb-false, eqb-true, eqb-false}
use Rattle.std.specs.Prelude.{Option, Some, None}
use Rattle.tables.specs.Tests.{first_no_exit, first_stray, first_no_door, first_no_right, first_shut_out}
use Rattle.tables.proofs.Laws.{clash}
use Rattle.tables.proofs.Cases.{either}
use Rattle.grammar.specs.declared.cut.RowCut.{RowCut}
use Rattle.grammar.specs.declared.cut.RowCut.TheVariants.{Cut, NoRow, Broken}
use Rattle.grammar.specs.Cut.{cut_row}
use Rattle.grammar.specs.Rows.{rows_from}
use Rattle.grammar.proofs.Unique.{row_unique, no_row_at}
use Rattle.grammar.proofs.Exact.{cut_is_row, no_row_end, broken_none}
use Rattle.site_lines.specs.declared.SiteLine.{SiteLine}
use Rattle.site_lines.specs.declared.Draft.{Draft}
use Rattle.verdict.specs.Verdict.{Verdict}
use Rattle.site_sheet.specs.Site.{SiteRead}
use Rattle.site_lines.specs.Draft.{Reading}
use Rattle.site_lines.specs.Line.{site_header_at}
use Rattle.site_lines.specs.Draft.{blank_draft, plan_in}
use Rattle.site_lines.specs.Taking.{sound_fault, lines_in}
use Rattle.site_sheet.specs.Site.{refused_site, unless_found, unless_pair, judged_by10, judged_from8, judged_draft, settled, after_header, site_at}
use Rattle.site_lines.specs.Gives.{Headed, RowsFine, Six, Seven, Eight, Nine, Gives, gives_0, gives_1, gives_header, gives_row, gives_5, gives_6, gives_7, gives_8, gives_9, gives_10}
use Rattle.site_lines.proofs.Held.{Held, held_blank}
use Rattle.site_lines.proofs.Obeyed.{Ruled, rules_of}
use Rattle.site_lines.proofs.Outcome.{fine, nothing_before, some_before}
use Rattle.site_lines.proofs.Rows.{header_from, header_same, header_is, is_header_row}
use Rattle.site_lines.proofs.Text.{lines_said}
use Rattle.site_lines.proofs.Outcomes.{ReadOf, all, stopped, read_of}

-- ---- the rules of the whole sheet

abbrev Given : ℕ → List ℕ → SiteRead → Type 0
Given most s x = Gives most s x.verdict

-- a refusal where a search finds something, and what holds of both
unless : (P : SiteRead → Type 0) (x : Option ℕ) {refusal : ℕ → Verdict} {on : SiteRead} → ((k : ℕ) → x ≡ Some k → P (refused_site (refusal k)))
    → (x ≡ None → P on) → P (unless_found x refusal on)
unless P (Some k) f g = f k refl
unless P None f g = g refl

unless_pair_lem : (P : SiteRead → Type 0) (x : Option (ℕ × ℕ)) {refusal : ℕ → ℕ → Verdict} {on : SiteRead} → ((p l : ℕ) → x ≡ Some (p, l) → P (refused_site (refusal p l)))
    → (x ≡ None → P on) → P (unless_pair x refusal on)
unless_pair_lem P (Some (p, l)) f g = f p l refl
unless_pair_lem P None f g = g refl

module _ (most : ℕ) (s : List ℕ) (lines : List SiteLine) (d : Draft) (t : RowsFine most s lines) (h : Held lines d) where
  ruled : Ruled lines d
  ruled = rules_of t h

  ten : Six lines → Seven lines → Eight lines → Nine lines → Given most s (judged_by10 d)
  ten a b c e =
      unless (Given most s) (first_shut_out (plan_in d) d.right) (λ k q. gives_10 t a b c e (ruled.ten.at_yes k q))
      (λ q. gives_0 (record { lines = lines; rows = t; six = a; seven = b; eight = c; nine = e; ten = ruled.ten.none_yes q }))

  eight : Six lines → Seven lines → Given most s (judged_from8 d)
  eight a b =
      unless (Given most s) (first_no_door (plan_in d)) (λ k q. gives_8 t a b ((ruled.eight a).at_yes k q))
      (λ n. let c = (ruled.eight a).none_yes n in
      unless_pair_lem (Given most s) (first_no_right (plan_in d) d.right) (λ p l q. gives_9 t a b c ((ruled.nine a).at_yes p l q))
      (λ q. ten a b c ((ruled.nine a).none_yes q)))

  judged_gives : Given most s (judged_draft d)
  unfolding judged_draft
  judged_gives =
      unless (Given most s) (first_no_exit d.locations d.given) (λ k q. gives_6 t (ruled.six.at_yes k q))
      (λ n. let a = ruled.six.none_yes n in
      unless (Given most s) (first_stray d.locations d.exit) (λ k q. gives_7 t a ((ruled.seven a).at_yes k q))
      (λ q. eight a ((ruled.seven a).none_yes q)))

-- ---- the whole sheet

settled_gives : (most : ℕ) (s : List ℕ) (lines : List SiteLine) (r : Reading) → Headed most s lines → ReadOf [] lines 1 blank_draft r → Given most s (settled r)
unfolding settled
settled_gives most s lines r h (all a f k) =
    let d : Draft = r.draft in
    let q : sound_fault r.fault ≡ true = rw f in
    rw q
    (either (Given most s) (eqb d.locations 0)
    (λ z. let n = nothing_before lines d k (eqb-true d.locations 0 z) in gives_5 (subst (Headed most s) n h))
    (λ z. let n = some_before lines d k (eqb-false d.locations 0 z) in
    judged_gives most s lines d (record { headed = h; some = n; fine = a }) k))
settled_gives most s lines r h (stopped k f w e n q) =
    let m : 1 + k ≡ k + 1 = omega arith in
    rw (e, q, n, m) (gives_row h w refl)

module _ (most : ℕ) (s : List ℕ) (short : length s ≤ most) where
  after_gives : (cut : RowCut) → cut_row s 0 ≡ cut → Given most s (after_header s cut)
  unfolding after_header
  after_gives (Cut cells next) e =
      let c = cut_is_row s 0 e in
      let same = header_same s c.row c.holds in
      either (Given most s) (site_header_at s cells)
      (λ y.
      let h : Headed most s (lines_in s (rows_from s next)) =
      record { short = short; header = c.row; rest = c.rest; at = c.there; is = header_is c.row (sym same ∙ y); says = rw c.behind at (lines_said s next) } in
      settled_gives most s (lines_in s (rows_from s next)) _ h (read_of (lines_in s (rows_from s next)) [] 1 blank_draft held_blank))
      (λ n. gives_header short (λ r rest a i. clash (is_header_row r i) (ap header_from (row_unique a c.there refl).first ∙ sym same ∙ n)))
  after_gives NoRow e = gives_header short (λ r rest a i. no_row_at a (sym (no_row_end s 0 e)))
  after_gives (Broken byte) e = gives_header short (λ r rest a i. broken_none s 0 e r rest a)

-- what is said of a sheet is what the rules give
pub site_gives : (most : ℕ) (s : List ℕ) → Gives most s (site_at most s).verdict
unfolding site_at
site_gives most s =
    either (Given most s) (ltb most (length s)) (λ e. gives_1 (ltb-true most (length s) e))
    (λ e. after_gives most s (ltb-false most (length s) e) (cut_row s 0) refl)
