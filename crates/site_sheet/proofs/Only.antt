-- What the rules give of a sheet is what is said of it: no sheet has two answers.
-- Assumes nothing.
use Prim.Native.Nat.{ℕ, ◌+◌, ◌-◌}
use native.Mathlib.Omega.{arith}
use mathlib.Core.Path.{◌≡◌, refl, sym, ap, ◌∙◌}
use mathlib.Core.Bool.{true}
use mathlib.Core.List.{List, []}
use lib.ListN.{length}
use borrow.Author.Tests.{lt-ltb, le-ltb, ne_eqb}
use Rattle.std.specs.Prelude.{None}
use Rattle.tables.specs.Below.{Smallest, SmallestPair}
use Rattle.tables.specs.Tests.{first_stray, first_no_door, first_no_right}
use Rattle.tables.proofs.Cases.{either}
use Rattle.grammar.specs.declared.cut.RowCut.{RowCut}
use Rattle.grammar.specs.declared.cut.RowCut.TheVariants.{Cut, NoRow, Broken}
use Rattle.grammar.specs.Cut.{no_cells, cut_row}
use Rattle.grammar.specs.Where.{cells_of}
use Rattle.grammar.specs.Rows.{rows_from}
use Rattle.grammar.specs.Grammar.{Row, RowAt}
use Rattle.grammar.proofs.Unique.{row_unique}
use Rattle.grammar.proofs.Exact.{row_is_cut, cut_is_row}
use Rattle.site_lines.specs.declared.SiteLine.{SiteLine}
use Rattle.site_lines.specs.declared.SiteLine.TheVariants.{Site, Door, Exit, Right, Bad}
use Rattle.site_lines.specs.declared.Draft.{Draft}
use Rattle.site_lines.specs.Fault.{Fault}
use Rattle.verdict.specs.Verdict.{Verdict}
use Rattle.verdict.specs.Verdict.{Accepted, BadRow, NoExit, Stray, NoDoor, NoRight, ShutOut}
use Rattle.site_sheet.specs.Site.{SiteRead}
use Rattle.site_lines.specs.Line.{site_header_at}
use Rattle.site_lines.specs.Draft.{blank_draft, plan_in}
use Rattle.site_lines.specs.Taking.{verdict_of, lines_in, read_lines}
use Rattle.site_sheet.specs.Site.{accepted_site, judged_draft, settled, after_header, site_at}
use Rattle.site_lines.specs.Says.{people_in, locations_in, SiteHeaderRow, LineInRange, site_range, door_range, exit_range, right_range, NotFirst, door_first, exit_first, right_first, Fine, Wrong, of_form, no_site, out_of_range, said_again}
use Rattle.site_lines.specs.Gives.{Headed, FineLines, all_fine, one_fine, WrongAt, here, further, RowsFine, ExitOf, ComesOut, ExitHasDoor, RightToExit, ComesIn, Six, Seven, Eight, Nine, Ten, Obeys, Gives, gives_0, gives_1, gives_header, gives_row, gives_5, gives_6, gives_7, gives_8, gives_9, gives_10}
use Rattle.site_lines.proofs.Held.{Held, held_blank}
use Rattle.site_lines.proofs.Obeyed.{Ruled, rules_of}
use Rattle.site_lines.proofs.Outcome.{fine}
use Rattle.site_lines.proofs.Rows.{header_from, header_same, header_is, is_header_row}
use Rattle.site_lines.proofs.Text.{lines_said, lines_unique}
use Rattle.site_lines.proofs.Outcomes.{ReadOf, all, stopped, read_of}

-- ---- one thing is wrong with a line, or nothing

abbrev Good : SiteLine → Type 0
Good (Site p l) = Unit {0}
Good (Door o t) = Unit {0}
Good (Exit l m) = Unit {0}
Good (Right p l) = Unit {0}
Good Bad = ⊥

range_good : {before : List SiteLine} {line : SiteLine} → LineInRange before line → Good line
range_good (site_range a b c d) = tt
range_good (door_range a b c d) = tt
range_good (exit_range a b c) = tt
range_good (right_range a b c) = tt

first_good : {line : SiteLine} → NotFirst line → Good line
first_good door_first = tt
first_good exit_first = tt
first_good right_first = tt

wrong_unique : {before : List SiteLine} {line : SiteLine} {f g : Fault} → Wrong before line f → Wrong before line g → f ≡ g
wrong_unique of_form of_form = refl
wrong_unique of_form (no_site e n) = absurd (first_good n)
wrong_unique of_form (out_of_range n s r) = absurd (n refl)
wrong_unique of_form (said_again s r a) = absurd (range_good r)
wrong_unique (no_site e n) of_form = absurd (first_good n)
wrong_unique (no_site e n) (no_site e' n') = refl
wrong_unique (no_site e n) (out_of_range m s r) = absurd (s e n)
wrong_unique (no_site e n) (said_again s r a) = absurd (s e n)
wrong_unique (out_of_range n s r) of_form = absurd (n refl)
wrong_unique (out_of_range n s r) (no_site e m) = absurd (s e m)
wrong_unique (out_of_range n s r) (out_of_range n' s' r') = refl
wrong_unique (out_of_range n s r) (said_again s' r' a) = absurd (r r')
wrong_unique (said_again s r a) of_form = absurd (range_good r)
wrong_unique (said_again s r a) (no_site e n) = absurd (s e n)
wrong_unique (said_again s r a) (out_of_range n s' r') = absurd (r' r)
wrong_unique (said_again s r a) (said_again s' r' a') = refl

fine_not_wrong : {before : List SiteLine} {line : SiteLine} {f : Fault} → Fine before line → Wrong before line f → ⊥
fine_not_wrong x of_form = range_good x.in_range
fine_not_wrong x (no_site e n) = x.started e n
fine_not_wrong x (out_of_range n s r) = r x.in_range
fine_not_wrong x (said_again s r a) = x.new a

-- ---- and so one row is the first with which something is wrong, or none

record OneFault (k j : ℕ) (f g : Fault) : Type 0 where
  place : k ≡ j
  fault : f ≡ g

wrong_once : {before lines : List SiteLine} {k j : ℕ} {f g : Fault} → WrongAt before lines k f → WrongAt before lines j g → OneFault k j f g
wrong_once (here w) (here v) = record { place = refl; fault = wrong_unique w v }
wrong_once (here w) (further x v) = absurd (fine_not_wrong x w)
wrong_once (further x w) (here v) = absurd (fine_not_wrong x v)
wrong_once (further x w) (further y v) = let o = wrong_once w v in record { place = ap (λ (n : ℕ). n + 1) o.place; fault = o.fault }

all_not_wrong : {before lines : List SiteLine} {k : ℕ} {f : Fault} → FineLines before lines → WrongAt before lines k f → ⊥
all_not_wrong {k = k} {f = f} (all_fine {before = before}) w = elim w [ ]
all_not_wrong (one_fine x a) (here w) = fine_not_wrong x w
all_not_wrong (one_fine x a) (further y w) = all_not_wrong a w

-- ---- the whole sheet

-- the tables into which lines are read
abbrev pub tables_of : List SiteLine → Draft
tables_of lines = (read_lines blank_draft 1 lines).draft

module _ (most : ℕ) (s : List ℕ) where
  pub headed_reads : {lines : List SiteLine} → Headed most s lines → site_at most s ≡ settled (read_lines blank_draft 1 lines)
  unfolding site_at after_header
  headed_reads {lines} h =
      let e = row_is_cut s 0 h.at in
      let c = cut_is_row s 0 e in
      let q : site_header_at s (cells_of no_cells 0 h.header) ≡ true = header_same s c.row c.holds ∙ ap header_from (row_unique c.there h.at refl).first ∙ is_header_row h.header h.is in
      let l : lines_in s (rows_from s (length s - length h.rest)) ≡ lines = lines_unique (lines_said s (length s - length h.rest)) h.says (c.behind ∙ (row_unique c.there h.at refl).behind) in
      rw (le-ltb most (length s) h.short, e, q, l)

  row_given : {lines : List SiteLine} {k : ℕ} {f : Fault} → ReadOf [] lines 1 blank_draft (read_lines blank_draft 1 lines) → WrongAt [] lines k f
      → (settled (read_lines blank_draft 1 lines)).verdict ≡ verdict_of f (k + 1)
  unfolding settled
  row_given (all a e h) w = absurd (all_not_wrong a w)
  row_given {k = k} {f = f} (stopped j g v e n q) w =
      let o = wrong_once v w in
      let m : 1 + j ≡ k + 1 = let p = o.place in omega arith in
      rw (e, q, n, m, o.fault)

  fine_given : {lines : List SiteLine} → RowsFine most s lines → site_at most s ≡ judged_draft (tables_of lines)
  unfolding settled
  fine_given {lines} t = headed_reads t.headed ∙ go (read_of lines [] 1 blank_draft held_blank)
    where
      go : ReadOf [] lines 1 blank_draft (read_lines blank_draft 1 lines) → settled (read_lines blank_draft 1 lines) ≡ judged_draft (tables_of lines)
      go (all a e h) =
          let b = h.begun t.some in
          let z : (tables_of lines).locations ≡ 0 → ⊥ = λ y. omega arith in
          rw (e, ne_eqb _ 0 z)
      go (stopped k f w e n q) = absurd (all_not_wrong t.fine w)

  header_given : (cut : RowCut) → cut_row s 0 ≡ cut → ((r : Row) (rest : List ℕ) → RowAt s r rest → SiteHeaderRow r → ⊥) → (after_header s cut).verdict ≡ BadRow 0
  unfolding after_header
  header_given (Cut cells next) e n =
      let c = cut_is_row s 0 e in
      either (λ (x : SiteRead). x.verdict ≡ BadRow 0) (site_header_at s cells)
      (λ y. absurd (n c.row c.rest c.there (header_is c.row (sym (header_same s c.row c.holds) ∙ y)))) (λ y. refl)
  header_given NoRow e n = refl
  header_given (Broken byte) e n = refl

-- what is found first in tables whose searches answer by the lines
module _ {lines : List SiteLine} {d : Draft} (r : Ruled lines d) where
  given_6 : {k : ℕ} → Smallest (ExitOf lines) (locations_in lines) k → (judged_draft d).verdict ≡ NoExit k
  unfolding judged_draft
  given_6 {k} m = rw (r.six.at_back k m)

  module _ (six : Six lines) where
    given_7 : {k : ℕ} → Smallest (ComesOut lines) (locations_in lines) k → (judged_draft d).verdict ≡ Stray k
    unfolding judged_draft
    given_7 {k} m = rw (r.six.none_back six, (r.seven six).at_back k m)

    module _ (seven : Seven lines) where
      e₇ : first_stray d.locations d.exit ≡ None
      e₇ = (r.seven six).none_back seven

      given_8 : {k : ℕ} → Smallest (ExitHasDoor lines) (locations_in lines) k → (judged_draft d).verdict ≡ NoDoor k
      unfolding judged_draft
      given_8 {k} m = rw (r.six.none_back six, e₇, (r.eight six).at_back k m)

      module _ (eight : Eight lines) where
        e₈ : first_no_door (plan_in d) ≡ None
        e₈ = (r.eight six).none_back eight

        given_9 : {p l : ℕ} → SmallestPair (RightToExit lines) (people_in lines) (locations_in lines) p l → (judged_draft d).verdict ≡ NoRight p l
        unfolding judged_draft
        given_9 {p} {l} m = rw (r.six.none_back six, e₇, e₈, (r.nine six).at_back p l m)

        module _ (nine : Nine lines) where
          e₉ : first_no_right (plan_in d) d.right ≡ None
          e₉ = (r.nine six).none_back nine

          given_10 : {k : ℕ} → Smallest (ComesIn lines) (people_in lines) k → (judged_draft d).verdict ≡ ShutOut k
          unfolding judged_draft
          given_10 {k} m = rw (r.six.none_back six, e₇, e₈, e₉, r.ten.at_back k m)

          given_0 : Ten lines → judged_draft d ≡ accepted_site d
          unfolding judged_draft
          given_0 ten = rw (r.six.none_back six, e₇, e₈, e₉, r.ten.none_back ten)

-- the tables of a sheet whose rows are right hold what its lines say, and pass 3
pub fine_held : {most : ℕ} {s : List ℕ} {lines : List SiteLine} → RowsFine most s lines → Held lines (tables_of lines)
fine_held {lines = lines} t = go (read_of lines [] 1 blank_draft held_blank)
  where
    go : ReadOf [] lines 1 blank_draft (read_lines blank_draft 1 lines) → Held lines (tables_of lines)
    go (all a e h) = h
    go (stopped k f w e n q) = absurd (all_not_wrong t.fine w)

fine_ruled : {most : ℕ} {s : List ℕ} {lines : List SiteLine} → RowsFine most s lines → Ruled lines (tables_of lines)
fine_ruled t = rules_of t (fine_held t)

fine_says : {most : ℕ} {s : List ℕ} {lines : List SiteLine} {v : Verdict} → RowsFine most s lines → (judged_draft (tables_of lines)).verdict ≡ v → (site_at most s).verdict ≡ v
fine_says {most} {s} t e = ap (λ x. x.verdict) (fine_given most s t) ∙ e

-- the record of an accepted sheet
pub accepted_record : {most : ℕ} {s : List ℕ} (o : Obeys most s) → site_at most s ≡ accepted_site (tables_of o.lines)
accepted_record {most} {s} o = fine_given most s o.rows ∙ given_0 (fine_ruled o.rows) o.six o.seven o.eight o.nine o.ten

-- what the rules give is what is said
pub gives_site : {most : ℕ} {s : List ℕ} {v : Verdict} → Gives most s v → (site_at most s).verdict ≡ v
unfolding site_at settled read_lines
gives_site (gives_0 o) = ap (λ x. x.verdict) (accepted_record o)
gives_site {most} {s} (gives_1 l) = rw (lt-ltb most (length s) l)
gives_site {most} {s} (gives_header short n) = rw (le-ltb most (length s) short) (header_given most s (cut_row s 0) refl n)
gives_site {most} {s} (gives_row {lines = lines} h w e) = ap (λ x. x.verdict) (headed_reads most s h) ∙ row_given most s (read_of lines [] 1 blank_draft held_blank) w ∙ sym e
gives_site {most} {s} (gives_5 h) = ap (λ x. x.verdict) (headed_reads most s h)
gives_site (gives_6 t m) = fine_says t (given_6 (fine_ruled t) m)
gives_site (gives_7 t a m) = fine_says t (given_7 (fine_ruled t) a m)
gives_site (gives_8 t a b m) = fine_says t (given_8 (fine_ruled t) a b m)
gives_site (gives_9 t a b c m) = fine_says t (given_9 (fine_ruled t) a b c m)
gives_site (gives_10 t a b c e m) = fine_says t (given_10 (fine_ruled t) a b c e m)

wrong_refuses : (n : ℕ) {before lines : List SiteLine} {k : ℕ} {f : Fault} → WrongAt before lines k f → Accepted ≡ verdict_of f n → ⊥
wrong_refuses n (here of_form) e = let z : ◌≡◌ {A = ℕ} 0 1 = cc in omega arith
wrong_refuses n (here (no_site q m)) e = let z : ◌≡◌ {A = ℕ} 0 1 = cc in omega arith
wrong_refuses n (here (out_of_range m s r)) e = let z : ◌≡◌ {A = ℕ} 0 1 = cc in omega arith
wrong_refuses n (here (said_again s r a)) e = let z : ◌≡◌ {A = ℕ} 0 1 = cc in omega arith
wrong_refuses n (further x w) e = wrong_refuses n w e

-- only an obeying sheet is accepted
pub accepted_obeys : {most : ℕ} {s : List ℕ} → Gives most s Accepted → Obeys most s
accepted_obeys (gives_0 o) = o
accepted_obeys (gives_row h w e) = absurd (wrong_refuses _ w e)
