-- The loop over the rows of a sheet: the answer from here on is the answer from the start.
-- Assumes nothing.
use Prim.Native.Nat.{ℕ, ◌+◌, ◌≤◌}
use native.Mathlib.Omega.{arith}
use mathlib.Core.Path.{◌≡◌, refl, sym, ap, ◌∙◌}
use mathlib.Core.Bool.{false}
use mathlib.Core.List.{List}
use Rattle.std.specs.Prelude.{Result, Ok, Err}
use Rattle.grammar.specs.declared.cut.Cells.{Cells}
use Rattle.grammar.specs.declared.cut.RowCut.{RowCut}
use Rattle.grammar.specs.declared.cut.RowCut.TheVariants.{Cut}
use Rattle.grammar.specs.Cut.{cut_row}
use Rattle.grammar.specs.Rows.{on_row, rows_from}
use Rattle.grammar.proofs.Reading.{cut_there, rows_next}
use Rattle.site_lines.specs.declared.Draft.{Draft}
use Rattle.site_lines.specs.declared.RowFault as told
use Rattle.site_lines.specs.declared.RowFault.TheVariants as told_fault
use Rattle.site_lines.specs.declared.Stop.{Stop}
use Rattle.site_lines.specs.Fault.{Fault, Sound, Form, NoSite, Range, Twice}
use Rattle.site_lines.specs.Lent.{fault_of, taken_with, stop, stopped_told, with_tables, reading_told}
use Rattle.site_lines.specs.Line.{site_line_at}
use Rattle.site_lines.specs.Draft.{Reading, Bounded, counts_of, took, not_taken, take_line}
use Rattle.site_lines.specs.Taking.{sound_fault, lines_in, reading, on_taken, read_lines}
use Rattle.site_lines.proofs.Bounds.{bounded_stays}

-- a row with which something is wrong isn't right,
fault_wrong : (f : told.RowFault) → sound_fault (fault_of f) ≡ false
fault_wrong told_fault.Form = refl
fault_wrong told_fault.NoSite = refl
fault_wrong told_fault.Range = refl
fault_wrong told_fault.Twice = refl

-- and the rows stop there
pub fault_stops : {A : Type 0} (a : A) (f : told.RowFault) (n : ℕ) → stopped_told a (fault_of f) n ≡ Err (stop f n)
fault_stops a told_fault.Form n = refl
fault_stops a told_fault.NoSite n = refl
fault_stops a told_fault.Range n = refl
fault_stops a told_fault.Twice n = refl

-- where rows stop doesn't hang on what is told of them all
pub err_told : {A B : Type 0} (a : A) (b : B) (f : Fault) (n : ℕ) {x : Stop} → stopped_told a f n ≡ Err x → Err x ≡ stopped_told b f n
err_told a b Sound n e = cc
err_told a b Form n e = cc
err_told a b NoSite n e = cc
err_told a b Range n e = cc
err_told a b Twice n e = cc

pub ok_told : {A B : Type 0} (a : A) (b : B) (f : Fault) (n : ℕ) {x : A} → stopped_told a f n ≡ Ok x → Ok b ≡ stopped_told b f n
ok_told a b Sound n e = refl
ok_told a b Form n e = cc
ok_told a b NoSite n e = cc
ok_told a b Range n e = cc
ok_told a b Twice n e = cc

-- the tables that the rows left, and where these ended, are what is told of the reading
pub tables_told : (r : Reading) {d : Draft} {x : Result ℕ Stop} → x ≡ stopped_told r.row r.fault r.row → d ≡ r.draft → with_tables d x ≡ reading_told r
tables_told r ended left = rw (ended, left) refl

-- what is read of the whole sheet behind its header, into the tables `start`
abbrev pub read_all : List ℕ → ℕ → Draft → Reading
read_all s from start = read_lines start 1 (lines_in s (rows_from s from))

pub record ReadSoFar (s : List ℕ) (from : ℕ) (start draft : Draft) (at n : ℕ) : Type 0 where
  pub answer : read_all s from start ≡ read_lines draft n (lines_in s (rows_from s at))
  pub few : n ≤ at + 1
  pub bounded : Bounded (counts_of draft)

pub read_start : {s : List ℕ} {from : ℕ} {start : Draft} → Bounded (counts_of start) → ReadSoFar s from start start from 1
read_start b = record { answer = refl; few = omega arith; bounded = b }

module _ {s : List ℕ} {from at n : ℕ} {start draft : Draft} (so : ReadSoFar s from start draft at n) where
  pub read_turn : {cut : RowCut} → cut_row s at ≡ cut → read_all s from start ≡ read_lines draft n (lines_in s (on_row cut (rows_from s)))
  read_turn {cut} e = so.answer ∙ ap (λ r. read_lines draft n (lines_in s r)) (rows_next s at ∙ ap (λ c. on_row c (rows_from s)) e)

  read_row : {cells : Cells} {next : ℕ} → cut_row s at ≡ Cut cells next
      → read_all s from start ≡ on_taken (take_line draft (site_line_at s cells)) n (read_lines (take_line draft (site_line_at s cells)).draft (n + 1) (lines_in s (rows_from s next)))
  unfolding lines_in read_lines
  read_row e = read_turn e

  -- r is what taking the row told, and `after` the tables behind it
  module _ {cells : Cells} {next : ℕ} {r : Result (Unit {0}) told.RowFault} {after : Draft} (cut : cut_row s at ≡ Cut cells next)
      (gives : taken_with r after ≡ take_line draft (site_line_at s cells)) where
    pub read_stop : {f : told.RowFault} → r ≡ Err f → read_all s from start ≡ reading after (fault_of f) n
    read_stop {f} is =
        let t : not_taken after (fault_of f) ≡ take_line draft (site_line_at s cells) = rw is at gives in
        rw (← t, fault_wrong f) at (read_row cut)

    pub read_more : {done : Unit {0}} → r ≡ Ok done → ReadSoFar s from start after next (n + 1)
    read_more is =
        let w = cut_there s at cut in
        let f = so.few in
        let t : took after ≡ take_line draft (site_line_at s cells) = rw is at gives in
        record {
          answer = rw (← t) at (read_row cut);
          few = omega arith;
          bounded = rw (← t) at (bounded_stays draft so.bounded (site_line_at s cells));
        }

-- the rows that were read stop at one, at the end, or where the sheet can't be cut, whatever is told of them all
pub stop_is : {A : Type 0} (a : A) (f : told.RowFault) {r : Reading} {d : Draft} {n : ℕ} → r ≡ reading d (fault_of f) n → Err (stop f n) ≡ stopped_told a r.fault r.row
stop_is a f {n = n} e = rw e (sym (fault_stops a f n))
