-- Two sheets with the same rows have the same answer: the answer goes by the fields' contents.
-- Assumes nothing.
use Prim.Native.Nat.{ℕ, suc, ◌≤◌}
use native.Mathlib.Omega.{arith}
use mathlib.Core.Path.{◌≡◌, refl, sym, ap, ◌∙◌}
use mathlib.Core.Bool.{Bool, true, false}
use mathlib.Core.List.{List, [], ◌∷◌, map}
use lib.ListN.{length, get_or, get_or-map}
use borrow.Author.Tests.{le-ltb}
use Rattle.grammar.specs.Cut.{no_cells}
use Rattle.grammar.specs.Where.{cells_of, field_of}
use Rattle.grammar.specs.Grammar.{Row, RowAt, bare, content, fields, Sheet, no_row, row}
use Rattle.grammar.proofs.Unique.{row_unique}
use Rattle.grammar.proofs.Exact.{row_is_cut, cut_is_row}
use Rattle.verdict.specs.Verdict.{BadRow}
use Rattle.site_lines.specs.Line.{site_header_at}
use Rattle.site_sheet.specs.Site.{refused_site, after_header, site_at}
use Rattle.site_lines.specs.Says.{contents, TextSaysLines, nothing, a_row}
use Rattle.site_lines.proofs.Rows.{line_from, header_from, header_same, header_is, says_from}
use Rattle.site_sheet.proofs.Only.{headed_reads}

map_length : {A B : Type 0} (f : A → B) (l : List A) → length (map f l) ≡ length l
map_length f [] = refl
map_length f (x ∷ l) = ap suc (map_length f l)

-- the parts of a row that decide what it says
module _ (r q : Row) (e : contents r ≡ contents q) where
  lengths : length (fields r) ≡ length (fields q)
  lengths = sym (map_length content (fields r)) ∙ ap length e ∙ map_length content (fields q)

  field_same : (k : ℕ) → content (field_of k r) ≡ content (field_of k q)
  field_same k = sym (get_or-map content (fields r) k (bare [])) ∙ ap (λ (l : List (List ℕ)). get_or l k []) e ∙ get_or-map content (fields q) k (bare [])

  lines_same : line_from r ≡ line_from q
  unfolding line_from
  lines_same = rw (lengths, field_same 0, field_same 1, field_same 2)

  headers_same : header_from r ≡ header_from q
  unfolding header_from
  headers_same = rw (lengths, field_same 0, field_same 1, field_same 2)

all_same : (rs ss : List Row) → map contents rs ≡ map contents ss → map line_from rs ≡ map line_from ss
all_same [] [] e = refl
all_same [] (q ∷ ss) e = let z = ap length e in absurd (omega arith)
all_same (r ∷ rs) [] e = let z = ap length e in absurd (omega arith)
all_same (r ∷ rs) (q ∷ ss) e =
    let e' : contents r ∷ map contents rs ≡ contents q ∷ map contents ss = e in
    let h : contents r ≡ contents q = cc in
    let t : map contents rs ≡ map contents ss = cc in
    rw (lines_same r q h, all_same rs ss t)

sheet_says : {text : List ℕ} {rs : List Row} → Sheet text rs → TextSaysLines text (map line_from rs)
sheet_says no_row = nothing
sheet_says (row {r = r} a h) = a_row a (says_from r) (sheet_says h)

-- a sheet whose first row is no header
bad_header : (most : ℕ) (s : List ℕ) {r : Row} {rest : List ℕ} → length s ≤ most → RowAt s r rest → header_from r ≡ false → site_at most s ≡ refused_site (BadRow 0)
unfolding site_at after_header
bad_header most s {r} short a n =
    let e = row_is_cut s 0 a in
    let c = cut_is_row s 0 e in
    let q : site_header_at s (cells_of no_cells 0 r) ≡ false = header_same s c.row c.holds ∙ ap header_from (row_unique c.there a refl).first ∙ n in
    rw (le-ltb most (length s) short, e, q)

module _ {most : ℕ} {s t : List ℕ} {r q : Row} {rest last : List ℕ} {rs ss : List Row} (x : length s ≤ most) (y : length t ≤ most) (a : RowAt s r rest) (b : RowAt t q last)
    (g : Sheet rest rs) (h : Sheet last ss) (e : contents r ≡ contents q) (f : map contents rs ≡ map contents ss) where
  by_header : (k : Bool) → header_from r ≡ k → site_at most s ≡ site_at most t
  by_header true k =
      headed_reads most s (record { short = x; header = r; rest = rest; at = a; is = header_is r k; says = sheet_says g })
      ∙ rw (all_same rs ss f) (sym (headed_reads most t (record { short = y; header = q; rest = last; at = b; is = header_is q (sym (headers_same r q e) ∙ k); says = sheet_says h })))
  by_header false k = bad_header most s x a k ∙ sym (bad_header most t y b (sym (headers_same r q e) ∙ k))

pub same_answer : {most : ℕ} {s t : List ℕ} {rs ss : List Row} → length s ≤ most → length t ≤ most → Sheet s rs → Sheet t ss → map contents rs ≡ map contents ss → site_at most s ≡ site_at most t
same_answer x y no_row no_row e = refl
same_answer x y no_row (row b h) e = let z = ap length e in absurd (omega arith)
same_answer x y (row a g) no_row e = let z = ap length e in absurd (omega arith)
same_answer {rs = r ∷ rs} {ss = q ∷ ss} x y (row a g) (row b h) e =
    let e' : contents r ∷ map contents rs ≡ contents q ∷ map contents ss = e in
    let k : contents r ≡ contents q = cc in
    let l : map contents rs ≡ map contents ss = cc in
    by_header x y a b g h k l (header_from r) refl
