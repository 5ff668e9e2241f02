-- Whole sheets: their rows one after the other, and where they break.
-- Assumes nothing.
use Prim.Native.Nat.{ℕ, zero, suc, ◌+◌, ◌-◌, ◌≤◌, ◌<◌}
use native.Mathlib.Omega.{arith}
use mathlib.Core.Path.{◌≡◌, refl, sym, ap, ◌∙◌}
use mathlib.Core.Logic.{◌↔◌}
use mathlib.Core.List.{List, [], ◌∷◌, ◌++◌, append_assoc}
use lib.ListN.{length, take, drop, length-append, length-drop}
use lib.Seq.{take_at}
use Rattle.grammar.specs.declared.cut.Mode.TheVariants.{Fresh}
use Rattle.grammar.specs.declared.cut.Cells.{Cells}
use Rattle.grammar.specs.declared.cut.RowCut.{RowCut}
use Rattle.grammar.specs.declared.cut.RowCut.TheVariants.{Cut, NoRow, Broken}
use Rattle.std.specs.Prelude.{Result, Ok, Err}
use Rattle.grammar.specs.declared.count.BrokenSheet.{BrokenSheet}
use Rattle.grammar.specs.Grammar.{cr, lf, Row, row_text, RowAt, ended, last, Sheet, no_row, row, BeginsWith, here, on}
use Rattle.grammar.specs.Cut.{empty_at, no_cells, row_from, cut_row}
use Rattle.grammar.specs.Rows.{Rows, on_row, rows_from, broken_at, count_from, count_rows}
use Rattle.grammar.specs.Meaning.{SheetOf, BrokenRow, BrokenAfter, FirstFault}
use Rattle.grammar.proofs.Found.{in_fresh, row_crlf, row_sheet, RowFound, row_found}
use Rattle.grammar.proofs.Unique.{row_unique, no_row_at, rows_unique}
use Rattle.grammar.proofs.Faults.{EndsAt, Some, some, Stuck, row_stuck, front_longer}
use Rattle.grammar.proofs.Steps.{cut_within}
use Rattle.grammar.proofs.Reading.{cut_there, rows_next}
use Rattle.grammar.proofs.Exact.{row_read, rest_shorter, cut_from, cut_is_row, no_row_end, broken_there, broken_some, broken_none}

-- ---- rows in front of a text

-- two readings of the same text that begin with the same rows go on alike
sheet_behind : {text : List ℕ} (rs : List Row) {ss : List Row} {t : List ℕ} → BeginsWith text rs t → Sheet text (rs ++ ss) → Sheet t ss
sheet_behind [] here s = s
sheet_behind (r ∷ rs) (on a l) (row b s) = sheet_behind rs l (rw (row_unique b a refl).behind at s)

-- a sheet that begins with some rows goes on as a sheet
record RestSheet (t : List ℕ) : Type 0 where
  rows : List Row
  is : Sheet t rows

sheet_after : {text : List ℕ} {rs ss : List Row} {t : List ℕ} → BeginsWith text rs t → Sheet text ss → RestSheet t
sheet_after here s = record { rows = _; is = s }
sheet_after (on a l) no_row = absurd (no_row_at a refl)
sheet_after (on a l) (row b s) = sheet_after l (rw (row_unique b a refl).behind at s)

leads_nothing : {text : List ℕ} {rs : List Row} {t : List ℕ} → BeginsWith text rs t → [] ≡ text → [] ≡ t
leads_nothing here e = e
leads_nothing (on a l) e = absurd (no_row_at a e)

-- the bytes of rows that each end in CRLF
rows_text : List Row → List ℕ
rows_text [] = []
rows_text (r ∷ rs) = row_text r ++ (cr ∷ lf ∷ rows_text rs)

-- rows with a byte behind them all end in CRLF, so they stand as they are in front of any other text
leads_text : {text : List ℕ} {rs : List Row} {t : List ℕ} → BeginsWith text rs t → (t ≡ [] → ⊥) → text ≡ rows_text rs ++ t
unfolding rows_text
leads_text here n = refl
leads_text {rs = r ∷ rs} {t} (on (ended w e) l) n = e ∙ rw (leads_text l n) (sym (append_assoc (row_text r) (cr ∷ lf ∷ rows_text rs) t))
leads_text (on (last w e h) l) n = absurd (n (sym (leads_nothing l refl)))

leads_any : {text : List ℕ} {rs : List Row} {t : List ℕ} (other : List ℕ) → BeginsWith text rs t → (t ≡ [] → ⊥) → BeginsWith (rows_text rs ++ other) rs other
unfolding rows_text
leads_any other here n = here
leads_any {rs = r ∷ rs} other (on (ended w e) l) n = on (ended w (append_assoc (row_text r) (cr ∷ lf ∷ rows_text rs) other)) (leads_any other l n)
leads_any other (on (last w e h) l) n = absurd (n (sym (leads_nothing l refl)))

leads_sheet : {text : List ℕ} {rs ss : List Row} {t : List ℕ} → BeginsWith text rs t → Sheet t ss → Sheet text (rs ++ ss)
leads_sheet here s = s
leads_sheet (on a l) s = row a (leads_sheet l s)

-- ---- all the rows of a sheet

-- what is read of a sheet from a position on
data Reading (s : List ℕ) (at : ℕ) (rows : Rows) : Type 0 where
  is_sheet : (rs : List Row) → Sheet (drop at s) rs → ((n : ℕ) → count_from n rows ≡ Ok (n + length rs)) → Reading s at rows
  is_broken : (rs : List Row) (stop byte : ℕ) → BeginsWith (drop at s) rs (drop stop s) → cut_row s stop ≡ Broken byte
      → ((n : ℕ) → count_from n rows ≡ Err (broken_at (n + length rs) byte)) → Reading s at rows

module _ (s : List ℕ) (at : ℕ) where
  one_more : {r : Row} {rest : List ℕ} (cells : Cells) (next : ℕ) (rows : Rows) → RowAt (drop at s) r rest → drop next s ≡ rest
      → Reading s next rows → Reading s at (Rows.row cells rows)
  unfolding count_from
  one_more {r} cells next rows a e (is_sheet rs h c) =
      is_sheet (r ∷ rs) (row a (rw e at h)) (λ n. c (n + 1) ∙ ap {B = Result ℕ BrokenSheet} Ok (omega arith))
  one_more {r} cells next rows a e (is_broken rs stop byte l b c) =
      is_broken (r ∷ rs) stop byte (on a (rw e at l)) b (λ n. c (n + 1) ∙ ap {B = Result ℕ BrokenSheet} (λ (m : ℕ). Err (broken_at m byte)) (omega arith))

  turn : (cut : RowCut) → cut_row s at ≡ cut → ((next : ℕ) → at < next → next ≤ length s → Reading s next (rows_from s next)) → Reading s at (on_row cut (rows_from s))
  unfolding count_from
  turn (Cut cells next) e more =
      let c = cut_is_row s at e in
      let w = cut_there s at e in
      one_more cells next (rows_from s next) c.there c.behind (more next w.0 w.1)
  turn NoRow e more = is_sheet [] (rw (no_row_end s at e) no_row) (λ n. ap {B = Result ℕ BrokenSheet} Ok (omega arith))
  turn (Broken byte) e more = is_broken [] at byte here e (λ n. ap {B = Result ℕ BrokenSheet} (λ (m : ℕ). Err (broken_at m byte)) (omega arith))

reading : (s : List ℕ) (most at : ℕ) → length s - at < most → Reading s at (rows_from s at)
reading s zero at h = absurd (omega arith)
reading s (suc most) at h = rw (rows_next s at) (turn s at (cut_row s at) refl (λ next l w. reading s most next (omega arith)))

clash : {cells : Cells} {next byte : ℕ} {A : Type 0} → Cut cells next ≡ Broken byte → A
clash e = let z : ◌≡◌ {A = ℕ} 0 1 = cc in absurd (omega arith)

-- a text that has bytes and begins with no row is no sheet
no_sheet : {t : List ℕ} {ss : List Row} → Sheet t ss → (t ≡ [] → ⊥) → ((r : Row) (behind : List ℕ) → RowAt t r behind → ⊥) → ⊥
no_sheet no_row n m = n refl
no_sheet (row a h) n m = m _ _ a

module _ (s : List ℕ) where
  all_counted : Reading s 0 (rows_from s 0) → (n : ℕ) → (count_rows s ≡ Ok n) ↔ SheetOf s n
  unfolding count_rows
  all_counted (is_sheet rs h c) n = (
    (λ e. record { rows = rs; is = h; count = let q = c 0 in let z : 0 + length rs ≡ n = cc in omega arith }),
    (λ o. c 0 ∙ ap {B = Result ℕ BrokenSheet} Ok (let q = ap length (rows_unique h o.is) in let k = o.count in omega arith)),
  )
  all_counted (is_broken rs stop byte l b c) n = (
    (λ e. let q = c 0 in let z : ◌≡◌ {A = ℕ} 0 1 = cc in absurd (omega arith)),
    (λ o. absurd (no_sheet (sheet_after l o.is).is (broken_some s stop b) (broken_none s stop b))),
  )

  from_start : Reading s 0 (rows_from s 0)
  from_start = reading s (suc (length s)) 0 (omega arith)

  -- a sheet is counted whole exactly when it is one
  pub count_exact : (n : ℕ) → (count_rows s ≡ Ok n) ↔ SheetOf s n
  count_exact = all_counted from_start

-- ---- where a row breaks

-- no row is read where reading breaks off
record RowFront (text : List ℕ) (r : Row) : Type 0 where
  rest : List ℕ
  is : RowAt text r rest

front : {text : List ℕ} {r : Row} {ss : List Row} → Sheet text (r ∷ ss) → RowFront text r
front (row a h) = record { rest = _; is = a }

not_nothing : (b : List ℕ) {m : List ℕ} → Some m → b ++ m ≡ [] → ⊥
not_nothing [] some h = let n = ap length h in omega arith
not_nothing (x ∷ b) p h = let n = ap length h in omega arith

-- a text that is read to its end is one row
record OneRow (text : List ℕ) : Type 0 where
  is_row : Row
  is : RowAt text is_row []

empty_list : (t : List ℕ) → length t ≡ 0 → t ≡ []
empty_list [] h = refl
empty_list (b ∷ t) h = absurd (omega arith)

one_row : {text : List ℕ} (i : ℕ) (cut : RowCut) → row_from Fresh (empty_at i) no_cells i text ≡ cut → (text ≡ [] → ⊥) → EndsAt (i + length text) cut → RowFound text cut → OneRow text
one_row i NoRow e n h f = absurd h
one_row i (Broken byte) e n h f = absurd h
one_row {text} i (Cut cells next) e n h (row_sheet r w q) = record { is_row = r; is = last w q n }
one_row {text} i (Cut cells next) e n h (row_crlf r rest w q) =
    let a : RowAt text r rest = ended w q in
    let k = rest_shorter a in
    let m : next ≡ i + (length text - length rest) = let p = row_read i no_cells a in cc in
    let z : length rest ≡ 0 = go (length text) refl k m in
    record { is_row = r; is = rw (empty_list rest z) at a }
  where
    go : (x : ℕ) → length text ≡ x → length rest ≤ length text → next ≡ i + (length text - length rest) → length rest ≡ 0
    go zero p k m = omega arith
    go (suc x) p k m = omega arith

module _ (s : List ℕ) (at byte : ℕ) (rs : List Row) (l : BeginsWith s rs (drop at s)) (e : cut_row s at ≡ Broken byte) where
  stuck : Stuck EndsAt Broken (row_from Fresh (empty_at at) no_cells at) (drop at s) at byte
  stuck = rw (sym (cut_from s at (broken_there s at e)) ∙ e) at (row_stuck (drop at s) Fresh (empty_at at) no_cells at)

  s_is : s ≡ rows_text rs ++ (stuck.before ++ stuck.behind)
  s_is = leads_text l (broken_some s at e) ∙ ap (λ (t : List ℕ). rows_text rs ++ t) stuck.split

  rows_long : length (rows_text rs) ≡ at
  rows_long =
      let n : length s ≡ length (rows_text rs) + (length s - at) = ap length (leads_text l (broken_some s at e)) ∙ length-append (rows_text rs) (drop at s) ∙ ap (λ (m : ℕ). length (rows_text rs) + m) (length-drop at s) in
      let t = broken_there s at e in
      omega arith

  -- the sheet up to n bytes behind the place where the row broke, with another text behind it
  up_to : (front behind other : List ℕ) → stuck.before ++ stuck.behind ≡ front ++ behind → (n : ℕ) → n ≡ at + length front
      → take n s ++ other ≡ rows_text rs ++ (front ++ other)
  up_to front behind other h n p =
      let m : length (rows_text rs ++ front) ≡ n = let q = rows_long in simp length-append (omega arith) in
      rw (s_is, h, ← append_assoc (rows_text rs) front behind, take_at (rows_text rs ++ front) behind n m) (append_assoc (rows_text rs) front other)

  mend_one : OneRow (stuck.before ++ stuck.mend)
  mend_one = one_row at _ refl (not_nothing stuck.before stuck.some_mend) stuck.mended (row_found (stuck.before ++ stuck.mend) Fresh (empty_at at) no_cells at in_fresh)

  mended_sheet : Sheet (take byte s ++ stuck.mend) (rs ++ (mend_one.is_row ∷ []))
  mended_sheet =
      rw (up_to stuck.before stuck.behind stuck.mend refl byte stuck.place)
      (leads_sheet (leads_any (stuck.before ++ stuck.mend) l (broken_some s at e)) (row mend_one.is no_row))

  no_more_there : (other : List ℕ) (r : Row) (more : List Row) (behind : List ℕ) → stuck.behind ≡ behind → byte < length s
      → Sheet (take (byte + 1) s ++ other) (rs ++ (r ∷ more)) → ⊥
  no_more_there other r more [] h n t =
      let z : length stuck.behind ≡ 0 = ap length h in
      let m : length s ≡ length (rows_text rs) + (length stuck.before + length stuck.behind) = ap length s_is ∙ simp length-append in
      let q = rows_long in
      let p = stuck.place in
      omega arith
  no_more_there other r more (c ∷ behind) h n t =
      let text_is : take (byte + 1) s ++ other ≡ rows_text rs ++ (stuck.before ++ (c ∷ other)) =
      up_to (stuck.before ++ (c ∷ [])) behind other (rw h (sym (append_assoc stuck.before (c ∷ []) behind))) (byte + 1) (let p = stuck.place in simp length-append (omega arith))
      ∙ ap (λ (x : List ℕ). rows_text rs ++ x) (append_assoc stuck.before (c ∷ []) other) in
      let f = front (sheet_behind rs (leads_any (stuck.before ++ (c ∷ other)) l (broken_some s at e)) (rw text_is at t)) in
      clash (sym (row_read at no_cells f.is) ∙ stuck.hopeless c behind other h)

  -- where the row cutter reports a fault, it is the first
  fault_first : FirstFault s rs byte
  fault_first = record {
    within = let w = cut_within s at (broken_there s at e) e in w.1;
    mend = stuck.mend;
    next = mend_one.is_row;
    mended = mended_sheet;
    hopeless = λ other r more n t. no_more_there other r more stuck.behind refl n t;
    too_soon = λ r more t. no_sheet (sheet_behind rs l t) (broken_some s at e) (broken_none s at e);
  }

-- a fault has one byte
not_before : {s : List ℕ} {rs : List Row} {a b : ℕ} → FirstFault s rs a → FirstFault s rs b → a < b → ⊥
not_before {s} {rs} {a} {b} f g h = let w = g.within in f.hopeless _ g.next [] (omega arith) (rw (front_longer s a b g.mend h) at g.mended)

byte_once : {s : List ℕ} {rs : List Row} {a b : ℕ} → FirstFault s rs a → FirstFault s rs b → a ≡ b
byte_once f g = omega (arith, not_before f g, not_before g f)

module _ (s : List ℕ) (at : ℕ) (rs : List Row) (l : BeginsWith s rs (drop at s)) where
  broken_row : {byte : ℕ} → cut_row s at ≡ Broken byte → BrokenRow s rs (drop at s) byte
  broken_row {byte} e = record { some = broken_some s at e; no_row = broken_none s at e; first = fault_first s at byte rs l e }

  -- the row cutter reports a fault exactly where the row breaks
  pub fault_exact : (byte : ℕ) → (cut_row s at ≡ Broken byte) ↔ BrokenRow s rs (drop at s) byte
  fault_exact byte = (broken_row, (λ o. go (cut_row s at) refl o))
    where
      go : (cut : RowCut) → cut_row s at ≡ cut → BrokenRow s rs (drop at s) byte → cut ≡ Broken byte
      go (Cut cells next) e o = let c = cut_is_row s at e in absurd (o.no_row c.row c.rest c.there)
      go NoRow e o = absurd (o.some (no_row_end s at e))
      go (Broken b) e o = ap Broken (byte_once (fault_first s at b rs l e) o.first)

-- ---- the rows in front of a broken one

-- rows up to a broken one are read in one way
rows_once : {text t u : List ℕ} {rs ss : List Row} → BeginsWith text rs t → BeginsWith text ss u → ((r : Row) (behind : List ℕ) → RowAt t r behind → ⊥)
    → ((r : Row) (behind : List ℕ) → RowAt u r behind → ⊥) → rs ≡ ss
rows_once here here n m = refl
rows_once here (on a l) n m = absurd (n _ _ a)
rows_once (on a l) here n m = absurd (m _ _ a)
rows_once (on a l) (on b k) n m = let q = row_unique a b refl in rw (q.first, rows_once l (rw (sym q.behind) at k) n m)

module _ (s : List ℕ) where
  up_to_broken : Reading s 0 (rows_from s 0) → (n byte : ℕ) → (count_rows s ≡ Err (broken_at n byte)) ↔ BrokenAfter s n byte
  unfolding count_rows
  up_to_broken (is_sheet rs h c) n byte = (
    (λ e. let q = c 0 in let z : ◌≡◌ {A = ℕ} 0 1 = cc in absurd (omega arith)),
    (λ o. absurd (no_sheet (sheet_after o.leads h).is o.broken.some o.broken.no_row)),
  )
  up_to_broken (is_broken rs stop b l d c) n byte = (
    (λ e.
        let q = c 0 in
        let f : broken_at (0 + length rs) b ≡ broken_at n byte = cc in
        let z = ap (λ (x : BrokenSheet). x.rows) f in
        let y = ap (λ (x : BrokenSheet). x.byte) f in
        record { rows = rs; rest = drop stop s; count = omega arith; leads = l; broken = rw y at (broken_row s stop rs l d) }),
    (λ o.
        let r = rows_once l o.leads (broken_none s stop d) o.broken.no_row in
        let y = byte_once (rw r at (fault_first s stop b rs l d)) o.broken.first in
        let z : 0 + length rs ≡ n = let k = o.count in let m = ap length r in omega arith in
        c 0 ∙ rw (z, y)),
  )

  -- a sheet is counted up to a row exactly when that row is the one that breaks
  pub count_broken : (n byte : ℕ) → (count_rows s ≡ Err (broken_at n byte)) ↔ BrokenAfter s n byte
  count_broken = up_to_broken (from_start s)
