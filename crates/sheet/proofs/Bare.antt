-- A row of three fields without quotes that ends in CRLF: where `cut_row` cuts it, told by its two commas and its CRLF.
-- Assumes nothing.
use Prim.Native.Nat.{ℕ, zero, suc, ◌+◌, ◌-◌, ◌<◌}
use mathlib.Core.Path.{◌≡◌, refl, sym, ◌∙◌}
use mathlib.Core.Bool.{Bool, true, false, cond, false≢true}
use mathlib.Core.List.{List}
use native.Mathlib.Omega.{arith}
use borrow.Author.Tests.{ltb-true, eqb-true, ne_eqb}
use lib.ListN.{length, get_or, drop}
use lib.Dec.{ltb, eqb}
use Rattle.grammar.specs.Grammar.{quote, comma, cr, lf}
use Rattle.grammar.specs.declared.cut.Mode.TheVariants.{Fresh, Bare, Return}
use Rattle.grammar.specs.declared.cut.Cell.{Cell}
use Rattle.grammar.specs.declared.cut.ByteMove.TheVariants.{Go, NextField, RowEnd}
use Rattle.grammar.specs.declared.cut.FieldCut.TheVariants.{Next, Last}
use Rattle.grammar.specs.declared.cut.RowCut.TheVariants.{Cut}
use Rattle.grammar.specs.Cut.{empty_at, up_to, bare_move, move_of, field_from, cut_field, pushed, cut_row}
use Rattle.grammar.proofs.Steps.{field_more, field_turn, row_start, row_more, row_turn}
use Rattle.sheet.specs.Bare.{BareUpTo, BareTo, has_at}

-- a bare field from `start` up to `end`
abbrev bare_cell : ℕ → ℕ → Cell
bare_cell start end = up_to (empty_at start) end false

above : (cell : Cell) (b next : ℕ) → comma < b → move_of Bare cell b next ≡ Go Bare (up_to cell next false)
unfolding move_of bare_move
above cell b next h = simp (ne_eqb b quote (λ e. omega (arith, e)), ne_eqb b comma (λ e. omega (arith, e)), ne_eqb b cr (λ e. omega (arith, e)), ne_eqb b lf (λ e. omega (arith, e)))

no_quote : (cell : Cell) (b next : ℕ) → (b ≡ quote → ⊥) → move_of Fresh cell b next ≡ move_of Bare cell b next
unfolding move_of
no_quote cell b next q = simp (ne_eqb b quote q)

module _ (s : List ℕ) (at : ℕ) where
  -- n bytes on, the rest of the field is the rest of a bare one, unless a quote comes first
  along : (n end : ℕ) → at + n ≡ end → BareUpTo s at end → end < length s → (get_or s end 0 ≡ quote → ⊥)
      → cut_field s at ≡ field_from Bare (bare_cell at end) end (drop end s)
  unfolding cut_field
  along zero end e so h q =
      let start : at ≡ end = omega (arith, e) in
      rw start (field_more s end Fresh (empty_at end) h ∙ rw (no_quote (empty_at end) (get_or s end 0) (end + 1) q) (sym (field_more s end Bare (empty_at end) h)))
  along (suc n) end e so h q =
      let here : comma < get_or s (at + n) 0 = so.bare (at + n) (omega (arith, e)) (omega arith) in
      let up : BareUpTo s at (at + n) = record { onward = omega arith; bare = λ i k l. so.bare i (omega (arith, e, k)) l } in
      let within : at + n < length s = omega (arith, e, h) in
      let next : at + n + 1 ≡ end = omega (arith, e) in
      let to : cut_field s at ≡ field_from Bare (bare_cell at (at + n)) (at + n) (drop (at + n) s) = along n (at + n) refl up within (λ quoted. omega (arith, here, quoted)) in
      rw next at (field_turn s (at + n) Bare (bare_cell at (at + n)) to within (above (bare_cell at (at + n)) (get_or s (at + n) 0) (at + n + 1) here))

  -- a bare field up to `end`, by the byte that stands there
  module _ {end : ℕ} (so : BareUpTo s at end) where
    bare_to : end < length s → (get_or s end 0 ≡ quote → ⊥) → cut_field s at ≡ field_from Bare (bare_cell at end) end (drop end s)
    bare_to h q = let low = so.onward in along (end - at) end (omega arith) so h q

    to_comma : end < length s → get_or s end 0 ≡ comma → cut_field s at ≡ Next (bare_cell at end) (end + 1)
    unfolding move_of bare_move
    to_comma h e = field_turn s end Bare (bare_cell at end) {move = NextField} (bare_to h (λ q. omega (arith, q, e))) h (rw e)

    to_crlf : end + 1 < length s → get_or s end 0 ≡ cr → get_or s (end + 1) 0 ≡ lf → cut_field s at ≡ Last (bare_cell at end) (end + 1 + 1)
    unfolding move_of bare_move
    to_crlf h e l =
        let returned = field_turn s end Bare (bare_cell at end) {move = Go Return (bare_cell at end)} (bare_to (omega arith) (λ q. omega (arith, q, e))) (omega arith) (rw e) in
        field_turn s (end + 1) Return (bare_cell at end) {move = RowEnd} returned h (rw l)

-- a test that is passed by two others
both : (a b : Bool) → cond a b false ≡ true → (a ≡ true) × (b ≡ true)
both true b e = (refl, e)
both false b e = absurd (false≢true e)

-- the sheet has the byte
module _ (s : List ℕ) (at byte : ℕ) where
  pub has_within : has_at s at byte ≡ true → at < length s
  unfolding has_at
  has_within e = ltb-true at (length s) (both (ltb at (length s)) (eqb (get_or s at 0) byte) e).0

  has_same : has_at s at byte ≡ true → get_or s at 0 ≡ byte
  unfolding has_at
  has_same e = eqb-true (get_or s at 0) byte (both (ltb at (length s)) (eqb (get_or s at 0) byte) e).1

-- a bare field that a byte ends is ended within the sheet
pub to_within : {s : List ℕ} {at end byte : ℕ} → BareTo s at end byte → end < length s
to_within {s} {end = end} {byte} b = has_within s end byte b.ends

-- three bare fields, with commas behind the first two and CRLF behind the third
module _ {s : List ℕ} {at first second third : ℕ} (a : BareTo s at first comma) (b : BareTo s (first + 1) second comma) (c : BareTo s (second + 1) third cr) where
  pub row_three : has_at s (third + 1) lf ≡ true
      → Cut (record { count = 3; first = bare_cell at first; second = bare_cell (first + 1) second; third = bare_cell (second + 1) third }) (third + 1 + 1) ≡ cut_row s at
  unfolding pushed
  row_three l =
      let within = to_within a in
      let low = a.field.onward in
      let one = row_more (row_start s at (omega arith)) (to_comma s at a.field within (has_same s first comma a.ends)) in
      let two = row_more one (to_comma s (first + 1) b.field (to_within b) (has_same s second comma b.ends)) in
      sym (row_turn two (to_crlf s (second + 1) c.field (has_within s (third + 1) lf l) (has_same s third cr c.ends) (has_same s (third + 1) lf l)))
