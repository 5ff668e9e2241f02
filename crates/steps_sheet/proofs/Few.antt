-- How many steps a text can say: a row that is a step has eight bytes, its CRLF among them, or is the last and has six.
-- Assumes nothing.
use Prim.Native.Nat.{ℕ, ◌+◌, ◌*◌, ◌≤◌}
use native.Mathlib.Omega.{arith}
use mathlib.Core.Path.{◌≡◌, ap}
use mathlib.Core.Bool.{Bool, true, false, cond}
use mathlib.Core.List.{List, [], ◌∷◌, ◌++◌}
use lib.ListN.{length, length-append, length-drop}
use lib.Dec.{eqb}
use Rattle.grammar.specs.Grammar.{quote, comma, cr, lf, Field, bare, quoted, content, escape, field_text, Row, only, ◌then◌, fields, row_text, ended, last}
use Rattle.grammar.specs.Where.{field_of}
use Rattle.phases.specs.declared.table.Kind.{Kind}
use Rattle.phases.specs.declared.table.StepRow.{StepRow}
use Rattle.steps_sheet.specs.Words.{StepWord, card, decide, green, red, walk, tick, passed, lapsed, dark, ack}
use Rattle.steps_sheet.specs.Says.{SaysStep, TextSaysSteps, nothing, a_step, bad_row_first, no_row_there}
use Rattle.steps_sheet.specs.Steps.{steps_from}
use Rattle.steps_sheet.specs.Lent.{most_in}
use Rattle.steps_sheet.proofs.Text.{steps_said}

-- a field has no fewer bytes than its content
escape_long : (c : List ℕ) → length c ≤ length (escape c)
unfolding escape
escape_long [] = omega arith
escape_long (b ∷ c) = go (eqb b quote) (escape_long c)
  where
    go : (q : Bool) → length c ≤ length (escape c) → length (b ∷ c) ≤ length (cond q (quote ∷ b ∷ escape c) (b ∷ escape c))
    go true h = omega arith
    go false h = omega arith

field_long : (f : Field) → length (content f) ≤ length (field_text f)
unfolding field_text
field_long (bare c) = omega arith
field_long (quoted c) = let h = escape_long c in let l = length-append (escape c) (quote ∷ []) in omega arith

-- a row of three fields has two commas
row_long : (r : Row) → length (fields r) ≡ 3 → length (content (field_of 0 r)) + length (content (field_of 1 r)) + 2 ≤ length (row_text r)
unfolding fields row_text
row_long (only f) h = absurd (omega arith)
row_long (f then only g) h = absurd (omega arith)
row_long (f then g then only e) h =
    let l = length-append (field_text f) (comma ∷ field_text g ++ (comma ∷ field_text e)) in
    let m = length-append (field_text g) (comma ∷ field_text e) in
    let x = field_long f in
    let y = field_long g in
    omega arith
row_long (f then g then e then r) h = let l = some_field r in absurd (omega arith)
  where
    some_field : (r : Row) → 1 ≤ length (fields r)
    some_field (only f) = omega arith
    some_field (f then r) = omega arith

word_long : {k : Kind} {c : List ℕ} → StepWord k c → 3 ≤ length c
word_long card = omega arith
word_long decide = omega arith
word_long green = omega arith
word_long red = omega arith
word_long walk = omega arith
word_long tick = omega arith
word_long passed = omega arith
word_long lapsed = omega arith
word_long dark = omega arith
word_long ack = omega arith

step_long : {r : Row} {step : StepRow} → SaysStep r step → 6 ≤ length (row_text r)
step_long {r} h =
    let word = word_long h.word in
    let some = h.door.some in
    let both = row_long r h.three in
    omega arith

text_few : {text : List ℕ} {steps : List StepRow} {whole : Bool} → TextSaysSteps text steps whole → 8 * length steps ≤ length text + 2
text_few nothing = omega arith
text_few (a_step {r = r} {rest = rest} (ended w e) h more) =
    let six = step_long h in
    let rest_few = text_few more in
    let l = length-append (row_text r) (cr ∷ lf ∷ rest) in
    let is = ap length e in
    omega arith
text_few (a_step (last w e some) h more) =
    let six = step_long h in
    let rest_few = text_few more in
    let is = ap length e in
    omega arith
text_few (bad_row_first a h) = omega arith
text_few (no_row_there some h) = omega arith

pub steps_few : (s : List ℕ) (from : ℕ) → length (steps_from s from).rows ≤ most_in (length s)
steps_few s from =
    let few = text_few (steps_said s from) in
    let l = length-drop from s in
    omega arith
