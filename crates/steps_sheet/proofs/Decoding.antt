-- The loop over the rows of a sheet: each step goes into the three lent lists, in which there is room for it. Assumes nothing.
use Prim.Native.Nat.{ℕ, ◌+◌, ◌-◌, ◌≤◌, ◌<◌}
use mathlib.Core.Path.{◌≡◌, refl, sym, ap, subst, ◌∙◌}
use mathlib.Core.Bool.{Bool, true, false}
use mathlib.Core.List.{List, ◌∷◌}
use native.Mathlib.Omega.{arith}
use native.Mathlib.Numerals.{add-one}
use borrow.Author.Rules.{rules}
use borrow.Author.Tests.{leb-true}
use lib.ListN.{length, set, length-set}
use lib.Seq.{sets}
use Rattle.tables.proofs.Laws.{and_left, and_right}
use Rattle.grammar.specs.Cut.{cut_row}
use Rattle.grammar.specs.Rows.{on_row, rows_from}
use Rattle.grammar.specs.declared.cut.Cells.{Cells}
use Rattle.grammar.specs.declared.cut.RowCut.{RowCut}
use Rattle.grammar.specs.declared.cut.RowCut.TheVariants.{Cut, NoRow, Broken}
use Rattle.grammar.proofs.Reading.{cut_there, rows_next}
use Rattle.std.specs.Prelude.{Option, Some, None, Ok}
use Rattle.phases.specs.declared.table.StepRow.{StepRow}
use Rattle.phases.specs.Kinds.{number_of_kind}
use Rattle.steps_sheet.specs.Says.{Steps}
use Rattle.steps_sheet.specs.Steps.{steps_line_at, no_steps, before, steps_in, steps_from}
use Rattle.steps_sheet.specs.Lent.{most_in, room_for_steps, steps_room_in, kinds_in, doors_in, persons_in, decoded_of, listed, decoded_in, kinds_listed, doors_listed, persons_listed}
use Rattle.steps_sheet.proofs.Few.{steps_few}

-- lists with room have room for every step of the sheet
record Room (n kinds doors persons : ℕ) : Type 0 where
  in_kinds : n ≤ kinds
  in_doors : n ≤ doors
  in_persons : n ≤ persons

room_is : (s : List ℕ) (from : ℕ) (kinds doors persons : List ℕ) → steps_room_in s kinds doors persons ≡ true
    → Room (length (steps_from s from).rows) (length kinds) (length doors) (length persons)
unfolding room_for_steps
room_is s from kinds doors persons e =
    let few = steps_few s from in
    let k = leb-true (most_in (length s)) (length kinds) (and_left _ _ e) in
    let d = leb-true (most_in (length s)) (length doors) (and_left _ _ (and_right _ _ e)) in
    let p = leb-true (most_in (length s)) (length persons) (and_right _ _ (and_right _ _ e)) in
    record { in_kinds = omega arith; in_doors = omega arith; in_persons = omega arith }

-- one list of a sheet's steps, as far as it is written: what is still to be written stands behind what was written
pub record Filling (list₀ all list rest : List ℕ) (count : ℕ) : Type 0 where
  pub long : length list ≡ length list₀
  pub behind : sets list count rest ≡ sets list₀ 0 all

fill_start : {list all : List ℕ} → Filling list all list all 0
fill_start = record { long = refl; behind = refl }

fill_more : {list₀ all list rest : List ℕ} {count entry : ℕ} → Filling list₀ all list (entry ∷ rest) count
    → Filling list₀ all (set list count entry) rest (count + 1)
fill_more {list₀} {all} {list} {rest} {count} {entry} f =
    record { long = length-set list count entry ∙ f.long; behind = rw (add-one count) f.behind }

-- the loop over the rows has come to the one at `at`, behind `count` steps
pub record Decoding (s : List ℕ) (from : ℕ) (kinds₀ doors₀ persons₀ kinds doors persons : List ℕ) (count at : ℕ) : Type 0 where
  pub few : count ≤ most_in (length s)
  pub counted : length (steps_from s from).rows ≡ count + length (steps_from s at).rows
  pub ending : (steps_from s from).whole ≡ (steps_from s at).whole
  pub kinds_so : Filling kinds₀ (kinds_in (steps_from s from)) kinds (kinds_in (steps_from s at)) count
  pub doors_so : Filling doors₀ (doors_in (steps_from s from)) doors (doors_in (steps_from s at)) count
  pub persons_so : Filling persons₀ (persons_in (steps_from s from)) persons (persons_in (steps_from s at)) count

pub decode_start : {s : List ℕ} {from : ℕ} {kinds doors persons : List ℕ} → Decoding s from kinds doors persons kinds doors persons 0 from
decode_start = record { few = omega arith; counted = omega arith; ending = refl; kinds_so = fill_start; doors_so = fill_start; persons_so = fill_start }

steps_turn : (s : List ℕ) (at : ℕ) {cut : RowCut} → cut_row s at ≡ cut → steps_from s at ≡ steps_in s (on_row cut (rows_from s))
steps_turn s at e = ap (steps_in s) (rows_next s at ∙ ap (λ c. on_row c (rows_from s)) e)

-- what the row there is: `cut` is what the row cutter told, and `line` what the row said
module _ {s : List ℕ} {from : ℕ} {kinds₀ doors₀ persons₀ kinds doors persons : List ℕ} {count at : ℕ}
    (so : Decoding s from kinds₀ doors₀ persons₀ kinds doors persons count at) (cut : RowCut) (told : cut ≡ cut_row s at) where
  -- a step
  module _ {cells : Cells} {next : ℕ} {step : StepRow} (row : cut ≡ Cut cells next) (line : Option StepRow) (said : line ≡ steps_line_at s cells) (is_step : line ≡ Some step) where
    turn : steps_from s at ≡ before (Some step) (steps_from s next)
    unfolding steps_in
    turn = steps_turn s at (sym told ∙ row) ∙ ap (λ (x : Option StepRow). before x (steps_from s next)) (sym said ∙ is_step)

    one_more : length (steps_from s from).rows ≡ count + 1 + length (steps_from s next).rows
    one_more =
        let one : length (steps_from s at).rows ≡ length (before (Some step) (steps_from s next)).rows = ap (λ (x : Steps). length x.rows) turn in
        let all = so.counted in
        omega arith

    -- there is room for it
    module _ (room : steps_room_in s kinds₀ doors₀ persons₀ ≡ true) where
      pub kinds_room : count < length kinds
      kinds_room = let r = room_is s from kinds₀ doors₀ persons₀ room in let all = one_more in let l = so.kinds_so.long in omega arith

      pub doors_room : count < length doors
      doors_room = let r = room_is s from kinds₀ doors₀ persons₀ room in let all = one_more in let l = so.doors_so.long in omega arith

      pub persons_room : count < length persons
      persons_room = let r = room_is s from kinds₀ doors₀ persons₀ room in let all = one_more in let l = so.persons_so.long in omega arith

    pub decode_less : length s - next < length s - at
    decode_less = let w = cut_there s at (sym told ∙ row) in omega arith

    pub decode_more : (number : ℕ) → number ≡ number_of_kind step.kind
        → Decoding s from kinds₀ doors₀ persons₀ (set kinds count number) (set doors count step.at) (set persons count step.person) (count + 1) next
    decode_more number is =
        record {
          few = let all = one_more in let few = steps_few s from in omega arith;
          counted = one_more;
          ending = so.ending ∙ ap (λ (x : Steps). x.whole) turn;
          kinds_so = rw is (fill_more (subst (λ (x : Steps). Filling kinds₀ (kinds_in (steps_from s from)) kinds (kinds_in x) count) turn so.kinds_so));
          doors_so = fill_more (subst (λ (x : Steps). Filling doors₀ (doors_in (steps_from s from)) doors (doors_in x) count) turn so.doors_so);
          persons_so = fill_more (subst (λ (x : Steps). Filling persons₀ (persons_in (steps_from s from)) persons (persons_in x) count) turn so.persons_so);
        }

  -- or the last step is behind: what is answered then
  module _ (room : steps_room_in s kinds₀ doors₀ persons₀ ≡ true) where
    abbrev pub Ends : Bool → Type 0
    Ends whole =
        (Ok (record { count = count; whole = whole }) ≡ decoded_in s from kinds₀ doors₀ persons₀)
        × ((kinds ≡ kinds_listed s from kinds₀ doors₀ persons₀)
        × ((doors ≡ doors_listed s from kinds₀ doors₀ persons₀) × (persons ≡ persons_listed s from kinds₀ doors₀ persons₀)))

    decode_end : (whole : Bool) → steps_from s at ≡ no_steps whole → Ends whole
    unfolding decoded_of listed
    decode_end whole e =
        let none : length (steps_from s at).rows ≡ 0 = ap (λ (x : Steps). length x.rows) e in
        let all = so.counted in
        let count_is : length (steps_from s from).rows ≡ count = omega arith in
        let whole_is : (steps_from s from).whole ≡ whole = so.ending ∙ ap (λ (x : Steps). x.whole) e in (
          rw (room, count_is, whole_is),
          (
            rw room (subst (λ (x : Steps). sets kinds count (kinds_in x) ≡ sets kinds₀ 0 (kinds_in (steps_from s from))) e so.kinds_so.behind),
            (
              rw room (subst (λ (x : Steps). sets doors count (doors_in x) ≡ sets doors₀ 0 (doors_in (steps_from s from))) e so.doors_so.behind),
              rw room (subst (λ (x : Steps). sets persons count (persons_in x) ≡ sets persons₀ 0 (persons_in (steps_from s from))) e so.persons_so.behind),
            ),
          ),
        )

    pub decode_bad : {cells : Cells} {next : ℕ} → cut ≡ Cut cells next → (line : Option StepRow) → line ≡ steps_line_at s cells → line ≡ None → Ends false
    unfolding steps_in
    decode_bad {cells} {next} row line said bad =
        decode_end false (steps_turn s at (sym told ∙ row) ∙ ap (λ (x : Option StepRow). before x (steps_from s next)) (sym said ∙ bad))

    pub decode_over : cut ≡ NoRow → Ends true
    unfolding steps_in
    decode_over none = decode_end true (steps_turn s at (sym told ∙ none))

    pub decode_broken : {byte : ℕ} → cut ≡ Broken byte → Ends false
    unfolding steps_in
    decode_broken broken = decode_end false (steps_turn s at (sym told ∙ broken))

-- the laws of the loop, for `search` at each of its needs
pub ruleset decoding = (rules, decode_start, kinds_room, doors_room, persons_room, decode_less, decode_more, decode_bad, decode_over, decode_broken)
