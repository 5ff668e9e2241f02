-- Demand 1 for the functions over a steps sheet: what a row says, what the sheet's beginning is, and its steps in lent lists. Assumes
-- nothing.
use Prim.Native.Nat.{ℕ}
use mathlib.Core.Path.{◌≡◌, sym, ap, ◌∙◌, refl}
use mathlib.Core.Bool.{Bool, true, false}
use mathlib.Core.List.{List, [], ◌∷◌}
use mathlib.Core.Logic.{inl, inr}
use lib.ListN.{length}
use Rattle.tables.specs.Below.{Tells}
use Rattle.tables.proofs.Laws.{clash, tell_and, tell_as, tell_le}
use Rattle.grammar.specs.Sizes.{limit}
use Rattle.std.specs.Prelude.{Ok, Err}
use Rattle.findings.specs.Told.{too_short}
use Rattle.steps_sheet.specs.declared.Decoded.{Decoded}
use Rattle.steps_sheet.specs.Says.{Steps}
use Rattle.steps_sheet.specs.Steps.{steps_from, heading_of}
use Rattle.steps_sheet.specs.Lent.{room_for_steps, steps_room_in, decoded_of, listed}
use Rattle.steps_sheet.proofs.Theorems.{step_exactly, bad_exactly, steps_exactly, heading_exactly, told_heading}
use Rattle.numbers.specs.Numbers.{too_long_no, bad_form_no}
use Rattle.numbers.specs.Telling.{OneOf}
use Rattle.steps_sheet.specs.Heading.{heading_told, unheaded_no}
use Rattle.steps_sheet.specs.declared.Unheaded.{Unheaded}
use Rattle.steps_sheet.specs.declared.Unheaded.TheVariants as unheaded
use Rattle.demands.specs.DemandOne.{StepsRoom, DecodeTells, StepsAnswers}

room_tells : (s kinds doors persons : List ℕ) → Tells (steps_room_in s kinds doors persons) (StepsRoom (length s) kinds doors persons)
unfolding room_for_steps
room_tells s kinds doors persons =
    tell_as (λ t. record { in_kinds = t.0; in_doors = t.1.0; in_persons = t.1.1 }) (λ x. (x.in_kinds, (x.in_doors, x.in_persons)))
    (tell_and (tell_le _ _) (tell_and (tell_le _ _) (tell_le _ _)))

decode_tells : (s : List ℕ) (from : ℕ) (kinds doors persons : List ℕ) → DecodeTells s from kinds doors persons
unfolding decoded_of listed
decode_tells s from kinds doors persons = go (steps_room_in s kinds doors persons) refl
  where
    go : (b : Bool) → steps_room_in s kinds doors persons ≡ b → DecodeTells s from kinds doors persons
    go true b =
        record {
          number = inr ((room_tells s kinds doors persons).yes b, rw b);
          unaltered = λ e. let z : Ok (record { count = length (steps_from s from).rows; whole = (steps_from s from).whole }) ≡ Err too_short = rw b at e in cc;
          decoded =
              λ d e steps says.
              let is = (steps_exactly s from steps).1 says in
              let z : Ok (record { count = length (steps_from s from).rows; whole = (steps_from s from).whole }) ≡ Ok d = rw b at e in
              let same : record { count = length (steps_from s from).rows; whole = (steps_from s from).whole } ≡ d = cc in (
                sym (ap (λ (x : Decoded). x.count) same) ∙ ap (λ (x : Steps). length x.rows) is,
                sym (ap (λ (x : Decoded). x.whole) same) ∙ ap (λ (x : Steps). x.whole) is,
                rw (b, is),
                rw (b, is),
                rw (b, is),
              );
        }
    go false b =
        record {
          number = inl ((λ x. clash ((room_tells s kinds doors persons).back x) b), rw b);
          unaltered = λ _. (rw b, rw b, rw b);
          decoded = λ d e. let z : Err too_short ≡ Ok d = rw b at e in cc;
        }

unheaded_one_of : (why : Unheaded) → OneOf (too_long_no ∷ bad_form_no ∷ []) (unheaded_no why)
unheaded_one_of unheaded.TooLong = inl refl
unheaded_one_of unheaded.Wrong = inr (inl refl)

pub of_steps : StepsAnswers
of_steps =
    record {
      steps_line_of_lem = λ s cells r h. record { a_step = step_exactly s r h; bad = bad_exactly s r h };
      heading_of_lem =
          λ s h.
          let is = heading_exactly limit s h in (is, ((λ e. is.0 (told_heading (heading_of s) h e)), (λ says. ap heading_told (is.1 says))));
      unheaded_number = unheaded_one_of;
      decode = decode_tells;
    }
