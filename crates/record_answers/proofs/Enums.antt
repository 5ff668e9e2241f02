-- The enum answers by the papers' numbers and values: each variant by itself. Assumes nothing.
use mathlib.Core.Path.{◌≡◌, refl}
use mathlib.Core.List.{[], ◌∷◌}
use mathlib.Core.Logic.{inl, inr}
use Rattle.std.specs.Prelude.{ℕ, None, Result, Ok, Err, Option}
use Rattle.numbers.specs.Numbers.{done_no, no_such_no, too_short_no, unsound_no}
use Rattle.findings.specs.Told.{way_told_no, way_told_length, place_told, place_no, grant_told, grant_no, length_told, way_no}
use Rattle.findings.specs.Told.{refused_no, way_refused_no, refused_way}
use Rattle.findings.specs.declared.WayRefused.{WayRefused}
use Rattle.findings.specs.declared.WayRefused.TheVariants as way
use Rattle.findings.specs.declared.Refused.{Refused}
use Rattle.findings.specs.declared.Refused.TheVariants as no
use Rattle.numbers.specs.Telling.{OneOf}
use Rattle.record_answers.specs.Enums.{EnumAnswers, EnumUnique}
use Rattle.numbers.proofs.Alone.{alone}
use Rattle.findings.specs.declared.TooShort.{TooShort}

way_told_number : (w : Result ℕ TooShort) → OneOf (done_no ∷ too_short_no ∷ []) (way_told_no w)
way_told_number (Ok n) = inl refl
way_told_number (Err short) = inr (inl refl)

way_told_length_lem : (w : Result ℕ TooShort) → (way_told_no w ≡ done_no → ⊥) → way_told_length w ≡ 0
way_told_length_lem (Ok n) refused = absurd (refused refl)
way_told_length_lem (Err short) refused = refl

place_number : (a : Result ℕ Refused) → OneOf (done_no ∷ no_such_no ∷ unsound_no ∷ []) (place_no a)
place_number (Ok l) = inl refl
place_number (Err no.NoSuch) = inr (inl refl)
place_number (Err no.Unsound) = inr (inr (inl refl))

place_place : (a : Result ℕ Refused) → (place_no a ≡ done_no → ⊥) → place_told a ≡ 0
place_place (Ok l) refused = absurd (refused refl)
place_place (Err no.NoSuch) refused = refl
place_place (Err no.Unsound) refused = refl

grant_number : (a : Result (Option ℕ) Refused) → OneOf (done_no ∷ no_such_no ∷ unsound_no ∷ []) (grant_no a)
grant_number (Ok door) = inl refl
grant_number (Err no.NoSuch) = inr (inl refl)
grant_number (Err no.Unsound) = inr (inr (inl refl))

grant_door : (a : Result (Option ℕ) Refused) → (grant_no a ≡ done_no → ⊥) → grant_told a ≡ None
grant_door (Ok door) refused = absurd (refused refl)
grant_door (Err no.NoSuch) refused = refl
grant_door (Err no.Unsound) refused = refl

way_number : (a : Result ℕ WayRefused) → OneOf (done_no ∷ no_such_no ∷ too_short_no ∷ unsound_no ∷ []) (way_no a)
way_number (Ok n) = inl refl
way_number (Err way.NoSuch) = inr (inl refl)
way_number (Err way.TooShort) = inr (inr (inl refl))
way_number (Err way.Unsound) = inr (inr (inr (inl refl)))

way_length : (a : Result ℕ WayRefused) → (way_no a ≡ done_no → ⊥) → length_told a ≡ 0
way_length (Ok n) refused = absurd (refused refl)
way_length (Err way.NoSuch) refused = refl
way_length (Err way.TooShort) refused = refl
way_length (Err way.Unsound) refused = refl

way_refused : (f : Refused) → way_refused_no (refused_way f) ≡ refused_no f
way_refused no.NoSuch = refl
way_refused no.Unsound = refl

pub of_enums : EnumAnswers
of_enums =
    record {
      way_told_number = way_told_number;
      way_told_length_lem = way_told_length_lem;
      place_answer_number = place_number;
      place_answer_place = place_place;
      grant_answer_number = grant_number;
      grant_answer_door = grant_door;
      way_answer_number = way_number;
      way_answer_length = way_length;
      way_refused_from = (way_refused, λ short. refl);
    }

pub enums_unique : EnumUnique
enums_unique =
    record {
      way_told_number = λ w. alone;
      way_told_length_lem = λ w. alone;
      place_answer_number = λ a. alone;
      place_answer_place = λ a. alone;
      grant_answer_number = λ a. alone;
      grant_answer_door = λ a. alone;
      way_answer_number = λ a. alone;
      way_answer_length = λ a. alone;
      way_refused_from = ((λ f. alone), (λ short. alone));
    }
