-- The enum answers of a way out and of the questions, by the papers' numbers and values: what demand 1 says of the functions that
-- give them, and that each has one answer. 01: "A refused question tells its number, and 0 or none for all else."
use Rattle.std.specs.Prelude.{ℕ, ◌≡◌, [], ◌∷◌, Option, None, Result}
use Rattle.numbers.specs.Numbers.{done_no, no_such_no, too_short_no, unsound_no}
use Rattle.findings.specs.Told.{way_told_no, way_told_length, place_told, place_no, grant_told, grant_no, length_told, way_no}
use Rattle.findings.specs.Told.{short_no, refused_no, way_refused_no, refused_way, short_way}
use Rattle.findings.specs.declared.WayRefused.{WayRefused}
use Rattle.findings.specs.declared.Refused.{Refused}
use Rattle.numbers.specs.Telling.{OneOf, Unique}
use Rattle.findings.specs.declared.TooShort.{TooShort}

pub record EnumAnswers : Type 0 where
  pub way_told_number : (w : Result ℕ TooShort) → OneOf (done_no ∷ too_short_no ∷ []) (way_told_no w)
  pub way_told_length_lem : (w : Result ℕ TooShort) → (way_told_no w ≡ done_no → ⊥) → way_told_length w ≡ 0
  pub place_answer_number : (a : Result ℕ Refused) → OneOf (done_no ∷ no_such_no ∷ unsound_no ∷ []) (place_no a)
  pub place_answer_place : (a : Result ℕ Refused) → (place_no a ≡ done_no → ⊥) → place_told a ≡ 0
  pub grant_answer_number : (a : Result (Option ℕ) Refused) → OneOf (done_no ∷ no_such_no ∷ unsound_no ∷ []) (grant_no a)
  pub grant_answer_door : (a : Result (Option ℕ) Refused) → (grant_no a ≡ done_no → ⊥) → grant_told a ≡ None
  pub way_answer_number : (a : Result ℕ WayRefused) → OneOf (done_no ∷ no_such_no ∷ too_short_no ∷ unsound_no ∷ []) (way_no a)
  pub way_answer_length : (a : Result ℕ WayRefused) → (way_no a ≡ done_no → ⊥) → length_told a ≡ 0
  -- a refusal that becomes one of the question for a way out keeps its number
  pub way_refused_from : ((f : Refused) → way_refused_no (refused_way f) ≡ refused_no f) × ((short : TooShort) → way_refused_no (short_way short) ≡ short_no short)

pub record EnumUnique : Type 0 where
  pub way_told_number : (w : Result ℕ TooShort) → Unique (λ (x : ℕ). x ≡ way_told_no w)
  pub way_told_length_lem : (w : Result ℕ TooShort) → Unique (λ (x : ℕ). x ≡ way_told_length w)
  pub place_answer_number : (a : Result ℕ Refused) → Unique (λ (x : ℕ). x ≡ place_no a)
  pub place_answer_place : (a : Result ℕ Refused) → Unique (λ (x : ℕ). x ≡ place_told a)
  pub grant_answer_number : (a : Result (Option ℕ) Refused) → Unique (λ (x : ℕ). x ≡ grant_no a)
  pub grant_answer_door : (a : Result (Option ℕ) Refused) → Unique (λ (x : Option ℕ). x ≡ grant_told a)
  pub way_answer_number : (a : Result ℕ WayRefused) → Unique (λ (x : ℕ). x ≡ way_no a)
  pub way_answer_length : (a : Result ℕ WayRefused) → Unique (λ (x : ℕ). x ≡ length_told a)
  pub way_refused_from : ((f : Refused) → Unique (λ (x : WayRefused). x ≡ refused_way f)) × ((short : TooShort) → Unique (λ (x : WayRefused). x ≡ short_way short))
