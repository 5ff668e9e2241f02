-- Demand 1 of grants, reasons and the soundness of lent lists; what it says is in `specs/Answers.antt`. Assumes nothing.
use Prim.Native.Nat.{ℕ}
use mathlib.Core.Path.{◌≡◌, subst}
use mathlib.Core.Bool.{Bool}
use mathlib.Core.List.{List}
use mathlib.Core.Logic.{◌↔◌}
use borrow.Author.Tests.{ne_eqb}
use Rattle.std.specs.Prelude.{Some, None}
use Rattle.tables.specs.Tables.{Plan}
use Rattle.tables.specs.Below.{Tells}
use Rattle.granting.specs.Grants.{GrantAt, grant_of, has_grant}
use Rattle.granting.specs.Reasons.{first_reason, held_with}
use Rattle.phases.specs.Answers.{reason_busy}
use Rattle.soundness.specs.SoundTest.{lists_sound}
use Rattle.granting.proofs.Granting.{found_grant, found_first, first_found, no_grant, no_door}
use Rattle.sole_grants.proofs.Sole.{sole_tells}
use Rattle.record.specs.Doors.{record_of, Shaped}
use Rattle.record.specs.Sound.{Sound}
use Rattle.record.specs.SoundTest.{sound_b}
use Rattle.record.specs.Steps.{First}
use Rattle.record.proofs.Tells.{sound_tells}
use Rattle.record.proofs.Right.{reason_first, reason_only}
use Rattle.record_answers.specs.Answers.{FirstGrant, SoundAnswers}

reason_told_lem : (site : Plan) (right : List Bool) (place phase holder count : List ℕ) (d p n : ℕ)
    → (first_reason site right place phase holder d p ≡ n) ↔ First (record_of site right place phase holder count) d p n
reason_told_lem site right place phase holder count d p n =
    let r = record_of site right place phase holder count in
    ((λ e. subst (First r d p) e (reason_first r d p)), reason_only r d p n)

grant_told_lem : (n : ℕ) (phase holder : List ℕ) (p : ℕ)
    → ((d : ℕ) → (grant_of n phase holder p ≡ Some d) ↔ FirstGrant n phase holder p d)
    × ((grant_of n phase holder p ≡ None) ↔ ((d : ℕ) → GrantAt n phase holder p d → ⊥))
unfolding has_grant
grant_told_lem n phase holder p = (
  (λ d. ((λ e. record { grant = found_grant n phase holder p d e; before = found_first n phase holder p d e }), λ f. first_found n phase holder p d f.grant f.before)),
  ((λ e. no_grant n phase holder p (rw e)), no_door n phase holder p),
)

held_told_lem : (why n : ℕ) (phase holder : List ℕ) (p : ℕ)
    → ((d : ℕ) → FirstGrant n phase holder p d → held_with reason_busy n phase holder p ≡ d)
    × (((d : ℕ) → GrantAt n phase holder p d → ⊥) → held_with reason_busy n phase holder p ≡ 0)
    × ((why ≡ reason_busy → ⊥) → held_with why n phase holder p ≡ 0)
unfolding held_with
held_told_lem why n phase holder p = (
  (λ d f. rw (first_found n phase holder p d f.grant f.before)),
  (λ none. rw (no_door n phase holder p none)),
  λ other. rw (ne_eqb why reason_busy other),
)

lists_tell : (site : Plan) (right : List Bool) (place phase holder count : List ℕ) → Shaped (record_of site right place phase holder count)
    → Tells (lists_sound site right place phase holder count) (Sound (record_of site right place phase holder count))
unfolding sound_b
lists_tell site right place phase holder count sh = sound_tells (record_of site right place phase holder count) sh

pub of_sound : SoundAnswers
of_sound =
    record { grant_of_lem = grant_told_lem; first_reason_lem = reason_told_lem; held_with_lem = held_told_lem; sole_grants_lem = sole_tells; lists_sound_lem = lists_tell }
