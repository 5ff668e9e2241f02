-- What the test of one door's fields tells. Assumes nothing.
use Prim.Native.Nat.{ℕ, ◌≤◌, ◌<◌}
use mathlib.Core.Path.{◌≡◌}
use mathlib.Core.Bool.{true}
use Rattle.tables.specs.Below.{Tells}
use Rattle.tables.proofs.Laws.{tell_and, tell_cond, tell_eq, tell_le, tell_lt}
use Rattle.phases.specs.Phase.{closed, keeps, least_count, most_count}
use Rattle.door.specs.declared.Door.{Door}
use Rattle.door_fits.specs.Fits.{holder_fits, fields_fit}

abbrev pub FieldsOk : ℕ → Door → Type 0
FieldsOk people c =
    (c.phase ≤ closed)
    × (((keeps c.phase ≡ true → c.holder < people) × ((keeps c.phase ≡ true → ⊥) → c.holder ≡ 0))
    × ((least_count c.phase ≤ c.count) × (c.count ≤ most_count c.phase)))

pub tell_fields : (people : ℕ) (c : Door) → Tells (fields_fit people c) (FieldsOk people c)
unfolding fields_fit holder_fits
tell_fields people c =
    tell_and (tell_le c.phase closed)
    (tell_and (tell_cond (keeps c.phase) (λ e. e) (λ e. e) (tell_lt c.holder people) (tell_eq c.holder 0))
    (tell_and (tell_le (least_count c.phase) c.count) (tell_le c.count (most_count c.phase))))
