-- The number that `number` gives of a `Result` is the paper's number of what is told. Assumes nothing.
use Prim.Native.Nat.{ℕ}
use mathlib.Core.Path.{◌≡◌, refl}
use Rattle.std.specs.Prelude.{Option, Result}
use Rattle.numbers.specs.Told.{told_no}
use Rattle.findings.specs.declared.TooShort.{TooShort}
use Rattle.findings.specs.declared.Refused.{Refused}
use Rattle.findings.specs.declared.WayRefused.{WayRefused}
use Rattle.findings.specs.Told.{short_no, way_told_no, printed_no, refused_no, place_no, grant_no, way_refused_no, way_no}

pub printed_number : (p : Result ℕ TooShort) → told_no short_no p ≡ printed_no p
printed_number p = refl

pub way_told_number : (w : Result ℕ TooShort) → told_no short_no w ≡ way_told_no w
way_told_number w = refl

pub place_number : (a : Result ℕ Refused) → told_no refused_no a ≡ place_no a
place_number a = refl

pub grant_number : (a : Result (Option ℕ) Refused) → told_no refused_no a ≡ grant_no a
grant_number a = refl

pub way_number : (a : Result ℕ WayRefused) → told_no way_refused_no a ≡ way_no a
way_number a = refl
