-- What is handed out with a verdict says what the verdict is. Assumes nothing.
use mathlib.Core.Path.{◌≡◌, refl}
use native.Mathlib.Omega.{arith}
use Rattle.std.specs.Prelude.{Ok, Err}
use Rattle.verdict.specs.declared.SiteRefused.{SiteRefused}
use Rattle.verdict.specs.declared.SiteRefused.TheVariants as refused
use Rattle.verdict.specs.Verdict.{Verdict, Accepted, TooLong, BadRow, OutOfRange, Twice, NoSite, NoExit, Stray, NoDoor, NoRight, ShutOut, said_of, if_accepted}
use Rattle.verdict.specs.Numbers.{verdict_no, site_refused_no}
use Rattle.numbers.specs.Told.{told_no}

-- the number of what is handed out, or of the refusal, is the verdict's
pub verdict_number_told : {A : Type 0} (v : Verdict) (there : A) → told_no site_refused_no (if_accepted v there) ≡ verdict_no v
verdict_number_told Accepted there = refl
verdict_number_told TooLong there = refl
verdict_number_told (BadRow n) there = refl
verdict_number_told (OutOfRange n) there = refl
verdict_number_told (Twice n) there = refl
verdict_number_told NoSite there = refl
verdict_number_told (NoExit l) there = refl
verdict_number_told (Stray l) there = refl
verdict_number_told (NoDoor l) there = refl
verdict_number_told (NoRight p l) there = refl
verdict_number_told (ShutOut p) there = refl

-- something is handed out only where the sheet is accepted
pub accepted_told : {A : Type 0} (v : Verdict) (there : A) {x : A} → Ok x ≡ if_accepted v there → (v ≡ Accepted) × (there ≡ x)
accepted_told Accepted there e = (refl, cc)
accepted_told TooLong there e = absurd (cc)
accepted_told (BadRow n) there e = absurd (cc)
accepted_told (OutOfRange n) there e = absurd (cc)
accepted_told (Twice n) there e = absurd (cc)
accepted_told NoSite there e = absurd (cc)
accepted_told (NoExit l) there e = absurd (cc)
accepted_told (Stray l) there e = absurd (cc)
accepted_told (NoDoor l) there e = absurd (cc)
accepted_told (NoRight p l) there e = absurd (cc)
accepted_told (ShutOut p) there e = absurd (cc)

-- a refusal is the verdict that was said
pub refused_told : {A : Type 0} (v : Verdict) (there : A) {f : SiteRefused} → Err f ≡ if_accepted v there → v ≡ said_of f
refused_told Accepted there e = absurd (cc)
refused_told TooLong there {f} e = let q : f ≡ refused.TooLong = cc in rw q
refused_told (BadRow n) there {f} e = let q : f ≡ refused.BadRow n = cc in rw q
refused_told (OutOfRange n) there {f} e = let q : f ≡ refused.OutOfRange n = cc in rw q
refused_told (Twice n) there {f} e = let q : f ≡ refused.Twice n = cc in rw q
refused_told NoSite there {f} e = let q : f ≡ refused.NoSite = cc in rw q
refused_told (NoExit l) there {f} e = let q : f ≡ refused.NoExit l = cc in rw q
refused_told (Stray l) there {f} e = let q : f ≡ refused.Stray l = cc in rw q
refused_told (NoDoor l) there {f} e = let q : f ≡ refused.NoDoor l = cc in rw q
refused_told (NoRight p l) there {f} e = let q : f ≡ refused.NoRight p l = cc in rw q
refused_told (ShutOut p) there {f} e = let q : f ≡ refused.ShutOut p = cc in rw q

-- and a verdict that is said of a refusal is told as that refusal
pub said_refused : {A : Type 0} (f : SiteRefused) (there : A) → if_accepted (said_of f) there ≡ Err f
said_refused refused.TooLong there = refl
said_refused (refused.BadRow n) there = refl
said_refused (refused.OutOfRange n) there = refl
said_refused (refused.Twice n) there = refl
said_refused refused.NoSite there = refl
said_refused (refused.NoExit l) there = refl
said_refused (refused.Stray l) there = refl
said_refused (refused.NoDoor l) there = refl
said_refused (refused.NoRight p l) there = refl
said_refused (refused.ShutOut p) there = refl

-- no refusal has the number of what is done
pub refused_not_done : (f : SiteRefused) → site_refused_no f ≡ 0 → ⊥
refused_not_done refused.TooLong e = omega arith
refused_not_done (refused.BadRow n) e = omega arith
refused_not_done (refused.OutOfRange n) e = omega arith
refused_not_done (refused.Twice n) e = omega arith
refused_not_done refused.NoSite e = omega arith
refused_not_done (refused.NoExit l) e = omega arith
refused_not_done (refused.Stray l) e = omega arith
refused_not_done (refused.NoDoor l) e = omega arith
refused_not_done (refused.NoRight p l) e = omega arith
refused_not_done (refused.ShutOut p) e = omega arith
