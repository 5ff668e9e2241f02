-- What every question asks first: whether the record is sound, and whether there is such a person or location. Assumes nothing.
use Prim.Native.Nat.{ℕ}
use mathlib.Core.Path.{◌≡◌, sym, refl, ap, ◌∙◌}
use mathlib.Core.Bool.{Bool, true, false, cond}
use Rattle.std.specs.Prelude.{Result, Ok, Err}
use Rattle.findings.specs.Told.{refused_way}
use Rattle.findings.specs.declared.WayRefused.{WayRefused}
use Rattle.findings.specs.declared.WayRefused.TheVariants as way
use Rattle.findings.specs.declared.Refused.{Refused}
use Rattle.findings.specs.declared.Refused.TheVariants.{NoSuch, Unsound}

-- what is answered where the question is refused
pub question_refused : {A B : Type 0} (sound exists : Bool) (none : B) (there : Result A Refused) {x : Result B Refused} {f : Refused}
    → x ≡ cond sound (cond exists (Ok none) (Err NoSuch)) (Err Unsound) → x ≡ Err f
    → cond sound (cond exists there (Err NoSuch)) (Err Unsound) ≡ Err f
question_refused true true none there e w = absurd (cc)
question_refused true false none there {f = f} e w = let q : Err NoSuch ≡ Err f = sym e ∙ w in cc
question_refused false exists none there e w = cc

-- the same of the question for a way out, whose refusals are others
pub refused_of_way : {B : Type 0} (sound exists : Bool) (none : B) (there : Result ℕ WayRefused) {x : Result B Refused} {f : Refused}
    → x ≡ cond sound (cond exists (Ok none) (Err NoSuch)) (Err Unsound) → x ≡ Err f
    → cond sound (cond exists there (Err way.NoSuch)) (Err way.Unsound) ≡ Err (refused_way f)
refused_of_way true true none there e w = absurd (cc)
refused_of_way true false none there {f = f} e w = let q : Err NoSuch ≡ Err f = sym e ∙ w in let r : NoSuch ≡ f = cc in ap (λ g. Err (refused_way g)) r
refused_of_way false exists none there {f = f} e w = let q : Err Unsound ≡ Err f = sym e ∙ w in let r : Unsound ≡ f = cc in ap (λ g. Err (refused_way g)) r

-- whose list then is as it was
pub kept : {A B : Type 0} (sound exists : Bool) (none : B) (there list : A) {x : Result B Refused} {f : Refused}
    → x ≡ cond sound (cond exists (Ok none) (Err NoSuch)) (Err Unsound) → x ≡ Err f
    → cond sound (cond exists there list) list ≡ list
kept true true none there list e w = absurd (cc)
kept true false none there list e w = refl
kept false exists none there list e w = refl

-- and where it isn't
pub taken : {A B : Type 0} (sound exists : Bool) (none : B) (there other short : A) {x : Result B Refused} {n : B}
    → x ≡ cond sound (cond exists (Ok none) (Err NoSuch)) (Err Unsound) → x ≡ Ok n
    → cond sound (cond exists there other) short ≡ there
taken true true none there other short e w = refl
taken true false none there other short e w = absurd (cc)
taken false exists none there other short e w = absurd (cc)
