-- The ten steps: each is the one that its number names, and none but `card` names a person.
-- Assumes nothing.
use mathlib.Core.Path.{◌≡◌, refl}
use mathlib.Core.Bool.{false}
use Rattle.phases.specs.declared.table.Kind.{Kind}
use Rattle.phases.specs.declared.table.Kind.TheVariants.{Card, Decide, Green, Red, Walk, Tick, Passed, Lapsed, Dark, Ack, Unknown}
use Rattle.phases.specs.Kinds.{kind_of, number_of_kind, names_person}

pub kind_back : (k : Kind) → kind_of (number_of_kind k) ≡ k
unfolding kind_of
kind_back Card = refl
kind_back Decide = refl
kind_back Green = refl
kind_back Red = refl
kind_back Walk = refl
kind_back Tick = refl
kind_back Passed = refl
kind_back Lapsed = refl
kind_back Dark = refl
kind_back Ack = refl
kind_back Unknown = refl

-- every step but `card` names no person
pub others_name_none : (k : Kind) → (k ≡ Card → ⊥) → names_person k ≡ false
others_name_none Card ne = absurd (ne refl)
others_name_none Decide ne = refl
others_name_none Green ne = refl
others_name_none Red ne = refl
others_name_none Walk ne = refl
others_name_none Tick ne = refl
others_name_none Passed ne = refl
others_name_none Lapsed ne = refl
others_name_none Dark ne = refl
others_name_none Ack ne = refl
others_name_none Unknown ne = refl
