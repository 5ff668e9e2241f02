-- The step that a field names is the one whose word is the first in the table that it is. Assumes nothing.
use Prim.Native.Nat.{ℕ, ◌+◌}
use native.Mathlib.Omega.{arith}
use mathlib.Core.Path.{◌≡◌, refl, sym, ap, ◌∙◌}
use mathlib.Core.Bool.{Bool, true, false, cond, not}
use mathlib.Core.List.{List, [], ◌∷◌, map}
use lib.ListN.{length, length-map}
use lib.Dec.{ltb}
use denote.Ref.{Bor}
use borrow.Author.Tests.{ltb-false}
use Rattle.std.specs.Prelude.{Option, Some, None}
use Rattle.std.specs.List.{position_or_len}
use Rattle.std.proofs.lemmas.List.Sums.{prefix_len-le-length}
use Rattle.grammar.specs.declared.cut.Cell.{Cell}
use Rattle.cell_meaning.specs.Say.{is_word, named_from}
use Rattle.cell_meaning.proofs.Naming.{name_here, name_on, name_none}
use Rattle.phases.specs.declared.table.Kind.{Kind}
use Rattle.phases.specs.declared.table.Kind.TheVariants.{Unknown}
use Rattle.phases.specs.Kinds.{kind_of}
use Rattle.steps_sheet.specs.Words.{step_words}
use Rattle.steps_sheet.specs.Steps.{kind_at}

module _ (s : List ℕ) (cell : Cell) where
  -- the first word of a table that the field is
  abbrev pub first_of : List (Bor (List ℕ)) → ℕ
  first_of words = position_or_len (λ w. is_word s cell w.now) words

  abbrev listed : List (Bor (List ℕ)) → List (List ℕ)
  listed words = map (λ w. w.now) words

  named_at : (f : ℕ → Kind) (n : ℕ) (words : List (Bor (List ℕ))) → f (n + first_of words) ≡ named_from f n (listed words) s cell
  named_at f n [] = name_none f n s cell _ (ap f (omega arith))
  named_at f n (w ∷ words) = go (is_word s cell w.now) refl (named_at f (n + 1) words)
    where
      go : (q : Bool) → is_word s cell w.now ≡ q → f (n + 1 + first_of words) ≡ named_from f (n + 1) (listed words) s cell
          → f (n + first_of (w ∷ words)) ≡ named_from f n (listed (w ∷ words)) s cell
      go true q rest = name_here f n s cell _ w.now (listed words) _ refl q (rw q (ap f (omega arith)))
      go false q rest = name_on f n s cell _ w.now (listed words) _ refl q (rw q (ap f (omega arith) ∙ rest))

  -- `found` is what the search for it tells
  module _ {rest words : List (Bor (List ℕ))} (is : rest ≡ words) (all : listed words ≡ step_words) {r : Option ℕ}
      (found : r ≡ cond (ltb (first_of words) (length words)) (Some (first_of words)) None) where
    named : kind_of (first_of words) ≡ kind_at s cell
    named = let e = named_at kind_of 0 words in let z : 0 + first_of words ≡ first_of words = omega arith in rw (z, all) at e

    pub kind_there : {n : ℕ} → r ≡ Some n → kind_of n ≡ kind_at s cell
    kind_there {n} e = go (ltb (first_of words) (length words)) refl
      where
        go : (q : Bool) → ltb (first_of words) (length words) ≡ q → kind_of n ≡ kind_at s cell
        go true q = let z : Some n ≡ Some (first_of words) = sym e ∙ found ∙ rw q in let same : n ≡ first_of words = cc in rw same named
        go false q = let z : Some n ≡ None = sym e ∙ found ∙ rw q in cc

    pub no_kind : r ≡ None → Unknown ≡ kind_at s cell
    unfolding kind_of
    no_kind e = go (ltb (first_of words) (length words)) refl
      where
        go : (q : Bool) → ltb (first_of words) (length words) ≡ q → Unknown ≡ kind_at s cell
        go true q = let z : None ≡ Some (first_of words) = sym e ∙ found ∙ rw q in cc
        go false q =
            let past = ltb-false _ _ q in
            let few = prefix_len-le-length (λ (w : Bor (List ℕ)). not (is_word s cell w.now)) words in
            let ten : length words ≡ 10 = sym (length-map words _) ∙ ap length all in
            let last : first_of words ≡ 10 = omega arith in
            rw last at named
