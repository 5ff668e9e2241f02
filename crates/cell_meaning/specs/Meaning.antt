-- What the theorems of proofs/Theorems.antt say of words, in terms of the grammar alone.
use Rattle.std.specs.Prelude.{ℕ, ◌<◌, ◌≡◌, List, [], length, get_or}
use Rattle.grammar.specs.Grammar.{Row, content, fields}
use Rattle.grammar.specs.Where.{field_of}

-- a row of three fields with these contents
pub record Threefold (r : Row) (first second third : List ℕ) : Type 0 where
  pub three : length (fields r) ≡ 3
  pub first_is : content (field_of 0 r) ≡ first
  pub second_is : content (field_of 1 r) ≡ second
  pub third_is : content (field_of 2 r) ≡ third

-- a content is the word at a place, and no word before it
pub record WordAt (words : List (List ℕ)) (c : List ℕ) (n : ℕ) : Type 0 where
  pub is : c ≡ get_or words n []
  pub none_before : (k : ℕ) → k < n → c ≡ get_or words k [] → ⊥
