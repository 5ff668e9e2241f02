-- The words of a steps sheet. 01, "Steps" and "Program and one whole run".
use Rattle.std.specs.Prelude.{ℕ, List, [], ◌∷◌}
use Rattle.phases.specs.declared.table.Kind.{Kind}
use Rattle.phases.specs.declared.table.Kind.TheVariants.{Card, Decide, Green, Red, Walk, Tick, Passed, Lapsed, Dark, Ack}

-- the words of a steps sheet, in bytes: the ten steps; and of its header: `step`, `door`, `person`
abbrev pub card_word : List ℕ
card_word = 99 ∷ 97 ∷ 114 ∷ 100 ∷ []

abbrev pub decide_word : List ℕ
decide_word = 100 ∷ 101 ∷ 99 ∷ 105 ∷ 100 ∷ 101 ∷ []

abbrev pub green_word : List ℕ
green_word = 103 ∷ 114 ∷ 101 ∷ 101 ∷ 110 ∷ []

abbrev pub red_word : List ℕ
red_word = 114 ∷ 101 ∷ 100 ∷ []

abbrev pub walk_word : List ℕ
walk_word = 119 ∷ 97 ∷ 108 ∷ 107 ∷ []

abbrev pub tick_word : List ℕ
tick_word = 116 ∷ 105 ∷ 99 ∷ 107 ∷ []

abbrev pub passed_word : List ℕ
passed_word = 112 ∷ 97 ∷ 115 ∷ 115 ∷ 101 ∷ 100 ∷ []

abbrev pub lapsed_word : List ℕ
lapsed_word = 108 ∷ 97 ∷ 112 ∷ 115 ∷ 101 ∷ 100 ∷ []

abbrev pub dark_word : List ℕ
dark_word = 100 ∷ 97 ∷ 114 ∷ 107 ∷ []

abbrev pub ack_word : List ℕ
ack_word = 97 ∷ 99 ∷ 107 ∷ []

abbrev pub step_head : List ℕ
step_head = 115 ∷ 116 ∷ 101 ∷ 112 ∷ []

abbrev pub door_head : List ℕ
door_head = 100 ∷ 111 ∷ 111 ∷ 114 ∷ []

abbrev pub person_head : List ℕ
person_head = 112 ∷ 101 ∷ 114 ∷ 115 ∷ 111 ∷ 110 ∷ []

-- the ten steps in the paper's order
abbrev pub step_words : List (List ℕ)
step_words =
    card_word ∷ decide_word ∷ green_word ∷ red_word ∷ walk_word ∷ tick_word ∷ passed_word ∷ lapsed_word ∷ dark_word ∷ ack_word ∷ []

-- the word of each step
pub data StepWord : Kind → List ℕ → Type 0 where
  card : StepWord Card card_word
  decide : StepWord Decide decide_word
  green : StepWord Green green_word
  red : StepWord Red red_word
  walk : StepWord Walk walk_word
  tick : StepWord Tick tick_word
  passed : StepWord Passed passed_word
  lapsed : StepWord Lapsed lapsed_word
  dark : StepWord Dark dark_word
  ack : StepWord Ack ack_word
