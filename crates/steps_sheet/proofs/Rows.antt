-- What a row says, worked out from its fields' contents: the cells of a row say the same, and the relation `SaysStep` too.
-- Assumes nothing.
use Prim.Native.Nat.{ℕ, zero, suc, ◌^◌, ◌<◌}
use native.Mathlib.Omega.{arith}
use mathlib.Core.Path.{◌≡◌, refl, sym, ap, ◌∙◌}
use mathlib.Core.Bool.{Bool, true, false, cond}
use mathlib.Core.List.{List, []}
use lib.ListN.{length, get_or}
use lib.Dec.{eqb}
use borrow.Author.Tests.{eq-eqb, eqb-true}
use Rattle.std.specs.Prelude.{Option, Some, None}
use Rattle.tables.proofs.Laws.{clash}
use Rattle.grammar.specs.declared.cut.Cell.{Cell}
use Rattle.grammar.specs.declared.cut.Cells.{Cells}
use Rattle.grammar.specs.Grammar.{Row, content, fields}
use Rattle.grammar.specs.Where.{holds_quote, field_of, RowHolds}
use Rattle.grammar.specs.Sizes.{width}
use Rattle.cell_meaning.specs.Say.{same_bytes, is_word, number_in, number_at, place_in}
use Rattle.cell_meaning.proofs.Saying.{same_true, proper_read, read_proper, number_small}
use Rattle.cell_meaning.proofs.Contents.{word_same, number_same}
use Rattle.cell_meaning.proofs.Naming.{NoQuotes, none, more, by_place, named_same}
use Rattle.phases.specs.declared.table.Kind.{Kind}
use Rattle.phases.specs.declared.table.Kind.TheVariants.{Card, Decide, Green, Red, Walk, Tick, Passed, Lapsed, Dark, Ack, Unknown}
use Rattle.phases.specs.declared.table.StepRow.{StepRow}
use Rattle.phases.specs.Kinds.{kind_of, names_person}
use Rattle.steps_sheet.specs.Words.{card_word, decide_word, green_word, red_word, walk_word, tick_word, passed_word, lapsed_word, dark_word, ack_word, step_words}
use Rattle.steps_sheet.specs.Words.{StepWord, card, decide, green, red, walk, tick, passed, lapsed, dark, ack}
use Rattle.steps_sheet.specs.Says.{PersonSaid, a_person, nobody, SaysStep, BadForm}
use Rattle.steps_sheet.specs.Steps.{kind_at, person_at, is_step, steps_line_of, steps_line_at}

-- every kind but the unknown is a step
pub others_are_steps : (k : Kind) → (k ≡ Unknown → ⊥) → is_step k ≡ true
others_are_steps Card ne = refl
others_are_steps Decide ne = refl
others_are_steps Green ne = refl
others_are_steps Red ne = refl
others_are_steps Walk ne = refl
others_are_steps Tick ne = refl
others_are_steps Passed ne = refl
others_are_steps Lapsed ne = refl
others_are_steps Dark ne = refl
others_are_steps Ack ne = refl
others_are_steps Unknown ne = absurd (ne refl)

-- ---- by contents

kind_in : List ℕ → Kind
kind_in c = kind_of (place_in step_words c)

person_in : Kind → List ℕ → Option ℕ
person_in kind c = cond (names_person kind) (number_in c) (cond (same_bytes c []) (Some 0) None)

pub step_from : Row → Option StepRow
step_from r =
    cond (eqb (length (fields r)) 3)
    (steps_line_of (kind_in (content (field_of 0 r))) (number_in (content (field_of 1 r))) (person_in (kind_in (content (field_of 0 r))) (content (field_of 2 r)))) None

-- ---- the cells of a row say what its contents do

step_words_lem : NoQuotes step_words
unfolding holds_quote
step_words_lem =
    (more {word = card_word} refl
    (more {word = decide_word} refl
    (more {word = green_word} refl
    (more {word = red_word} refl
    (more {word = walk_word} refl
    (more {word = tick_word} refl
    (more {word = passed_word} refl (more {word = lapsed_word} refl (more {word = dark_word} refl (more {word = ack_word} refl none))))))))))

module _ (s : List ℕ) {cells : Cells} (r : Row) (h : RowHolds s cells r) where
  kind_same : kind_at s cells.first ≡ kind_in (content (field_of 0 r))
  unfolding kind_in
  kind_same = named_same kind_of s (field_of 0 r) step_words h.first step_words_lem

  person_same : (kind : Kind) → cells.count ≡ 3 → person_at s kind cells.third ≡ person_in kind (content (field_of 2 r))
  unfolding person_at person_in holds_quote
  person_same kind n = rw (word_same s (field_of 2 r) [] (h.third (omega arith)) refl, number_same s (field_of 2 r) (h.third (omega arith)))

  pub step_line_same : steps_line_at s cells ≡ step_from r
  unfolding steps_line_at step_from
  step_line_same = rw (← h.count) (go (eqb cells.count 3) refl)
    where
      go : (q : Bool) → eqb cells.count 3 ≡ q
          → cond (eqb cells.count 3) (steps_line_of (kind_at s cells.first) (number_at s cells.second) (person_at s (kind_at s cells.first) cells.third)) None
          ≡ cond (eqb cells.count 3) (steps_line_of (kind_in (content (field_of 0 r))) (number_in (content (field_of 1 r))) (person_in (kind_in (content (field_of 0 r))) (content (field_of 2 r)))) None
      go true q =
          let n = eqb-true cells.count 3 q in
          rw (q, kind_same, number_same s (field_of 1 r) (h.second (omega arith)), person_same (kind_in (content (field_of 0 r))) n)
      go false q = rw q

-- ---- and so does the relation

-- the kind of a content is the step whose word it is
kind_word : (c : List ℕ) → is_step (kind_in c) ≡ true → StepWord (kind_in c) c
unfolding kind_in kind_of
kind_word c = by_place (λ (n : ℕ). is_step (kind_of n) ≡ true → StepWord (kind_of n) c) step_words c known (λ other no. clash no refl)
  where
    known : (n : ℕ) → n < length step_words → c ≡ get_or step_words n [] → is_step (kind_of n) ≡ true → StepWord (kind_of n) c
    known zero l e is = rw e card
    known (suc zero) l e is = rw e decide
    known (suc (suc zero)) l e is = rw e green
    known (suc (suc (suc zero))) l e is = rw e red
    known (suc (suc (suc (suc zero)))) l e is = rw e walk
    known (suc (suc (suc (suc (suc zero))))) l e is = rw e tick
    known (suc (suc (suc (suc (suc (suc zero)))))) l e is = rw e passed
    known (suc (suc (suc (suc (suc (suc (suc zero))))))) l e is = rw e lapsed
    known (suc (suc (suc (suc (suc (suc (suc (suc zero)))))))) l e is = rw e dark
    known (suc (suc (suc (suc (suc (suc (suc (suc (suc zero))))))))) l e is = rw e ack
    known (suc (suc (suc (suc (suc (suc (suc (suc (suc (suc n)))))))))) l e is = absurd (omega arith)

word_kind : {k : Kind} {c : List ℕ} → StepWord k c → (kind_in c ≡ k) × (is_step k ≡ true)
unfolding kind_in kind_of place_in same_bytes
word_kind card = (refl, refl)
word_kind decide = (refl, refl)
word_kind green = (refl, refl)
word_kind red = (refl, refl)
word_kind walk = (refl, refl)
word_kind tick = (refl, refl)
word_kind passed = (refl, refl)
word_kind lapsed = (refl, refl)
word_kind dark = (refl, refl)
word_kind ack = (refl, refl)

person_told : (k : Kind) (c : List ℕ) {p : ℕ} → person_in k c ≡ Some p → PersonSaid k c p
unfolding person_in
person_told k c {p} e = go (names_person k) refl (same_bytes c []) refl
  where
    go : (q : Bool) → names_person k ≡ q → (w : Bool) → same_bytes c [] ≡ w → PersonSaid k c p
    go true q w v = a_person q (read_proper c (rw q at e))
    go false q true v =
        let z : Some 0 ≡ Some p = rw (q, v) at e in
        let y : 0 ≡ p = cc in
        rw (same_true c [] v, ← y) (nobody q)
    go false q false v = let z : None ≡ Some p = rw (q, v) at e in cc

told_person : {k : Kind} {c : List ℕ} {p : ℕ} → PersonSaid k c p → person_in k c ≡ Some p
unfolding person_in same_bytes
told_person {k} {c} (a_person q n) = rw q (proper_read c n)
told_person (nobody q) = rw q

-- what a row says is one of the ten steps
pub said_is_step : {r : Row} {step : StepRow} → SaysStep r step → is_step step.kind ≡ true
said_is_step says = (word_kind says.word).1

module _ (r : Row) where
  -- a row that is a step says it
  pub says_line : {step : StepRow} → SaysStep r step → step_from r ≡ Some step
  unfolding step_from
  says_line h =
      let w = word_kind h.word in
      rw (eq-eqb _ 3 h.three, w.0, proper_read _ h.door, told_person h.person_said, w.1)

  -- and a row that says a step is one
  pub line_says : {step : StepRow} → step_from r ≡ Some step → SaysStep r step
  unfolding step_from
  line_says {step} e =
      go (eqb (length (fields r)) 3) refl (number_in (content (field_of 1 r))) refl (person_in (kind_in (content (field_of 0 r))) (content (field_of 2 r))) refl
      (is_step (kind_in (content (field_of 0 r)))) refl
    where
      go : (q : Bool) → eqb (length (fields r)) 3 ≡ q → (x : Option ℕ) → number_in (content (field_of 1 r)) ≡ x
          → (y : Option ℕ) → person_in (kind_in (content (field_of 0 r))) (content (field_of 2 r)) ≡ y
          → (u : Bool) → is_step (kind_in (content (field_of 0 r))) ≡ u → SaysStep r step
      go false q x m y n u v = let z : None ≡ Some step = rw q at e in cc
      go true q None m y n u v = let z : None ≡ Some step = rw (q, m) at e in cc
      go true q (Some x) m None n u v = let z : None ≡ Some step = rw (q, m, n) at e in cc
      go true q (Some x) m (Some y) n false v = let z : None ≡ Some step = rw (q, m, n, v) at e in cc
      go true q (Some x) m (Some y) n true v =
          let said : StepRow = record { kind = kind_in (content (field_of 0 r)); at = x; person = y } in
          let z : Some said ≡ Some step = rw (q, m, n, v) at e in
          let same : said ≡ step = cc in
          let zk : kind_in (content (field_of 0 r)) ≡ step.kind = ap (λ (t : StepRow). t.kind) same in
          let zd : x ≡ step.at = ap (λ (t : StepRow). t.at) same in
          let zp : y ≡ step.person = ap (λ (t : StepRow). t.person) same in
          record {
            three = eqb-true _ 3 q;
            word = rw zk at (kind_word (content (field_of 0 r)) v);
            door = read_proper _ (rw zd at m);
            person_said = person_told step.kind _ (rw (zk, zp) at n);
          }

  -- a row of bad form says so, and no other
  pub bad_line : BadForm r → step_from r ≡ None
  bad_line bad = go (step_from r) refl
    where
      go : (line : Option StepRow) → step_from r ≡ line → line ≡ None
      go (Some step) e = absurd (bad step (line_says e))
      go None e = refl

  pub line_bad : step_from r ≡ None → BadForm r
  line_bad e step h = let z : None ≡ Some step = sym e ∙ says_line h in cc

-- a person that is told is a small number, as every number is
pub person_small : (s : List ℕ) (kind : Kind) (cell : Cell) {n : ℕ} → person_at s kind cell ≡ Some n → n < 10 ^ width
unfolding person_at
person_small s kind cell {n} e = go (names_person kind) refl (is_word s cell []) refl
  where
    go : (q : Bool) → names_person kind ≡ q → (w : Bool) → is_word s cell [] ≡ w → n < 10 ^ width
    go true q w v = number_small s cell (rw q at e)
    go false q true v = let z : Some 0 ≡ Some n = rw (q, v) at e in let y : 0 ≡ n = cc in omega arith
    go false q false v = let z : None ≡ Some n = rw (q, v) at e in cc
