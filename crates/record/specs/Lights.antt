-- What a list of steps does to a light. Of 01's "A green door that gets neither another `green` nor a `walk` is expired after exactly
-- as many of its own ticks as its countdown says" only the `walk` is left: another `green` is refused (02, C-13).
use Rattle.std.specs.Prelude.{ℕ, suc, ◌≡◌, Bool, true, false, cond, List, [], ◌∷◌, eqb}
use Rattle.tables.specs.Tables.{and_also}
use Rattle.phases.specs.declared.table.Kind.{Kind}
use Rattle.phases.specs.declared.table.Kind.TheVariants.{Card, Decide, Green, Red, Walk, Tick, Passed, Lapsed, Dark, Ack, Unknown}
use Rattle.phases.specs.declared.table.StepRow.{StepRow}

unfoldable pub is_tick : Kind → Bool
is_tick Card = false
is_tick Decide = false
is_tick Green = false
is_tick Red = false
is_tick Walk = false
is_tick Tick = true
is_tick Passed = false
is_tick Lapsed = false
is_tick Dark = false
is_tick Ack = false
is_tick Unknown = false

-- how many ticks of door d are in the list
unfoldable pub ticks : ℕ → List StepRow → ℕ
ticks d [] = 0
ticks d (row ∷ rows) = cond (and_also (eqb row.at d) (is_tick row.kind)) (suc (ticks d rows)) (ticks d rows)

-- every member of the list is so
pub data Each {A : Type 0} (So : A → Type 0) : List A → Type 0 where
  end : Each So []
  step : {one : A} {more : List A} → So one → Each So more → Each So (one ∷ more)

-- the step is no `walk` at door d
abbrev pub NoWalk : ℕ → StepRow → Type 0
NoWalk d row = row.at ≡ d → row.kind ≡ Walk → ⊥
