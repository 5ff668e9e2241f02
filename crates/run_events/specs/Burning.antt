-- How long a light burns, by what a run tells alone: "Prove that between a grant's `green` and the step that ends its phase 3 lie at most
-- 300 ticks of that door" (02, C-13). Of a step this needs its row, its answer and the phase told, and nothing of the record's inside. So
-- whoever has a steps sheet and the rows printed of it can count the ticks.
use Rattle.std.specs.Prelude.{ℕ, ◌≤◌, ◌<◌, ◌≡◌, List, [], ◌∷◌, ◌++◌}
use Rattle.phases.specs.declared.table.Kind.{Kind}
use Rattle.phases.specs.declared.table.Kind.TheVariants.{Green, Red, Walk, Tick}
use Rattle.phases.specs.Phase.{green, red, green_span, red_span}
use Rattle.record.specs.Lights.{ticks, Each}
use Rattle.run_events.specs.Lines.{Line, rows_heard}

-- the line of a step at door d that was done
pub record ActsAt (d : ℕ) (line : Line) : Type 0 where
  pub here : line.row.at ≡ d
  pub done : line.reply.answer ≡ 0

-- .. and is this order
pub record Orders (d : ℕ) (order : Kind) (line : Line) : Type 0 where
  pub acts : ActsAt d line
  pub step : line.row.kind ≡ order

-- .. and left the door in another phase than this one
pub record EndsPhase (d phase : ℕ) (line : Line) : Type 0 where
  pub acts : ActsAt d line
  pub other : line.reply.phase ≡ phase → ⊥

-- a light of door d, ordered in one of these lines, that still burns after the last: no line since has ended its phase
pub record StillLit (d : ℕ) (order : Kind) (phase : ℕ) (lines : List Line) : Type 0 where
  pub before : List Line
  pub ordered : Line
  pub since : List Line
  pub split : lines ≡ before ++ (ordered ∷ since)
  pub orders : Orders d order ordered
  pub burns : Each (λ line. EndsPhase d phase line → ⊥) since

-- a light of door d that burned up to one of these lines, which ends its phase
pub record WentOut (d : ℕ) (order : Kind) (phase : ℕ) (lines : List Line) : Type 0 where
  pub until : List Line
  pub ending : Line
  pub after : List Line
  pub split : lines ≡ until ++ (ending ∷ after)
  pub lit : StillLit d order phase until
  pub ends : EndsPhase d phase ending

-- a step at door d that was done is a tick
abbrev pub OnlyTicks : ℕ → Line → Type 0
OnlyTicks d line = ActsAt d line → line.row.kind ≡ Tick

-- how many ticks of door d are in the lines
abbrev pub ticks_in : ℕ → List Line → ℕ
ticks_in d lines = ticks d (rows_heard lines)

-- the ticks of its door from the order of a light on, with the step that ends its phase
abbrev pub burned : {d : ℕ} {order : Kind} {phase : ℕ} {lines : List Line} → WentOut d order phase lines → ℕ
burned {d} w = ticks_in d (w.lit.since ++ (w.ending ∷ []))

-- of the lines of a run
pub record LightsTold (lines : List Line) : Type 0 where
  -- "between a grant's `green` and the step that ends its phase 3 lie at most 300 ticks of that door", ..
  pub green_at_most : {d : ℕ} (w : WentOut d Green green lines) → burned w ≤ green_span
  -- .. just 300 where that step is no `walk`, ..
  pub green_exactly : {d : ℕ} (w : WentOut d Green green lines) → (w.ending.row.kind ≡ Walk → ⊥) → burned w ≡ green_span
  -- .. and as long as there was no such step, fewer; and till then no step at that door was done but ticks, another `green` neither
  pub green_on : {d : ℕ} (lit : StillLit d Green green lines) → ticks_in d lit.since < green_span
  pub green_once : {d : ℕ} (lit : StillLit d Green green lines) → Each (OnlyTicks d) lit.since
  -- between `red` and the step that ends its phase 7 lie just 20, always; the rest as with green
  pub red_exactly : {d : ℕ} (w : WentOut d Red red lines) → burned w ≡ red_span
  pub red_on : {d : ℕ} (lit : StillLit d Red red lines) → ticks_in d lit.since < red_span
  pub red_once : {d : ℕ} (lit : StillLit d Red red lines) → Each (OnlyTicks d) lit.since
