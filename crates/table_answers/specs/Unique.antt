-- Answers of the functions of the crates `lists`, `rules`, `phases`, `door`, `door_fits` and `door_does` are unique: whatever a promise allows, the
-- answer and what each lent list holds at exit, is one thing. The promise stands as in the function's `ensures`.
use Rattle.std.specs.Prelude.{ℕ, ◌≡◌, Bool, false, List, get_or, set, Option, Result}
use Rattle.tables.specs.Tables.{Plan, plan, may_be}
use Rattle.tables.specs.Tests.{plan_in_range, first_no_exit, first_stray, first_no_door, first_no_right, first_shut_out, lawful_b}
use Rattle.tables.specs.Way.{way_of, way_told_in, way_written_in}
use Rattle.door.specs.declared.Door.{Door}
use Rattle.phases.specs.declared.table.Kind.{Kind}
use Rattle.phases.specs.declared.answer.Answer.{Answer}
use Rattle.phases.specs.Answers.{answer_no}
use Rattle.door_does.specs.declared.Does.{Does}
use Rattle.phases.specs.Phase.{grants}
use Rattle.door.specs.Door.{door, free_door, door_in}
use Rattle.door_fits.specs.Fits.{fields_fit}
use Rattle.door_does.specs.Does.{effect}
use Rattle.phases.specs.Kinds.{kind_of, number_of_kind}
use Rattle.phases.specs.Table.{asked}
use Rattle.numbers.specs.Telling.{Unique}
use Rattle.findings.specs.declared.TooShort.{TooShort}

pub record TablesUnique : Type 0 where
  pub byte_at : (list : List ℕ) (at : ℕ) → Unique (λ (x : ℕ). x ≡ get_or list at 0)
  pub word_at : (list : List ℕ) (at : ℕ) → Unique (λ (x : ℕ). x ≡ get_or list at 0)
  pub flag_at : (list : List Bool) (at : ℕ) → Unique (λ (x : Bool). x ≡ get_or list at false)
  -- the lent list at exit
  pub put_byte : (list : List ℕ) (at n : ℕ) → Unique (λ (x : List ℕ). x ≡ set list at n)
  pub put_word : (list : List ℕ) (at n : ℕ) → Unique (λ (x : List ℕ). x ≡ set list at n)

pub record RulesUnique : Type 0 where
  pub may_be_lem : (right : List Bool) (p l : ℕ) → Unique (λ (x : Bool). x ≡ may_be right p l)
  pub in_range : (most : ℕ) (site : Plan) → Unique (λ (x : Bool). x ≡ plan_in_range most site)
  pub first_no_exit_lem : (locations : ℕ) (given : List Bool) → Unique (λ (x : Option ℕ). x ≡ first_no_exit locations given)
  pub first_stray_lem : (locations : ℕ) (exit : List ℕ) → Unique (λ (x : Option ℕ). x ≡ first_stray locations exit)
  pub first_no_door_lem : (locations doors : ℕ) (origin destination exit : List ℕ)
      → Unique (λ (x : Option ℕ). (people : ℕ) → x ≡ first_no_door (plan people locations doors origin destination exit))
  pub first_no_right_lem : (people locations : ℕ) (exit : List ℕ) (right : List Bool)
      → Unique
      (λ (x : Option (ℕ × ℕ)). (doors : ℕ) (origin destination : List ℕ) → x ≡ first_no_right (plan people locations doors origin destination exit) right)
  pub first_shut_out_lem : (people doors : ℕ) (origin destination : List ℕ) (right : List Bool)
      → Unique (λ (x : Option ℕ). (locations : ℕ) (exit : List ℕ) → x ≡ first_shut_out (plan people locations doors origin destination exit) right)
  pub lawful : (most : ℕ) (site : Plan) (right : List Bool) → Unique (λ (x : Bool). x ≡ lawful_b most site right)
  -- the answer, and the lent list at exit
  pub way_by_exits : (locations : ℕ) (exit : List ℕ) (from : ℕ) (list : List ℕ)
      → Unique (λ (x : Result ℕ TooShort × List ℕ). (x.0 ≡ way_told_in (way_of locations exit from) list) × (x.1 ≡ way_written_in (way_of locations exit from) list))

pub record DoorUnique : Type 0 where
  pub answer_number : (a : Answer) → Unique (λ (x : ℕ). x ≡ answer_no a)
  pub kind_of_lem : (n : ℕ) → Unique (λ (x : Kind). x ≡ kind_of n)
  pub kind_number : (k : Kind) → Unique (λ (x : ℕ). x ≡ number_of_kind k)
  pub allowed_in : (k : Kind) (phase : ℕ) → Unique (λ (x : Bool). x ≡ asked k phase)
  pub grants : (phase : ℕ) → Unique (λ (x : Bool). x ≡ grants phase)
  pub new : (phase holder count : ℕ) → Unique (λ (x : Door). x ≡ door phase holder count)
  pub among : (phase holder count : List ℕ) (d : ℕ) → Unique (λ (x : Door). x ≡ door_in phase holder count d)
  pub free : Unique (λ (x : Door). x ≡ free_door)
  pub fits : (people : ℕ) (c : Door) → Unique (λ (x : Bool). x ≡ fields_fit people c)
  pub does : (k : Kind) (p why : ℕ) (c : Door) → Unique (λ (x : Does). x ≡ effect k p why c)
