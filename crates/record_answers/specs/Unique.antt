-- Answers of the functions of the crates `granting`, `sole_grants`, `soundness`, `record`, `lending`, `step_list` and `questions` are
-- unique: whatever a promise allows, the answer and what each lent list and the lent record hold at exit, is one thing. The promise stands as in the
-- function's `ensures`.
use Rattle.std.specs.Prelude.{ℕ, ◌≡◌, Bool, List, length, get_or, ltb, Option, None, Result}
use Rattle.findings.specs.Told.{place_told, place_no, grant_told, grant_no, length_told, way_no}
use Rattle.findings.specs.declared.WayRefused.{WayRefused}
use Rattle.findings.specs.declared.Refused.{Refused}
use Rattle.tables.specs.Tables.{Plan, plan}
use Rattle.tables.specs.Way.{way_of}
use Rattle.record.specs.declared.record.Record.{Record}
use Rattle.phases.specs.declared.table.Kind.{Kind}
use Rattle.phases.specs.declared.table.Kind.TheVariants.{Card, Decide, Green, Red, Walk, Tick, Passed, Lapsed, Dark, Ack}
use Rattle.record.specs.declared.steps.Step.{Step}
use Rattle.deeds.specs.declared.Told.{Told}
use Rattle.record.specs.declared.series.Ran.{Ran}
use Rattle.granting.specs.Grants.{grant_of}
use Rattle.granting.specs.Reasons.{first_reason, held_with}
use Rattle.sole_grants.specs.Sole.{sole_grants}
use Rattle.soundness.specs.SoundTest.{lists_sound}
use Rattle.record.specs.Doors.{fresh_record}
use Rattle.phases.specs.Kinds.{kind_of}
use Rattle.record.specs.SoundTest.{sound_b}
use Rattle.record.specs.Steps.{step_of, told_by}
use Rattle.record.specs.Run.{run_of, answers_of, phases_of, reasons_of, held_of}
use Rattle.record.specs.Questions.{asked_no, unless_refused, place_of, granted_to, way_answer_of, way_written, way_asked_no}
use Rattle.numbers.specs.Telling.{Unique}
use Rattle.record.specs.Deeds.{holding, telling}
use Rattle.deeds.specs.declared.Moving.{Moving}

pub record SoundUnique : Type 0 where
  pub grant_of_lem : (n : ℕ) (phase holder : List ℕ) (p : ℕ) → Unique (λ (x : Option ℕ). x ≡ grant_of n phase holder p)
  pub first_reason_lem : (doors : ℕ) (origin destination : List ℕ) (right : List Bool) (place phase holder : List ℕ) (d p : ℕ)
      → Unique
      (λ (x : ℕ). (people locations : ℕ) (exit : List ℕ) → x ≡ first_reason (plan people locations doors origin destination exit) right place phase holder d p)
  pub held_with_lem : (why n : ℕ) (phase holder : List ℕ) (p : ℕ) → Unique (λ (x : ℕ). x ≡ held_with why n phase holder p)
  pub sole_grants_lem : (n : ℕ) (phase holder : List ℕ) → Unique (λ (x : Bool). x ≡ sole_grants n phase holder)
  pub lists_sound_lem : (site : Plan) (right : List Bool) (place phase holder count : List ℕ)
      → Unique (λ (x : Bool). x ≡ lists_sound site right place phase holder count)

pub record RecordUnique : Type 0 where
  pub fresh : (site : Plan) (right : List Bool) → Unique (λ (x : Record). x ≡ fresh_record site right)
  pub is_sound : (r : Record) → Unique (λ (x : Bool). x ≡ sound_b r)
  pub moving : (r : Record) → Unique (λ (x : Moving). (x.place ≡ r.place) × (x.phase ≡ r.phase) × (x.holder ≡ r.holder) × (x.count ≡ r.count))
  pub hold : (r : Record) (place phase holder count : List ℕ) → Unique (λ (x : Record). x ≡ holding r place phase holder count)
  pub step_telling : (r : Record) (told : Told) → Unique (λ (x : Step). x ≡ telling r told)
  pub step_told : (s : Step) → Unique (λ (x : Told). x ≡ told_by s)
  pub step : (r : Record) (k : Kind) (d p : ℕ) → Unique (λ (x : Step). x ≡ step_of r k d p)
  pub step_numbered : (r : Record) (n d p : ℕ) → Unique (λ (x : Step). x ≡ step_of r (kind_of n) d p)
  pub lend : (r : Record) (k : Kind) (d p : ℕ) → Unique (λ (x : Step). x ≡ step_of r k d p)
  -- what is told, and the lent record at exit
  pub step_lent : (r : Record) (k : Kind) (d p : ℕ)
      → Unique (λ (x : Told × Record). (x.0 ≡ told_by (step_of r k d p)) × (x.1 ≡ (step_of r k d p).next))
  pub card : (r : Record) (d p : ℕ) → Unique (λ (x : Step). x ≡ step_of r Card d p)
  pub decide : (r : Record) (d : ℕ) → Unique (λ (x : Step). x ≡ step_of r Decide d 0)
  pub green : (r : Record) (d : ℕ) → Unique (λ (x : Step). x ≡ step_of r Green d 0)
  pub red : (r : Record) (d : ℕ) → Unique (λ (x : Step). x ≡ step_of r Red d 0)
  pub walk : (r : Record) (d : ℕ) → Unique (λ (x : Step). x ≡ step_of r Walk d 0)
  pub tick : (r : Record) (d : ℕ) → Unique (λ (x : Step). x ≡ step_of r Tick d 0)
  pub passed : (r : Record) (d : ℕ) → Unique (λ (x : Step). x ≡ step_of r Passed d 0)
  pub lapsed : (r : Record) (d : ℕ) → Unique (λ (x : Step). x ≡ step_of r Lapsed d 0)
  pub dark : (r : Record) (d : ℕ) → Unique (λ (x : Step). x ≡ step_of r Dark d 0)
  pub ack : (r : Record) (d : ℕ) → Unique (λ (x : Step). x ≡ step_of r Ack d 0)
  -- what is handed back, and the lists of answers, phases, reasons and held doors at exit
  pub run : (r : Record) (steps doors persons answers phases reasons held : List ℕ)
      → Unique
      (λ (x : Ran × List ℕ × List ℕ × List ℕ × List ℕ).
      (x.0 ≡ run_of r steps doors persons answers phases reasons held)
      × (x.1 ≡ answers_of r steps doors persons answers phases reasons held)
      × (x.2 ≡ phases_of r steps doors persons answers phases reasons held)
      × (x.3 ≡ reasons_of r steps doors persons answers phases reasons held)
      × (x.4 ≡ held_of r steps doors persons answers phases reasons held))
  -- the answer, its number and its value
  pub place_of_lem : (r : Record) (p : ℕ)
      → Unique
      (λ (x : Result ℕ Refused).
      (x ≡ place_of r p) × (place_no x ≡ asked_no r (ltb p r.people)) × (place_told x ≡ unless_refused (place_no x) (get_or r.place p 0) 0))
  pub granted_to_lem : (r : Record) (p : ℕ)
      → Unique
      (λ (x : Result (Option ℕ) Refused).
      (x ≡ granted_to r p)
      × (grant_no x ≡ asked_no r (ltb p r.people))
      × (grant_told x ≡ unless_refused (grant_no x) (grant_of r.doors r.phase r.holder p) None))
  -- the same, and the lent list at exit
  pub way_out_lem : (r : Record) (l : ℕ) (list : List ℕ)
      → Unique
      (λ (x : Result ℕ WayRefused × List ℕ).
      (x.0 ≡ way_answer_of r l list)
      × (way_no x.0 ≡ way_asked_no r l list)
      × (length_told x.0 ≡ unless_refused (way_no x.0) (length (way_of r.locations r.exit l)) 0)
      × (x.1 ≡ way_written r l list))
