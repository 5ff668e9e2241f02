-- What each step does (01, "Steps"): `step_of` is the whole of it.
use Rattle.std.specs.Prelude.{ℕ, ◌≡◌, Bool, true, false, cond, get_or}
use Rattle.tables.specs.Tables.{may_be}
use Rattle.record.specs.declared.record.Record.{Record}
use Rattle.phases.specs.declared.table.Kind.{Kind}
use Rattle.phases.specs.declared.answer.Answer.{Answer}
use Rattle.phases.specs.declared.answer.Answer.TheVariants.{Done, NoSuch, NotAllowed, Unsound}
use Rattle.phases.specs.Answers.{reason_none, reason_away, reason_barred, reason_busy}
use Rattle.record.specs.declared.steps.Step.{Step}
use Rattle.deeds.specs.declared.Told.{Told}
use Rattle.deeds.specs.Deeds.{exist_among}
use Rattle.door_does.specs.declared.Does.{Does}
use Rattle.door_does.specs.declared.Does.TheVariants.{Stays, Turns, Moves}
use Rattle.door_does.specs.Does.{effect}
use Rattle.record.specs.Doors.{plan_of, door_of, put_door, put_at}
use Rattle.phases.specs.Kinds.{allows}
use Rattle.granting.specs.Grants.{GrantAt}
use Rattle.granting.specs.Reasons.{first_reason, held_with}
use Rattle.record.specs.SoundTest.{sound_b}

-- the reason for which a record denies person p door d, 0 for none
abbrev pub reason_for : Record → ℕ → ℕ → ℕ
reason_for r d p = first_reason (plan_of r) r.right r.place r.phase r.holder d p

-- "Granted when the person is at the door's origin, has a right to its destination and has no grant."
pub record Admitted (r : Record) (d p : ℕ) : Type 0 where
  pub at_origin : get_or r.place p 0 ≡ get_or r.origin d 0
  pub has_right : may_be r.right p (get_or r.destination d 0) ≡ true
  pub no_grant : (e : ℕ) → GrantAt r.doors r.phase r.holder p e → ⊥

-- "reason 1 (not at the origin), 2 (no right), 3 (grant elsewhere), the first that applies"
pub data First (r : Record) (d p : ℕ) : ℕ → Type 0 where
  none : Admitted r d p → First r d p reason_none
  away : (get_or r.place p 0 ≡ get_or r.origin d 0 → ⊥) → First r d p reason_away
  barred : get_or r.place p 0 ≡ get_or r.origin d 0 → may_be r.right p (get_or r.destination d 0) ≡ false → First r d p reason_barred
  busy : get_or r.place p 0 ≡ get_or r.origin d 0 → may_be r.right p (get_or r.destination d 0) ≡ true
      → (e : ℕ) → GrantAt r.doors r.phase r.holder p e → First r d p reason_busy

-- the door that a record tells of person p with a reason
abbrev pub held_for : Record → ℕ → ℕ → ℕ
held_for r p why = held_with why r.doors r.phase r.holder p

-- 02, C-12: "`decide` must tell the door that is granted to the person, together with the reason", "(0 with any other reason)": the one
-- door that holds the person's grant, told with reason 3
pub data HeldDoor (r : Record) (p : ℕ) : ℕ → ℕ → Type 0 where
  the_grant : {e : ℕ} → GrantAt r.doors r.phase r.holder p e → ((f : ℕ) → GrantAt r.doors r.phase r.holder p f → f ≡ e)
      → HeldDoor r p reason_busy e
  no_door : {why : ℕ} → (why ≡ reason_busy → ⊥) → HeldDoor r p why 0

-- "A step answers its number, the door's phase afterwards .. and the reason", and with it that door: what a step that is done hands back
unfoldable pub act : Record → ℕ → Does → Step
act r d Stays = record { next = r; answer = Done; phase = get_or r.phase d 0; reason = 0; held = 0 }
act r d (Turns c why) =
    record { next = put_door r d c; answer = Done; phase = c.phase; reason = why; held = held_for r (get_or r.holder d 0) why }
act r d (Moves c) =
    record {
      next = put_at (put_door r d c) (get_or r.holder d 0) (get_or r.destination d 0);
      answer = Done;
      phase = c.phase;
      reason = 0;
      held = 0;
    }

-- "After a refusal the record .. hold[s] what [it] held before."
abbrev pub refused : Record → Answer → ℕ → Step
refused r answer phase = record { next = r; answer = answer; phase = phase; reason = 0; held = 0 }

-- do the door and, of a card, the person exist?
abbrev pub exist : Record → Kind → ℕ → ℕ → Bool
exist r k d p = exist_among r.people r.doors k d p

-- what a step that may be done does at its door
abbrev pub doing : Record → Kind → ℕ → ℕ → Does
doing r k d p = effect k p (reason_for r d (get_or r.holder d 0)) (door_of r d)

-- "Steps and questions: 14, then 11, then 12": the step where the record is sound
unfoldable pub sound_step : Record → Kind → ℕ → ℕ → Step
sound_step r k d p =
    cond (exist r k d p)
    (cond (allows k (get_or r.phase d 0))
    (act r d (doing r k d p))
    (refused r NotAllowed (get_or r.phase d 0)))
    (refused r NoSuch 0)

-- A step: with an unsound record 14, and all else as above.
unfoldable pub step_of : Record → Kind → ℕ → ℕ → Step
step_of r k d p = cond (sound_b r) (sound_step r k d p) (refused r Unsound 0)

-- what a step tells beside the record
abbrev pub told_by : Step → Told
told_by s = record { answer = s.answer; phase = s.phase; reason = s.reason; held = s.held }
