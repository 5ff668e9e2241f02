-- One step of a record, done or refused: its event is the one seen in the record, and the spells agree with the record after it.
-- Assumes nothing.
use Prim.Native.Nat.{ℕ}
use mathlib.Core.Path.{◌≡◌, refl, sym, ap, ◌∙◌}
use mathlib.Core.Bool.{false}
use mathlib.Core.Logic.{⊎_elim}
use native.Mathlib.Omega.{arith}
use borrow.Author.Tests.{eq-eqb, ne_eqb}
use lib.ListN.{get_or}
use lib.Dec.{eqb}
use Rattle.tables.proofs.Cases.{same_or_not}
use Rattle.door_does.specs.declared.Does.{Does}
use Rattle.door_does.specs.declared.Does.TheVariants.{Stays, Turns, Moves}
use Rattle.phases.specs.declared.table.Kind.{Kind}
use Rattle.phases.specs.declared.answer.Answer.{Answer}
use Rattle.phases.specs.declared.answer.Answer.TheVariants.{Done, NoSuch, NotAllowed, TooShort, Unsound}
use Rattle.phases.specs.Answers.{answer_no}
use Rattle.phases.specs.declared.table.StepRow.{StepRow}
use Rattle.granting.specs.Reasons.{held_with}
use Rattle.record.specs.declared.record.Record.{Record}
use Rattle.record.specs.declared.steps.Step.{Step}
use Rattle.record.specs.Doors.{door_of, Shaped}
use Rattle.record.specs.Sound.{Sound}
use Rattle.record.specs.Steps.{reason_for, held_for, act, refused, doing, step_of}
use Rattle.record.specs.Run.{Reply, reply_by, row_of}
use Rattle.record.proofs.Laws.{Allowed, step_cases, allowed_does, others_stay, door_after, act_done, becomes}
use Rattle.run_events.specs.Lines.{Line}
use Rattle.run_events.specs.Events.{Nothing, meaning_by, meaning_of, Spell, spell_by, spells_after, event_by}
use Rattle.run_events.specs.Told.{standing, standing_at, Agree, seen_of}
use Rattle.run_events.proofs.Doors.{done_reply, Follows, door_follows}

-- the line of a step and what it handed back
abbrev pub heard_line : StepRow → Step → Line
heard_line row s = record { row = row; reply = reply_by s }

pub act_reply : (r : Record) (d : ℕ) (x : Does) → reply_by (act r d x) ≡ done_reply (held_for r (get_or r.holder d 0)) (door_of r d) x
unfolding act held_with
act_reply r d Stays = refl
act_reply r d (Turns c why) = refl
act_reply r d (Moves c) = refl

-- the line of a step that was done means what its kind says
pub done_means : (r : Record) (row : StepRow) (x : Does) → meaning_of (heard_line row (act r row.at x)) ≡ meaning_by row.kind (done_reply (held_for r (get_or r.holder row.at 0)) (door_of r row.at) x)
unfolding meaning_of
done_means r row x = ap (λ (reply : Reply). meaning_of (record { row = row; reply = reply })) (act_reply r row.at x)

-- a step that is answered 0 is done, and no other
pub is_done : (a : Answer) → answer_no a ≡ 0 → a ≡ Done
is_done Done e = refl
is_done NoSuch e = absurd (omega arith)
is_done NotAllowed e = absurd (omega arith)
is_done TooShort e = absurd (omega arith)
is_done Unsound e = absurd (omega arith)

pub not_done : (a : Answer) → (a ≡ Done → ⊥) → eqb (answer_no a) 0 ≡ false
not_done a no_way = ne_eqb (answer_no a) 0 (λ e. no_way (is_done a e))

-- the door of a step that is done, afterwards
pub door_here : (r : Record) (k : Kind) (d p : ℕ) → Shaped r → Sound r → Allowed r k d p
    → door_of (act r d (doing r k d p)).next d ≡ becomes (door_of r d) (doing r k d p)
door_here r k d p sh s w =
    let acted = allowed_does r k d p w in
    rw acted at (door_after r k d p sh s (ap (λ (y : Step). y.answer) acted ∙ act_done r d (doing r k d p)))

-- the spell at the door of a line, and at any other
module _ (spells : ℕ → Spell) (n : ℕ) (line : Line) (d : ℕ) where
  pub after_here : d ≡ line.row.at → spells_after spells n line d ≡ spell_by (meaning_of line) n line.row.person (spells d)
  unfolding spells_after
  after_here e = rw (eq-eqb d line.row.at e)

  pub after_there : (d ≡ line.row.at → ⊥) → spells_after spells n line d ≡ spells d
  unfolding spells_after
  after_there ne = rw (ne_eqb d line.row.at ne)

  -- a line that means nothing is no change
  pub after_nothing : meaning_of line ≡ Nothing → spells_after spells n line d ≡ spells d
  unfolding spell_by
  after_nothing nothing = ⊎_elim (λ is. after_here is ∙ rw nothing) after_there (same_or_not d line.row.at)

-- what is told of a step of row n that handed back z, and what is seen of it
pub record RowTells (spells : ℕ → Spell) (n : ℕ) (r : Record) (row : StepRow) (z : Step) : Type 0 where
  pub seen : event_by (meaning_of (heard_line row z)) n row.at (spells row.at).person ≡ seen_of n r row z
  pub after : Agree (spells_after spells n (heard_line row z)) z.next

module _ (spells : ℕ → Spell) (n : ℕ) (r : Record) (sh : Shaped r) (s : Sound r) (agree : Agree spells r) (row : StepRow) where
  tells_refused : (a : Answer) (ph : ℕ) → (a ≡ Done → ⊥) → RowTells spells n r row (refused r a ph)
  unfolding meaning_of event_by
  tells_refused a ph no_way =
      let off = not_done a no_way in
      let nothing : meaning_of (heard_line row (refused r a ph)) ≡ Nothing = rw off in
      record { seen = rw off; after = record { each = λ d. rw (after_nothing spells n (heard_line row (refused r a ph)) d nothing) (agree.each d) } }

  module _ (w : Allowed r row.kind row.at row.person) where
    abbrev z : Step
    z = act r row.at (doing r row.kind row.at row.person)

    acted : step_of r row.kind row.at row.person ≡ z
    acted = allowed_does r row.kind row.at row.person w

    follow : Follows (held_for r (get_or r.holder row.at 0)) n row.at row.person (reason_for r row.at (get_or r.holder row.at 0)) row.kind (door_of r row.at) (doing r row.kind row.at row.person) (spells row.at)
    follow = door_follows _ n row.at row.person _ (door_of r row.at) (spells row.at) (agree.each row.at) row.kind w.allowed

    here : standing (spells_after spells n (heard_line row z) row.at) ≡ standing_at (door_of z.next row.at)
    here = rw (after_here spells n (heard_line row z) row.at refl, door_here r row.kind row.at row.person sh s w, done_means r row (doing r row.kind row.at row.person)) follow.after

    there : (d : ℕ) → (d ≡ row.at → ⊥) → standing (spells_after spells n (heard_line row z) d) ≡ standing_at (door_of z.next d)
    there d ne =
        rw (after_there spells n (heard_line row z) d ne)
        (agree.each d ∙ ap standing_at (sym (rw acted at (others_stay r row.kind row.at row.person d ne))))

    tells_done : RowTells spells n r row z
    tells_done =
        record {
          seen = rw (done_means r row (doing r row.kind row.at row.person), act_done r row.at (doing r row.kind row.at row.person)) follow.seen;
          after = record { each = λ d. ⊎_elim (λ is. rw is here) (there d) (same_or_not d row.at) };
        }

  pub row_tells : RowTells spells n r row (row_of r row)
  row_tells = step_cases (RowTells spells n r row) r row.kind row.at row.person tells_refused tells_done
