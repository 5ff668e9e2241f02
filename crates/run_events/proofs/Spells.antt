-- The spell at a door, from its taken card on: its row and its person are those of the card. Assumes nothing.
use Prim.Native.Nat.{ℕ, ◌+◌}
use mathlib.Core.Path.{◌≡◌, refl, sym, ap, ◌∙◌}
use mathlib.Core.Bool.{true}
use mathlib.Core.Logic.{⊎_elim}
use mathlib.Core.List.{List, [], ◌∷◌}
use native.Mathlib.Omega.{arith}
use borrow.Author.Tests.{eqb-true}
use Rattle.tables.specs.Tables.{and_also}
use Rattle.tables.proofs.Cases.{same_or_not}
use Rattle.door.specs.declared.Door.{Door}
use Rattle.phases.specs.declared.table.Kind.{Kind}
use Rattle.phases.specs.declared.table.Kind.TheVariants.{Card, Decide, Green, Red, Walk, Tick, Passed, Lapsed, Dark, Ack, Unknown}
use Rattle.phases.specs.Phase.{read, walked, expired, grants}
use Rattle.phases.specs.declared.table.StepRow.{StepRow}
use Rattle.phases.specs.Kinds.{allows}
use Rattle.record.specs.declared.record.Record.{Record}
use Rattle.record.specs.Doors.{door_of, Shaped}
use Rattle.record.specs.Sound.{Sound}
use Rattle.record.specs.Run.{Reply, row_of, replies_of}
use Rattle.record.proofs.Laws.{step_cases, sound_stays, shaped_stays}
use Rattle.run_events.specs.Lines.{Line, lines_of, heard_of}
use Rattle.run_events.specs.Events.{What, Meaning, Taken, Happened, Freed, Nothing, meaning_by, meaning_of, Stage, NoCard, Awaited, After, Spell, spell_by, spells_after, spells_of}
use Rattle.run_events.specs.Told.{standing_at, Free, Agree, Comes, end, elsewhere, unmoved, moved, here, later, Since, no_card, began, goes_on}
use Rattle.run_events.proofs.Doors.{at_read, at_grant}
use Rattle.run_events.proofs.Steps.{heard_line, done_means, not_done, after_here, after_there, row_tells}

-- ---- something happens only to a card

pub differ : ◌≡◌ {A = ℕ} 0 1 → ⊥
differ e = omega arith

-- at a door where something may happen to a card there is one
has_card : (k : Kind) (reply : Reply) (what : What) (c : Door) → meaning_by k reply ≡ Happened what → allows k c.phase ≡ true → standing_at c ≡ Free → ⊥
unfolding meaning_by allows grants and_also
has_card Card reply what c e ok is = differ (cc)
has_card Decide reply what c e ok is = differ (cc (at_read c (eqb-true c.phase read ok)))
has_card Green reply what c e ok is = differ (cc)
has_card Red reply what c e ok is = differ (cc)
has_card Walk reply what c e ok is = differ (cc)
has_card Tick reply what c e ok is = differ (cc)
has_card Passed reply what c e ok is = differ (cc (at_grant c (rw (eqb-true c.phase walked ok))))
has_card Lapsed reply what c e ok is = differ (cc (at_grant c (rw (eqb-true c.phase expired ok))))
has_card Dark reply what c e ok is = differ (cc)
has_card Ack reply what c e ok is = differ (cc)
has_card Unknown reply what c e ok is = differ (cc)

module _ (spells : ℕ → Spell) (r : Record) (agree : Agree spells r) (row : StepRow) where
  -- so the line of a step with an event has one
  happens_to : (what : What) → meaning_of (heard_line row (row_of r row)) ≡ Happened what → (spells row.at).stage ≡ NoCard → ⊥
  unfolding meaning_of
  happens_to what =
      step_cases (λ z. meaning_of (heard_line row z) ≡ Happened what → (spells row.at).stage ≡ NoCard → ⊥) r row.kind row.at row.person
      (λ a ph no_way e is. differ (cc (not_done a no_way)))
      (λ w e is. has_card row.kind _ what (door_of r row.at) (sym (done_means r row _) ∙ e) w.allowed (sym (agree.each row.at) ∙ rw is))

-- ---- one line after the other

-- a line at the door, with the lines behind it: `was` is the spell before, `after` the one after, and `s` the one at the end
at_door_lem : {d n : ℕ} {line : Line} {lines : List Line} {was after s : Spell} (m : Meaning) → line.row.at ≡ d → meaning_of line ≡ m
    → after ≡ spell_by m n line.row.person was → ((what : What) → m ≡ Happened what → was.stage ≡ NoCard → ⊥) → (after.stage ≡ NoCard → ⊥)
    → Comes d after.stage lines s.stage → s.row ≡ after.row → s.person ≡ after.person → Since d was s n (line ∷ lines)
unfolding spell_by
at_door_lem Taken at e is card some on row person = began (here at e (rw is at row) (rw is at person) (rw is at on))
at_door_lem (Happened what) at e is card some on row person = goes_on (card what refl) (moved at e (rw is at on)) (rw is at row) (rw is at person)
at_door_lem Freed at e is card some on row person = absurd (some (ap (λ (x : Spell). x.stage) is))
at_door_lem Nothing at e is card some on row person = goes_on (rw is at some) (unmoved e (rw is at on)) (rw is at row) (rw is at person)

-- a step of the record, with the lines behind it
module _ (spells : ℕ → Spell) (n : ℕ) (r : Record) (agree : Agree spells r) (row : StepRow) (d : ℕ) where
  abbrev line : Line
  line = heard_line row (row_of r row)

  one_more : {lines : List Line} {last : Spell} → Since d (spells_after spells n line d) last (n + 1) lines → Since d (spells d) last n (line ∷ lines)
  one_more (no_card e) = no_card e
  one_more (began b) = began (later b)
  one_more (goes_on some on of_row of_person) =
      ⊎_elim
      (λ (is : d ≡ row.at).
      at_door_lem (meaning_of line) (sym is) refl (after_here spells n line d is) (λ what e none. happens_to spells r agree row what e (rw is at none)) some on of_row of_person)
      (λ (is_not : d ≡ row.at → ⊥).
      let same = after_there spells n line d is_not in
      goes_on (rw same at some) (elsewhere (λ e. is_not (sym e)) (rw same at on)) (rw same at of_row) (rw same at of_person))
      (same_or_not d row.at)

pub since : (rows : List StepRow) (spells : ℕ → Spell) (n : ℕ) (r : Record) → Shaped r → Sound r → Agree spells r → (d : ℕ)
    → Since d (spells d) (spells_of spells n (heard_of r rows) d) n (heard_of r rows)
unfolding heard_of lines_of replies_of spells_of
since [] spells n r sh s agree d = go (spells d).stage refl
  where
    go : (t : Stage) → (spells d).stage ≡ t → Since d (spells d) (spells d) n []
    go NoCard e = no_card e
    go Awaited e = goes_on (λ z. differ (cc)) end refl refl
    go (After what) e = goes_on (λ z. differ (cc)) end refl refl
since (row ∷ rows) spells n r sh s agree d =
    one_more spells n r agree row d
    (since rows (spells_after spells n (heard_line row (row_of r row))) (n + 1) (row_of r row).next (shaped_stays r row.kind row.at row.person sh)
    (sound_stays r row.kind row.at row.person sh s) (row_tells spells n r sh s agree row).after d)
