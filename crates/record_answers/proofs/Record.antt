-- Demand 1 of the record: its steps, its run and the questions; what it says is in `specs/Answers.antt`. Assumes nothing.
use Prim.Native.Nat.{ℕ, ◌<◌}
use mathlib.Core.Path.{◌≡◌, refl, sym, ap, ◌∙◌}
use mathlib.Core.Bool.{Bool, true, false, not}
use mathlib.Core.List.{List, ◌∷◌, map}
use mathlib.Core.Logic.{◌⊎◌, inl, inr, ⊎_elim}
use native.Mathlib.Omega.{arith}
use borrow.Author.Tests.{ltb-true, lt-ltb, le-leb, leb-true}
use lib.ListN.{length, get_or, replicate}
use lib.Seq.{sets}
use lib.Dec.{ltb, leb}
use Rattle.std.specs.Prelude.{None}
use Rattle.findings.specs.Told.{place_told, place_no, grant_told, grant_no, length_told, way_no}
use Rattle.tables.specs.Tables.{or_else, and_also, most_doors}
use Rattle.tables.specs.Below.{Tells}
use Rattle.tables.specs.Way.{way_of, if_room, way_told_in, way_written_in}
use Rattle.tables.proofs.Laws.{and_left, and_right, and_both, clash, tell_le, tell_and, tell_as}
use Rattle.record.specs.declared.record.Record.{Record}
use Rattle.phases.specs.declared.table.Kind.{Kind}
use Rattle.phases.specs.declared.table.Kind.TheVariants.{Card, Decide, Green, Red, Walk, Tick, Passed, Lapsed, Dark, Ack}
use Rattle.door.specs.declared.Door.{Door}
use Rattle.phases.specs.declared.answer.Answer.{Answer}
use Rattle.phases.specs.declared.answer.Answer.TheVariants.{Done, NoSuch, NotAllowed, TooShort, Unsound}
use Rattle.phases.specs.Answers.{answer_no, reason_none, reason_busy}
use Rattle.record.specs.Doors.{door_of, Shaped}
use Rattle.granting.specs.Grants.{grant_of}
use Rattle.phases.specs.declared.table.StepRow.{StepRow}
use Rattle.phases.specs.Kinds.{kind_of, allows, names_person}
use Rattle.record.specs.SoundTest.{sound_b}
use Rattle.door_does.specs.declared.Does.{Does}
use Rattle.door_does.specs.declared.Does.TheVariants.{Stays, Turns, Moves}
use Rattle.deeds.specs.Deeds.{exist_among}
use Rattle.record.specs.declared.steps.Step.{Step}
use Rattle.record.specs.Steps.{reason_for, no_door, act, refused, doing, exist, sound_step, step_of, told_by}
use Rattle.deeds.specs.declared.Told.{Told}
use Rattle.record.specs.Deeds.{telling}
use Rattle.record.specs.Run.{Reply, last_of, replies_of, answer_told, phase_told, reason_told, held_told, rows_of, room_for, room_in, ran_of, run_of, telling_of}
use Rattle.record.specs.Questions.{asked_no, unless_refused, place_of, granted_to, way_answer_of, way_written, way_asked_no}
use Rattle.tables.proofs.Cases.{either}
use Rattle.record.proofs.Keep.{put_same}
use Rattle.record.proofs.Fresh.{fresh_sound}
use Rattle.record.proofs.Tells.{sound_tells}
use Rattle.record.proofs.Asked.{place_as_said, grant_as_said, way_as_said}
use Rattle.record.proofs.Laws.{act_done, act_reason, act_unheld, act_held_door, unsound_14}
use Rattle.numbers.specs.Telling.{NumberBy}
use Rattle.record_answers.specs.Lending.{Lent, LentRows, none, one, reply_of_told, LentIsSteps, unsound_told, LentIsRun}
use Rattle.record_answers.specs.Answers.{Exists, step_order, StepTells, Room, RunTells, PlaceTells, GrantTells, WayOutTells, RecordAnswers}

-- ---- a step

-- the test whether door and person exist
exist_tells : (r : Record) (k : Kind) (d p : ℕ) → Tells (exist r k d p) (Exists r k d p)
unfolding exist_among or_else
exist_tells r k d p =
    record {
      yes = λ e.
          record {
            a_door = ltb-true d r.doors (and_left _ _ e);
            a_person = λ n. ltb-true p r.people (rw n at (and_right (ltb d r.doors) _ e));
          };
      back = λ x. and_both _ _ (lt-ltb d r.doors x.a_door) (person (names_person k) x.a_person);
    }
  where
    person : (b : Bool) → (b ≡ true → p < r.people) → or_else (not b) (ltb p r.people) ≡ true
    person true h = lt-ltb p r.people (h refl)
    person false h = refl

-- the phase that a step tells is the door's afterwards
act_phase : (r : Record) → Shaped r → (d : ℕ) → d < most_doors → (x : Does) → (act r d x).phase ≡ get_or (act r d x).next.phase d 0
unfolding act
act_phase r sh d h Stays = refl
act_phase r sh d h (Turns c why) = sym (ap (λ (x : Door). x.phase) (put_same r sh d c h))
act_phase r sh d h (Moves c) = sym (ap (λ (x : Door). x.phase) (put_same r sh d c h))

-- two answers of different numbers
apart : {X : Type 0} {a b : Answer} → (answer_no a ≡ answer_no b → ⊥) → a ≡ b → X
apart ne e = absurd (ne (ap answer_no e))

-- no refusal's number is 0
eleven : ◌≡◌ {A = ℕ} 11 0 → ⊥
eleven e = omega arith

thirteen : ◌≡◌ {A = ℕ} 13 0 → ⊥
thirteen e = omega arith

fourteen : ◌≡◌ {A = ℕ} 14 0 → ⊥
fourteen e = omega arith

module _ (r : Record) (k : Kind) (d p : ℕ) where
  refused_tells : (a : Answer) (ph : ℕ) → NumberBy (step_order r k d p) (answer_no a) → (answer_no a ≡ 0 → ⊥) → (a ≡ NotAllowed → ph ≡ get_or r.phase d 0)
      → ((a ≡ NoSuch) ⊎ (a ≡ Unsound) → ph ≡ 0) → StepTells r k d p (refused r a ph)
  refused_tells a ph number some allowed there =
      record {
        number = number;
        unaltered = λ _. refl;
        phase_after = λ _. apart some;
        phase_as_it_was = allowed;
        phase_untold = there;
        no_reason = λ _. refl;
        a_reason = λ reason. absurd (reason refl);
        no_held = λ _. refl;
        a_held = λ _. no_door (λ (z : reason_none ≡ reason_busy). omega arith);
      }

  done_tells : NumberBy (step_order r k d p) 0 → sound_b r ≡ true → d < r.doors → StepTells r k d p (act r d (doing r k d p))
  done_tells number s h =
      let is = act_done r d (doing r k d p) in
      record {
        number = rw is number;
        unaltered = λ no_way. absurd (no_way is);
        phase_after = λ sh _.
            let most = ((sound_tells r sh).yes s).tables.in_range.doors_to in act_phase r sh d (omega arith) (doing r k d p);
        phase_as_it_was = λ e. apart (λ z. omega arith) (sym is ∙ e);
        phase_untold = ⊎_elim (λ e. apart (λ z. omega arith) (sym is ∙ e)) (λ e. apart (λ z. omega arith) (sym is ∙ e));
        no_reason = λ no_way. absurd (no_way is);
        a_reason = act_reason r k d p (reason_for r d (get_or r.holder d 0)) (door_of r d);
        no_held = act_unheld r d (doing r k d p);
        a_held = λ sh. act_held_door r k d p ((sound_tells r sh).yes s);
      }

  pub step_tells : StepTells r k d p (step_of r k d p)
  unfolding step_of sound_step
  step_tells =
      either (StepTells r k d p) (sound_b r)
      (λ s.
      either (StepTells r k d p) (exist r k d p)
      (λ e.
      let x = (exist_tells r k d p).yes e in
      either (StepTells r k d p) (allows k (get_or r.phase d 0)) (λ w. done_tells (inr (s, inr (x, inr (w, refl)))) s x.a_door)
      (λ w.
      refused_tells NotAllowed (get_or r.phase d 0) (inr (s, inr (x, inl ((λ t. clash t w), refl)))) (λ z. omega arith) (λ _. refl)
      (⊎_elim (apart (λ z. omega arith)) (apart (λ z. omega arith)))))
      (λ e.
      refused_tells NoSuch 0 (inr (s, inl ((λ x. clash ((exist_tells r k d p).back x) e), refl))) (λ z. omega arith) (apart (λ z. omega arith)) (λ _. refl)))
      (λ s. refused_tells Unsound 0 (inl ((λ t. clash t s), refl)) (λ z. omega arith) (apart (λ z. omega arith)) (λ _. refl))

-- ---- a run and the questions

room_tells : (steps doors persons answers phases reasons held : List ℕ)
    → Tells (room_in steps doors persons answers phases reasons held) (Room steps doors persons answers phases reasons held)
unfolding room_for
room_tells steps doors persons answers phases reasons held =
    tell_as (λ t. record { in_doors = t.0; in_persons = t.1.0; in_answers = t.1.1.0; in_phases = t.1.1.1.0; in_reasons = t.1.1.1.1.0; in_held = t.1.1.1.1.1 })
    (λ x. (x.in_doors, (x.in_persons, (x.in_answers, (x.in_phases, (x.in_reasons, x.in_held))))))
    (tell_and (tell_le _ _) (tell_and (tell_le _ _) (tell_and (tell_le _ _) (tell_and (tell_le _ _) (tell_and (tell_le _ _) (tell_le _ _))))))

module _ (r : Record) (steps doors persons answers phases reasons held : List ℕ) where
  run_tells : RunTells r steps doors persons answers phases reasons held
  unfolding ran_of telling_of and_also
  run_tells = go (sound_b r) refl (room_in steps doors persons answers phases reasons held) refl
    where
      go : (s : Bool) → sound_b r ≡ s → (b : Bool) → room_in steps doors persons answers phases reasons held ≡ b → RunTells r steps doors persons answers phases reasons held
      go true s true b =
          record {
            number = inr (s, inr ((room_tells steps doors persons answers phases reasons held).yes b, rw (s, b)));
            unaltered = λ no_way. absurd (no_way (rw (s, b)));
            ran = λ _. (rw (s, b), rw (s, b), rw (s, b), rw (s, b), rw (s, b));
          }
      go true s false b =
          record {
            number = inr (s, inl ((λ x. clash ((room_tells steps doors persons answers phases reasons held).back x) b), rw (s, b)));
            unaltered = λ _. (rw (s, b), rw (s, b), rw (s, b), rw (s, b), rw (s, b));
            ran = λ e. apart (λ z. omega arith) (rw (s, b) at e);
          }
      go false s b _ =
          record {
            number = inl ((λ t. clash t s), rw s);
            unaltered = λ _. (rw s, rw s, rw s, rw s, rw s);
            ran = λ e. apart (λ z. omega arith) (rw s at e);
          }

-- the one record that is lent
lent_tells : (r : Record) (k : Kind) (d p : ℕ) (exit : Record) (told : Told) → Lent r k d p exit told → StepTells r k d p (telling exit told)
lent_tells r k d p exit told w = rw (w.next, w.tells) (step_tells r k d p)

lent_steps : {r last : Record} {rows : List StepRow} {told : List Told} → LentRows r rows last told → LentIsSteps r rows last told
unfolding last_of replies_of
lent_steps none = record { same_record = refl; same_told = refl }
lent_steps (one {row} {rows} w more) =
    let on = lent_steps more in
    let first = ap reply_of_told w.tells in
    let others = on.same_told ∙ ap (λ (x : Record). replies_of x rows) w.next in
    record { same_record = on.same_record ∙ ap (λ (x : Record). last_of x rows) w.next; same_told = λ i. first i ∷ others i }

-- a record that isn't sound stays, and each lending is told 14
lent_unsound : {r last : Record} {rows : List StepRow} {told : List Told} → sound_b r ≡ false → LentRows r rows last told
    → (last ≡ r) × (told ≡ replicate (length rows) unsound_told)
lent_unsound s none = (refl, refl)
lent_unsound {r} s (one {row} {rows} w more) =
    let e = unsound_14 r row.kind row.at row.person s in
    let stays : _ ≡ r = w.next ∙ ap (λ (x : Step). x.next) e in
    let first = w.tells ∙ ap told_by e in
    let on = lent_unsound (ap sound_b stays ∙ s) more in
    let others = on.1 in
    (on.0 ∙ stays, λ i. first i ∷ others i)

module _ (r : Record) (steps doors persons answers phases reasons held : List ℕ) where
  lent_run : ((run_of r steps doors persons answers phases reasons held).answer ≡ TooShort → ⊥) → (last : Record) (told : List Told)
      → LentRows r (rows_of steps doors persons) last told → LentIsRun r steps doors persons answers phases reasons held last told
  unfolding ran_of
  lent_run long last told w = go (sound_b r) refl (room_in steps doors persons answers phases reasons held) refl
    where
      ran_so : (run_of r steps doors persons answers phases reasons held).answer ≡ Done → sound_b r ≡ true → LentIsRun r steps doors persons answers phases reasons held last told
      ran_so done s =
          let ran = (run_tells r steps doors persons answers phases reasons held).ran done in
          let is = lent_steps w in
          record {
            same_record = ran.0 ∙ sym is.same_record;
            same_answers = λ _. ran.1 ∙ ap (λ (l : List Reply). sets answers 0 (map answer_told l)) (sym is.same_told);
            same_phases = λ _. ran.2 ∙ ap (λ (l : List Reply). sets phases 0 (map phase_told l)) (sym is.same_told);
            same_reasons = λ _. ran.3 ∙ ap (λ (l : List Reply). sets reasons 0 (map reason_told l)) (sym is.same_told);
            same_held = λ _. ran.4 ∙ ap (λ (l : List Reply). sets held 0 (map held_told l)) (sym is.same_told);
            unsound = λ f. clash s f;
          }

      go : (s : Bool) → sound_b r ≡ s → (b : Bool) → room_in steps doors persons answers phases reasons held ≡ b → LentIsRun r steps doors persons answers phases reasons held last told
      go true s true b = ran_so (rw (s, b)) s
      go true s false b = absurd (long (rw (s, b)))
      go false s b _ =
          let is = lent_unsound s w in
          record {
            same_record = rw s (sym is.0);
            same_answers = λ t. clash t s;
            same_phases = λ t. clash t s;
            same_reasons = λ t. clash t s;
            same_held = λ t. clash t s;
            unsound = λ _. is.1;
          }

-- the questions: 14, then 11
module _ (r : Record) (p : ℕ) where
  place_said : (place_no (place_of r p) ≡ asked_no r (ltb p r.people)) × (place_told (place_of r p) ≡ unless_refused (place_no (place_of r p)) (get_or r.place p 0) 0)
  place_said = (place_as_said r p (place_of r p) refl).1

  place_tells : PlaceTells r p
  unfolding place_of
  place_tells = go (sound_b r) refl (ltb p r.people) refl
    where
      go : (s : Bool) → sound_b r ≡ s → (b : Bool) → ltb p r.people ≡ b → PlaceTells r p
      go true s true b =
          record { number = inr (s, inr (ltb-true p r.people b, rw (s, b))); location = λ _. rw (s, b); refused = λ some. absurd (some (rw (s, b))); as_promised = place_said }
      go true s false b =
          record {
            number = inr (s, inl ((λ h. clash (lt-ltb p r.people h) b), rw (s, b)));
            location = λ e. absurd (eleven (rw (s, b) at e));
            refused = λ _. rw (s, b);
            as_promised = place_said;
          }
      go false s b _ =
          record { number = inl ((λ t. clash t s), rw s); location = λ e. absurd (fourteen (rw s at e)); refused = λ _. rw s; as_promised = place_said }

  grant_said : (grant_no (granted_to r p) ≡ asked_no r (ltb p r.people))
      × (grant_told (granted_to r p) ≡ unless_refused (grant_no (granted_to r p)) (grant_of r.doors r.phase r.holder p) None)
  grant_said = (grant_as_said r p (granted_to r p) refl).1

  grant_tells : GrantTells r p
  unfolding granted_to
  grant_tells = go (sound_b r) refl (ltb p r.people) refl
    where
      go : (s : Bool) → sound_b r ≡ s → (b : Bool) → ltb p r.people ≡ b → GrantTells r p
      go true s true b =
          record {
            number = inr (s, inr (ltb-true p r.people b, rw (s, b)));
            a_door = λ _. rw (s, b);
            refused = λ some. absurd (some (rw (s, b)));
            as_promised = grant_said;
          }
      go true s false b =
          record {
            number = inr (s, inl ((λ h. clash (lt-ltb p r.people h) b), rw (s, b)));
            a_door = λ e. absurd (eleven (rw (s, b) at e));
            refused = λ _. rw (s, b);
            as_promised = grant_said;
          }
      go false s b _ =
          record { number = inl ((λ t. clash t s), rw s); a_door = λ e. absurd (fourteen (rw s at e)); refused = λ _. rw s; as_promised = grant_said }

module _ (r : Record) (l : ℕ) (list : List ℕ) where
  abbrev way : List ℕ
  way = way_of r.locations r.exit l

  way_said : (way_no (way_answer_of r l list) ≡ way_asked_no r l list) × (length_told (way_answer_of r l list) ≡ unless_refused (way_no (way_answer_of r l list)) (length way) 0)
  way_said = let said = (way_as_said r l list (way_written r l list) (way_answer_of r l list) refl refl).1 in (said.0, said.1.0)

  way_out_tells : WayOutTells r l list
  unfolding way_answer_of way_written way_told_in way_written_in if_room
  way_out_tells = go (sound_b r) refl (ltb l r.locations) refl (leb (length way) (length list)) refl
    where
      go : (s : Bool) → sound_b r ≡ s → (b : Bool) → ltb l r.locations ≡ b → (q : Bool) → leb (length way) (length list) ≡ q → WayOutTells r l list
      go true s true b true q =
          record {
            number = inr (s, inr (ltb-true l r.locations b, inr (leb-true _ _ q, rw (s, b, q))));
            a_length = λ _. rw (s, b, q);
            in_front = λ _. rw (s, b, q);
            refused = λ some. absurd (some (rw (s, b, q)));
            unaltered = λ some. absurd (some (rw (s, b, q)));
            as_promised = way_said;
          }
      go true s true b false q =
          record {
            number = inr (s, inr (ltb-true l r.locations b, inl ((λ h. clash (le-leb _ _ h) q), rw (s, b, q))));
            a_length = λ e. absurd (thirteen (rw (s, b, q) at e));
            in_front = λ e. absurd (thirteen (rw (s, b, q) at e));
            refused = λ _. rw (s, b, q);
            unaltered = λ _. rw (s, b, q);
            as_promised = way_said;
          }
      go true s false b q _ =
          record {
            number = inr (s, inl ((λ h. clash (lt-ltb l r.locations h) b), rw (s, b)));
            a_length = λ e. absurd (eleven (rw (s, b) at e));
            in_front = λ e. absurd (eleven (rw (s, b) at e));
            refused = λ _. rw (s, b);
            unaltered = λ _. rw (s, b);
            as_promised = way_said;
          }
      go false s b _ q _ =
          record {
            number = inl ((λ t. clash t s), rw s);
            a_length = λ e. absurd (fourteen (rw s at e));
            in_front = λ e. absurd (fourteen (rw s at e));
            refused = λ _. rw s;
            unaltered = λ _. rw s;
            as_promised = way_said;
          }

pub of_record : RecordAnswers
of_record =
    record {
      is_sound = sound_tells;
      fresh = fresh_sound;
      moving = λ r. refl;
      hold = λ r place phase holder count. record { places = refl; phases = refl; holders = refl; counts = refl; plan = refl; rights = refl };
      step_telling = λ r told. (refl, refl);
      step_told = λ s. refl;
      step = step_tells;
      step_numbered = λ r n d p. step_tells r (kind_of n) d p;
      step_lent = lent_tells;
      lend = step_tells;
      lent_steps = λ r rows last told w. lent_steps w;
      lent_run = lent_run;
      card = λ r d p. step_tells r Card d p;
      decide = λ r d. step_tells r Decide d 0;
      green = λ r d. step_tells r Green d 0;
      red = λ r d. step_tells r Red d 0;
      walk = λ r d. step_tells r Walk d 0;
      tick = λ r d. step_tells r Tick d 0;
      passed = λ r d. step_tells r Passed d 0;
      lapsed = λ r d. step_tells r Lapsed d 0;
      dark = λ r d. step_tells r Dark d 0;
      ack = λ r d. step_tells r Ack d 0;
      run = run_tells;
      place_of_lem = place_tells;
      granted_to_lem = grant_tells;
      way_out_lem = way_out_tells;
    }
