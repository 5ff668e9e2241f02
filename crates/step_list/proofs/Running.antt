-- The loop that runs a list of steps: `Running` is its invariant, with a law for each way through it. Assumes nothing.
use Prim.Native.Nat.{ℕ, ◌+◌, ◌≤◌, ◌<◌}
use mathlib.Core.Path.{◌≡◌, refl, sym, subst, ◌∙◌}
use mathlib.Core.Bool.{Bool, true, false, not}
use mathlib.Core.List.{List, [], ◌∷◌, map}
use native.Mathlib.Numerals.{add-one}
use native.Mathlib.Omega.{arith}
use borrow.Author.Tests.{not-true, not-false}
use lib.ListN.{length, get_or, set, drop, length-set, drop_of_length-le}
use lib.Seq.{sets, drop-cons}
use Rattle.tables.specs.Tables.{and_also, most_people}
use Rattle.tables.proofs.Laws.{tell_and, tell_le}
use Rattle.record.specs.declared.record.Record.{Record}
use Rattle.record.specs.declared.steps.Step.{Step}
use Rattle.phases.specs.declared.answer.Answer.TheVariants.{Done, TooShort, Unsound}
use Rattle.record.specs.declared.series.Ran.{Ran}
use Rattle.phases.specs.Answers.{answer_no}
use Rattle.record.specs.Doors.{Shaped}
use Rattle.phases.specs.declared.table.StepRow.{StepRow}
use Rattle.phases.specs.Kinds.{kind_of}
use Rattle.record.specs.Sound.{Sound}
use Rattle.record.specs.SoundTest.{sound_b}
use Rattle.record.specs.Steps.{sound_step, step_of}
use Rattle.step_list.specs.Room.{RunRoom}
use Rattle.record.specs.Run.{row_of, rows_of, last_of, Reply, reply_by, replies_of, answer_told, phase_told, reason_told, held_told, room_for, ran_of, telling_of}
use Rattle.record.proofs.Laws.{sound_steps, sound_stays, shaped_stays, room_stays}

-- the steps from the one at i on
abbrev pub steps_from_at : List ℕ → List ℕ → List ℕ → ℕ → List StepRow
steps_from_at steps doors persons i = rows_of (drop i steps) (drop i doors) (drop i persons)

-- the step at i
abbrev pub row_at : List ℕ → List ℕ → List ℕ → ℕ → StepRow
row_at steps doors persons i = record { kind = kind_of (get_or steps i 0); at = get_or doors i 0; person = get_or persons i 0 }

-- there is a step at i
pub record Has (steps doors persons : List ℕ) (i : ℕ) : Type 0 where
  pub a_step : i < length steps
  pub a_door : i < length doors
  pub a_person : i < length persons

rows_cons : (steps doors persons : List ℕ) (i : ℕ) → Has steps doors persons i
    → steps_from_at steps doors persons i ≡ row_at steps doors persons i ∷ steps_from_at steps doors persons (i + 1)
unfolding rows_of
rows_cons steps doors persons i h =
    rw (add-one i, drop-cons steps i 0 h.a_step, drop-cons doors i 0 h.a_door, drop-cons persons i 0 h.a_person)

rows_end : (steps doors persons : List ℕ) (i : ℕ) → length steps ≤ i → steps_from_at steps doors persons i ≡ []
unfolding rows_of
rows_end steps doors persons i h = rw (drop_of_length-le steps h)

-- what is still to be told of the steps from i on stands behind what was told of those before
pub record Telling (tell : Reply → ℕ) (r₀ : Record) (rows₀ : List StepRow) (list₀ : List ℕ) (r : Record) (rows : List StepRow) (list : List ℕ) (i : ℕ) : Type 0 where
  pub long : length list ≡ length list₀
  pub behind : sets list i (map tell (replies_of r rows)) ≡ sets list₀ 0 (map tell (replies_of r₀ rows₀))

-- the loop has come to step i, with the record r
pub record Running (steps doors persons answers₀ phases₀ reasons₀ held₀ : List ℕ) (r₀ : Record) (answers phases reasons held : List ℕ) (r : Record) (i : ℕ) : Type 0 where
  pub sound : Sound r
  pub shaped : Shaped r
  pub room : length r.place ≡ most_people
  pub low : i ≤ length steps
  pub last : last_of r (steps_from_at steps doors persons i) ≡ last_of r₀ (rows_of steps doors persons)
  pub answered : Telling answer_told r₀ (rows_of steps doors persons) answers₀ r (steps_from_at steps doors persons i) answers i
  pub phased : Telling phase_told r₀ (rows_of steps doors persons) phases₀ r (steps_from_at steps doors persons i) phases i
  pub reasoned : Telling reason_told r₀ (rows_of steps doors persons) reasons₀ r (steps_from_at steps doors persons i) reasons i
  pub with_doors : Telling held_told r₀ (rows_of steps doors persons) held₀ r (steps_from_at steps doors persons i) held i

pub run_start : {steps doors persons answers phases reasons held : List ℕ} {r : Record} → Sound r → Shaped r → length r.place ≡ most_people
    → Running steps doors persons answers phases reasons held r answers phases reasons held r 0
run_start s sh room =
    record {
      sound = s;
      shaped = sh;
      room = room;
      low = omega arith;
      last = refl;
      answered = record { long = refl; behind = refl };
      phased = record { long = refl; behind = refl };
      reasoned = record { long = refl; behind = refl };
      with_doors = record { long = refl; behind = refl };
    }

-- one more is told
tell_more : (tell : Reply → ℕ) (r₀ r : Record) (rows₀ rows rest : List StepRow) (row : StepRow) (list₀ list : List ℕ) (i : ℕ) (s : Step)
    → rows ≡ row ∷ rest → s ≡ row_of r row → Telling tell r₀ rows₀ list₀ r rows list i
    → Telling tell r₀ rows₀ list₀ s.next rest (set list i (tell (reply_by s))) (i + 1)
unfolding replies_of
tell_more tell r₀ r rows₀ rows rest row list₀ list i s more is t =
    record {
      long = length-set list i (tell (reply_by s)) ∙ t.long;
      behind = rw (add-one i, is) (subst (λ (x : List StepRow). sets list i (map tell (replies_of r x)) ≡ sets list₀ 0 (map tell (replies_of r₀ rows₀))) more t.behind);
    }

-- all is told
tell_end : {tell : Reply → ℕ} {r₀ r : Record} {rows₀ rows : List StepRow} {list₀ list : List ℕ} {i : ℕ} → rows ≡ []
    → Telling tell r₀ rows₀ list₀ r rows list i → list ≡ sets list₀ 0 (map tell (replies_of r₀ rows₀))
unfolding replies_of
tell_end {tell} {r₀} {r} {rows₀} {rows} {list₀} {list} {i} none t =
    subst (λ (x : List StepRow). sets list i (map tell (replies_of r x)) ≡ sets list₀ 0 (map tell (replies_of r₀ rows₀))) none t.behind

module _ {steps doors persons answers₀ phases₀ reasons₀ held₀ : List ℕ} {r₀ : Record} {answers phases reasons held : List ℕ} {r : Record} {i : ℕ} where
  pub run_more : (s : Step) → Running steps doors persons answers₀ phases₀ reasons₀ held₀ r₀ answers phases reasons held r i → Has steps doors persons i
      → s ≡ sound_step r (kind_of (get_or steps i 0)) (get_or doors i 0) (get_or persons i 0)
      → Running steps doors persons answers₀ phases₀ reasons₀ held₀ r₀ (set answers i (answer_no s.answer)) (set phases i s.phase) (set reasons i s.reason) (set held i s.held) s.next (i + 1)
  unfolding last_of
  run_more s run has is =
      let k = kind_of (get_or steps i 0) in
      let d = get_or doors i 0 in
      let p = get_or persons i 0 in
      let more = rows_cons steps doors persons i has in
      let step : s ≡ step_of r k d p = is ∙ sym (sound_steps r k d p run.shaped run.sound) in
      let in_List = has.a_step in
      record {
        sound = rw step (sound_stays r k d p run.shaped run.sound);
        shaped = rw step (shaped_stays r k d p run.shaped);
        room = rw step (room_stays r k d p ∙ run.room);
        low = omega arith;
        last = rw step (rw more at run.last);
        answered = tell_more answer_told r₀ r _ _ _ (row_at steps doors persons i) answers₀ answers i s more step run.answered;
        phased = tell_more phase_told r₀ r _ _ _ (row_at steps doors persons i) phases₀ phases i s more step run.phased;
        reasoned = tell_more reason_told r₀ r _ _ _ (row_at steps doors persons i) reasons₀ reasons i s more step run.reasoned;
        with_doors = tell_more held_told r₀ r _ _ _ (row_at steps doors persons i) held₀ held i s more step run.with_doors;
      }

  module _ (run : Running steps doors persons answers₀ phases₀ reasons₀ held₀ r₀ answers phases reasons held r i) (over : length steps ≤ i) where
    pub run_last : r ≡ last_of r₀ (rows_of steps doors persons)
    unfolding last_of
    run_last = rw (rows_end steps doors persons i over) at run.last

    pub run_answers : answers ≡ sets answers₀ 0 (map answer_told (replies_of r₀ (rows_of steps doors persons)))
    run_answers = tell_end (rows_end steps doors persons i over) run.answered

    pub run_phases : phases ≡ sets phases₀ 0 (map phase_told (replies_of r₀ (rows_of steps doors persons)))
    run_phases = tell_end (rows_end steps doors persons i over) run.phased

    pub run_reasons : reasons ≡ sets reasons₀ 0 (map reason_told (replies_of r₀ (rows_of steps doors persons)))
    run_reasons = tell_end (rows_end steps doors persons i over) run.reasoned

    pub run_held : held ≡ sets held₀ 0 (map held_told (replies_of r₀ (rows_of steps doors persons)))
    run_held = tell_end (rows_end steps doors persons i over) run.with_doors

-- ---- how a run ends: s is what the test of soundness told, b whether there is room

module _ (r : Record) (rows : List StepRow) (room : Bool) (s : Bool) (tested : s ≡ sound_b r) where
  pub ran_unsound : not s ≡ true → ◌≡◌ {A = Ran} (record { next = r; answer = Unsound }) (ran_of r rows room)
  unfolding ran_of
  ran_unsound no_way = rw (← tested, not-true s no_way)

  pub ran_short : (b : Bool) → not s ≡ false → b ≡ room → not b ≡ true → ◌≡◌ {A = Ran} (record { next = r; answer = TooShort }) (ran_of r rows room)
  unfolding ran_of
  ran_short b fine is no_room = rw (← tested, not-false s fine, ← is, not-true b no_room)

  pub ran_done : (b : Bool) (last : Record) → not s ≡ false → b ≡ room → not b ≡ false → last ≡ last_of r rows
      → ◌≡◌ {A = Ran} (record { next = last; answer = Done }) (ran_of r rows room)
  unfolding ran_of
  ran_done b last fine is enough e = rw (← tested, not-false s fine, ← is, not-false b enough, e)

module _ (r : Record) (room : Bool) (told list : List ℕ) (s : Bool) (tested : s ≡ sound_b r) where
  pub telling_unsound : not s ≡ true → list ≡ telling_of r room told list
  unfolding telling_of and_also
  telling_unsound no_way = rw (← tested, not-true s no_way)

  pub telling_short : (b : Bool) → not s ≡ false → b ≡ room → not b ≡ true → list ≡ telling_of r room told list
  unfolding telling_of and_also
  telling_short b fine is no_room = rw (← tested, not-false s fine, ← is, not-true b no_room)

  pub telling_done : (b : Bool) (written : List ℕ) → not s ≡ false → b ≡ room → not b ≡ false → written ≡ sets list 0 told → written ≡ telling_of r room told list
  unfolding telling_of and_also
  telling_done b written fine is enough e = rw (← tested, not-false s fine, ← is, not-false b enough) e

-- where there is room every list is long enough
pub room : (a b c d e f g : ℕ) → room_for a b c d e f g ≡ true → RunRoom a b c d e f g
unfolding room_for
room a b c d e f g enough =
    let all =
    (tell_and (tell_le a b) (tell_and (tell_le a c) (tell_and (tell_le a d) (tell_and (tell_le a e) (tell_and (tell_le a f) (tell_le a g)))))).yes enough
    in
    record {
      in_doors = all.0;
      in_persons = all.1.0;
      in_answers = all.1.1.0;
      in_phases = all.1.1.1.0;
      in_reasons = all.1.1.1.1.0;
      in_held = all.1.1.1.1.1;
    }
