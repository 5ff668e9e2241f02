-- How long a light burns, by what a run tells; what is said is in `specs/Burning.antt`. Assumes nothing.
--     lights-told     of every run from a sound record, a fresh one among them
use Prim.Native.Nat.{ℕ, suc, ◌+◌, ◌≤◌, ◌<◌}
use mathlib.Core.Path.{◌≡◌, refl, sym, ap, subst, ◌∙◌}
use mathlib.Core.Bool.{Bool, true, false, cond}
use mathlib.Core.Logic.{⊎_elim}
use mathlib.Core.List.{List, [], ◌∷◌, ◌++◌, append-nil, append_assoc}
use native.Mathlib.Omega.{arith}
use borrow.Author.Tests.{ltb-true, ltb-false}
use lib.ListN.{get_or}
use lib.Dec.{eqb, ltb}
use Rattle.tables.specs.Tables.{Plan, or_else, and_also}
use Rattle.tables.proofs.Cases.{same_or_not}
use Rattle.tables.proofs.Laws.{clash}
use Rattle.door.specs.declared.Door.{Door}
use Rattle.door.specs.Door.{door}
use Rattle.door_does.specs.declared.Does.TheVariants.{Turns}
use Rattle.door_does.specs.Does.{effect}
use Rattle.phases.specs.declared.table.Kind.{Kind}
use Rattle.phases.specs.declared.table.Kind.TheVariants.{Green, Red, Walk, Tick}
use Rattle.phases.specs.declared.answer.Answer.TheVariants.{Done}
use Rattle.phases.specs.Answers.{answer_no}
use Rattle.phases.specs.Phase.{green, walked, expired, red, dimmed, green_span, red_span, lit}
use Rattle.phases.specs.declared.table.StepRow.{StepRow}
use Rattle.phases.specs.Kinds.{number_of_kind, allows}
use Rattle.record.specs.declared.record.Record.{Record}
use Rattle.record.specs.declared.steps.Step.{Step}
use Rattle.record.specs.Doors.{door_of, Shaped}
use Rattle.record.specs.Sound.{Sound}
use Rattle.record.specs.Steps.{reason_for, doing}
use Rattle.record.specs.Run.{reply_by, row_of, replies_of}
use Rattle.record.specs.Lights.{is_tick, ticks, Each, end, step}
use Rattle.record.proofs.Laws.{done_did, step_done, act_done, shaped_stays, sound_stays, plan_stays, becomes, door_after, tick_done, tick_last, tick_after, burnt, Calm, is_tick_lem, ticks_on, ticks_idle, ticks_off, Burning, burns_next, calm_row, only_walk}
use Rattle.run_events.specs.Lines.{Line, lines_of, heard_of, rows_heard}
use Rattle.run_events.specs.Burning.{Orders, EndsPhase, OnlyTicks, StillLit, WentOut, ticks_in, burned, LightsTold}
use Rattle.run_events.proofs.Steps.{heard_line, act_reply, is_done}
use Rattle.run_events.proofs.Spells.{differ}

-- ---- ticks

ticks_more : (d : ℕ) (row : StepRow) (rows : List StepRow) → ticks d (row ∷ rows) ≡ ticks d (row ∷ []) + ticks d rows
unfolding ticks
ticks_more d row rows = go (and_also (eqb row.at d) (is_tick row.kind))
  where
    go : (b : Bool) → cond b (suc (ticks d rows)) (ticks d rows) ≡ cond b 1 0 + ticks d rows
    go true = omega arith
    go false = omega arith

ticks_both : (d : ℕ) (lines more : List Line) → ticks_in d (lines ++ more) ≡ ticks_in d lines + ticks_in d more
unfolding rows_heard ticks
ticks_both d [] more = omega arith
ticks_both d (line ∷ lines) more =
    let a = ticks_more d line.row (rows_heard (lines ++ more)) in
    let b = ticks_more d line.row (rows_heard lines) in
    let c = ticks_both d lines more in
    omega arith

-- a row alone
module _ (d : ℕ) (row : StepRow) where
  one_tick : row.at ≡ d → is_tick row.kind ≡ true → ticks d (row ∷ []) ≡ 1
  unfolding ticks
  one_tick = ticks_on d row []

  idle_row : is_tick row.kind ≡ false → ticks d (row ∷ []) ≡ 0
  unfolding ticks
  idle_row = ticks_idle d row []

  other_row : (row.at ≡ d → ⊥) → ticks d (row ∷ []) ≡ 0
  unfolding ticks
  other_row = ticks_off d row []

-- ---- what a line tells of its step

-- the phase told of a step that was done is its door's phase afterwards
phase_told_lem : (r : Record) (row : StepRow) → Shaped r → Sound r → (row_of r row).answer ≡ Done
    → (row_of r row).phase ≡ (door_of (row_of r row).next row.at).phase
phase_told_lem r row sh s done =
    let did = (done_did r row.kind row.at row.person done).1 in
    ap (λ (x : Step). (reply_by x).phase) did
    ∙ ap (λ reply. reply.phase) (act_reply r row.at (doing r row.kind row.at row.person))
    ∙ sym (ap (λ (c : Door). c.phase) (door_after r row.kind row.at row.person sh s done))

-- ---- one step at a light that burns

burnt_dark : (ph : ℕ) → lit (burnt ph) ≡ false
unfolding burnt lit or_else
burnt_dark ph = go (eqb ph green)
  where
    go : (b : Bool) → lit (cond b expired dimmed) ≡ false
    go true = refl
    go false = refl

-- with a countdown of n the light burns on, less by the row's tick, or the row's line ends its phase
data Onward (ph d h n : ℕ) (row : StepRow) (z : Step) : Type 0 where
  on : (m : ℕ) → door_of z.next d ≡ door ph h m → m + ticks d (row ∷ []) ≡ n → 0 < m → OnlyTicks d (heard_line row z) → (EndsPhase d ph (heard_line row z) → ⊥)
      → Onward ph d h n row z
  off : ticks d (row ∷ []) ≤ n → ((row.kind ≡ Walk → ⊥) → ticks d (row ∷ []) ≡ n) → (row.kind ≡ Walk → ph ≡ green) → EndsPhase d ph (heard_line row z)
      → Onward ph d h n row z

module _ (ph d h n : ℕ) (r : Record) (b : Burning ph d h [] r n) (row : StepRow) where
  abbrev z : Step
  z = row_of r row

  some : 0 < n
  unfolding ticks
  some = b.more

  -- a step at the door that was done and left it in another phase ends this one
  ends_with : row.at ≡ d → (row_of r row).answer ≡ Done → (c : Door) → door_of (row_of r row).next d ≡ c → (c.phase ≡ ph → ⊥) → EndsPhase d ph (heard_line row z)
  ends_with at done c to other =
      record {
        acts = record { here = at; done = ap answer_no done };
        other = λ same. other (sym (phase_told_lem r row b.shaped b.sound done ∙ ap (λ (x : Door). x.phase) (subst (λ (e : ℕ). door_of (row_of r row).next e ≡ c) (sym at) to)) ∙ same);
      }

  -- a calm step that is done there is a tick
  only_ticks : Calm ph d row → OnlyTicks d (heard_line row z)
  only_ticks calm acts = go (is_tick row.kind) refl
    where
      may : allows row.kind ph ≡ true
      may =
          rw (sym (ap (λ (c : Door). c.phase) b.now), sym acts.here)
          (done_did r row.kind row.at row.person (is_done _ acts.done)).0.allowed

      go : (tick : Bool) → is_tick row.kind ≡ tick → row.kind ≡ Tick
      go true e = is_tick_lem row.kind e
      go false e = clash may (calm acts.here e)

  -- a calm step that isn't the last tick
  burns_on : Calm ph d row → ticks d (row ∷ []) < n → Onward ph d h n row z
  unfolding ticks
  burns_on calm few =
      let one = calm_row r d ph h n row [] (record { shaped = b.shaped; sound = b.sound; exists = b.exists; burns = b.burns; now = b.now; more = few }) calm in
      let sum = one.2 in
      on one.0 one.1 (omega arith) (omega arith) (only_ticks calm)
      (λ ends.
      let to = subst (λ (e : ℕ). door_of (row_of r row).next e ≡ door ph h one.0) (sym ends.acts.here) one.1 in
      ends.other (phase_told_lem r row b.shaped b.sound (is_done _ ends.acts.done) ∙ ap (λ (c : Door). c.phase) to))

  -- a tick of the door
  at_tick : row.at ≡ d → is_tick row.kind ≡ true → Onward ph d h n row z
  at_tick at tick = go (ltb 1 n) refl
    where
      one : ticks d (row ∷ []) ≡ 1
      one = one_tick d row at tick

      is : row.kind ≡ Tick
      is = is_tick_lem row.kind tick

      no_walk : row.kind ≡ Walk → ⊥
      no_walk walks = omega (arith, ap number_of_kind (sym is ∙ walks))

      out : n ≤ 1 → EndsPhase d ph (heard_line row z)
      out last =
          ends_with at (rw (is, at) (tick_done r d row.person b.shaped b.sound b.exists)) (door (burnt ph) h 0)
          (rw (is, at)
          (tick_after r d row.person ph h n (door (burnt ph) h 0) b.shaped b.sound b.exists b.now
          (tick_last ph h n row.person (reason_for r d (get_or r.holder d 0)) b.burns last)))
          (λ same. clash b.burns (subst (λ (x : ℕ). lit x ≡ false) same (burnt_dark ph)))

      go : (more : Bool) → ltb 1 n ≡ more → Onward ph d h n row z
      go true e = let more = ltb-true 1 n e in burns_on (λ _ idle. clash tick idle) (omega (arith, one))
      go false e =
          let last = ltb-false 1 n e in
          let least = some in
          off (omega (arith, one)) (λ _. omega (arith, one)) (λ walks. absurd (no_walk walks)) (out last)

  -- any other step at it that is allowed is a `walk`
  at_other : row.at ≡ d → is_tick row.kind ≡ false → Onward ph d h n row z
  unfolding effect
  at_other at idle = go (allows row.kind ph) refl
    where
      none : ticks d (row ∷ []) ≡ 0
      none = idle_row d row idle

      walks : allows row.kind ph ≡ true → (row.kind ≡ Walk) × (ph ≡ green)
      walks e = only_walk ph b.burns row.kind idle e

      in_phase : get_or r.phase d 0 ≡ ph
      in_phase = ap (λ (c : Door). c.phase) b.now

      done : allows row.kind ph ≡ true → (row_of r row).answer ≡ Done
      done e =
          rw at
          (rw (step_done r row.kind d row.person b.shaped b.sound b.exists (λ named. clash named (rw (walks e).0)) (rw in_phase e))
          (act_done r d (doing r row.kind d row.person)))

      opened : allows row.kind ph ≡ true → door_of (row_of r row).next d ≡ door walked h 0
      opened e =
          rw ((walks e).0, at)
          (door_after r Walk d row.person b.shaped b.sound (rw (sym (walks e).0, sym at) (done e)) ∙ ap (λ (c : Door). door walked c.holder 0) b.now)

      go : (may : Bool) → allows row.kind ph ≡ may → Onward ph d h n row z
      go true e =
          off (omega (arith, none)) (λ no_walk. absurd (no_walk (walks e).0)) (λ _. (walks e).1)
          (ends_with at (done e) (door walked h 0) (opened e) (λ z. omega (arith, (walks e).1)))
      go false e = let least = some in burns_on (λ _ _. e) (omega (arith, none))

  onward : Onward ph d h n row z
  onward =
      ⊎_elim (λ at. here at (is_tick row.kind) refl)
      (λ away. let least = some in let none = other_row d row away in burns_on (λ is. absurd (away is)) (omega arith))
      (same_or_not row.at d)
    where
      here : row.at ≡ d → (tick : Bool) → is_tick row.kind ≡ tick → Onward ph d h n row z
      here at true e = at_tick at e
      here at false e = at_other at e

-- ---- one step after the other

-- lines that a record tells of steps
record ToldFrom (lines : List Line) : Type 0 where
  now : Record
  rows : List StepRow
  shaped : Shaped now
  sound : Sound now
  told : heard_of now rows ≡ lines

-- the first of them, and those behind it
record FirstOf (r : Record) (line : Line) (lines : List Line) : Type 0 where
  row : StepRow
  rows : List StepRow
  first : heard_line row (row_of r row) ≡ line
  rest : heard_of (row_of r row).next rows ≡ lines

first_of : (r : Record) (rows : List StepRow) (line : Line) (lines : List Line) → heard_of r rows ≡ line ∷ lines → FirstOf r line lines
unfolding heard_of lines_of replies_of
first_of r [] line lines e = absurd (differ (cc))
first_of r (row ∷ rows) line lines e = record { row = row; rows = rows; first = cc; rest = cc }

-- the lines behind any others are told from the record there
told_behind : (before lines : List Line) → ToldFrom (before ++ lines) → ToldFrom lines
told_behind [] lines t = t
told_behind (line ∷ before) lines t =
    let one = first_of t.now t.rows line (before ++ lines) t.told in
    let row = one.row in
    told_behind before lines
    (record {
      now = (row_of t.now row).next;
      rows = one.rows;
      shaped = shaped_stays t.now row.kind row.at row.person t.shaped;
      sound = sound_stays t.now row.kind row.at row.person t.shaped t.sound;
      told = one.rest;
    })

-- a light that burns with a countdown of m, and lines told from there
record LitFrom (ph d h m : ℕ) (lines : List Line) : Type 0 where
  now : Record
  rows : List StepRow
  burning : Burning ph d h [] now m
  told : heard_of now rows ≡ lines

-- through lines that don't end its phase it loses just their ticks, and of the steps at its door only ticks act
lit_through : (ph d h n : ℕ) (since lines : List Line) → Each (λ line. EndsPhase d ph line → ⊥) since → LitFrom ph d h n (since ++ lines)
    → (m : ℕ) × LitFrom ph d h m lines × (m + ticks_in d since ≡ n) × Each (OnlyTicks d) since
unfolding rows_heard ticks
lit_through ph d h n [] lines end l = (n, l, omega arith, end)
lit_through ph d h n (line ∷ since) lines (step stays each) l = go (onward ph d h n l.now l.burning one.row) (λ m. lit_through ph d h m since lines each)
  where
    one : FirstOf l.now line (since ++ lines)
    one = first_of l.now l.rows line (since ++ lines) l.told

    go : Onward ph d h n one.row (row_of l.now one.row)
        → ((m : ℕ) → LitFrom ph d h m (since ++ lines) → (k : ℕ) × LitFrom ph d h k lines × (k + ticks_in d since ≡ m) × Each (OnlyTicks d) since)
        → (m : ℕ) × LitFrom ph d h m lines × (m + ticks_in d (line ∷ since) ≡ n) × Each (OnlyTicks d) (line ∷ since)
    go (on m to sum least only no_end) behind =
        let rest =
        behind m
        (record { now = (row_of l.now one.row).next; rows = one.rows; burning = burns_next ph d h [] l.now n l.burning one.row [] m to least; told = one.rest }) in
        let same : ticks d (one.row ∷ []) ≡ ticks d (line.row ∷ []) = ap (λ (x : Line). ticks d (x.row ∷ [])) one.first in
        let more = ticks_more d line.row (rows_heard since) in
        let left = rest.2 in
        (rest.0, rest.1, omega arith, step (subst (OnlyTicks d) one.first only) rest.3)
    go (off _ _ _ ends) behind = absurd (stays (subst (EndsPhase d ph) one.first ends))

-- ---- a light from its order on

-- what an order for a light sets: the light burns in phase ph, with this countdown
record LightOf (order : Kind) (ph span : ℕ) : Type 0 where
  sets : (p why : ℕ) (c : Door) → effect order p why c ≡ Turns (door ph c.holder span) 0
  burns : lit ph ≡ true
  some : 0 < span

module _ (order : Kind) (ph span : ℕ) (light : LightOf order ph span) (d : ℕ) where
  -- so it burns after a step that orders it
  lit_after : (r : Record) → Shaped r → Sound r → (row : StepRow) → row.at ≡ d → row.kind ≡ order → (row_of r row).answer ≡ Done
      → Burning ph d (get_or r.holder d 0) [] (row_of r row).next span
  unfolding ticks
  lit_after r sh s row at kind done =
      let k = row.kind in
      let p = row.person in
      let there = (done_did r k row.at p done).0.a_door in
      let turns : doing r k row.at p ≡ Turns (door ph (get_or r.holder row.at 0) span) 0 =
      rw kind (light.sets p (reason_for r row.at (get_or r.holder row.at 0)) (door_of r row.at)) in
      record {
        shaped = shaped_stays r k row.at p sh;
        sound = sound_stays r k row.at p sh s;
        exists = rw (ap (λ (site : Plan). site.doors) (plan_stays r k row.at p)) (rw at at there);
        burns = light.burns;
        now = subst (λ (e : ℕ). door_of (row_of r row).next e ≡ door ph (get_or r.holder e 0) span) at (door_after r k row.at p sh s done ∙ ap (becomes (door_of r row.at)) turns);
        more = light.some;
      }

  lit_from : (ordered : Line) (lines : List Line) → Orders d order ordered → ToldFrom (ordered ∷ lines) → (h : ℕ) × LitFrom ph d h span lines
  lit_from ordered lines o t =
      let one = first_of t.now t.rows ordered lines t.told in
      let at = ap (λ (line : Line). line.row.at) one.first ∙ o.acts.here in
      let kind = ap (λ (line : Line). line.row.kind) one.first ∙ o.step in
      let done = is_done _ (ap (λ (line : Line). line.reply.answer) one.first ∙ o.acts.done) in (
        get_or t.now.holder d 0,
        record {
          now = (row_of t.now one.row).next;
          rows = one.rows;
          burning = lit_after t.now t.shaped t.sound one.row at kind done;
          told = one.rest;
        },
      )

  -- and burns through lines that don't end its phase: ticks of its door, fewer than its span, and no other step there
  still : (lines : List Line) → ToldFrom lines → (l : StillLit d order ph lines) → (ticks_in d l.since < span) × Each (OnlyTicks d) l.since
  unfolding ticks
  still lines t l =
      let from = lit_from l.ordered l.since l.orders (told_behind l.before (l.ordered ∷ l.since) (subst ToldFrom l.split t)) in
      let on = lit_through ph d from.0 span l.since [] l.burns (subst (LitFrom ph d from.0 span) (sym (append-nil l.since)) from.1) in
      let least = on.1.burning.more in
      let sum = on.2 in
      (omega arith, on.3)

  -- up to the line that ends its phase it has lost at most its span, just that where no `walk` ends it, and no `walk` ends any but green
  record Over {lines : List Line} (w : WentOut d order ph lines) : Type 0 where
    at_most : burned w ≤ span
    exactly : (w.ending.row.kind ≡ Walk → ⊥) → burned w ≡ span
    walked_green : w.ending.row.kind ≡ Walk → ph ≡ green

  over : (lines : List Line) → ToldFrom lines → (w : WentOut d order ph lines) → Over w
  unfolding rows_heard
  over lines t w = go (onward ph d from.0 through.0 through.1.now through.1.burning one.row)
    where
      whole : lines ≡ w.lit.before ++ (w.lit.ordered ∷ (w.lit.since ++ (w.ending ∷ w.after)))
      whole = w.split ∙ (ap (λ (x : List Line). x ++ (w.ending ∷ w.after)) w.lit.split ∙ append_assoc w.lit.before (w.lit.ordered ∷ w.lit.since) (w.ending ∷ w.after))

      from : (h : ℕ) × LitFrom ph d h span (w.lit.since ++ (w.ending ∷ w.after))
      from = lit_from w.lit.ordered _ w.lit.orders (told_behind w.lit.before (w.lit.ordered ∷ (w.lit.since ++ (w.ending ∷ w.after))) (subst ToldFrom whole t))

      through : (m : ℕ) × LitFrom ph d from.0 m (w.ending ∷ w.after) × (m + ticks_in d w.lit.since ≡ span) × Each (OnlyTicks d) w.lit.since
      through = lit_through ph d from.0 span w.lit.since (w.ending ∷ w.after) w.lit.burns from.1

      one : FirstOf through.1.now w.ending w.after
      one = first_of through.1.now through.1.rows w.ending w.after through.1.told

      row_is : one.row ≡ w.ending.row
      row_is = ap (λ (line : Line). line.row) one.first

      go : Onward ph d from.0 through.0 one.row (row_of through.1.now one.row) → Over w
      go (on m to sum least only no_end) = absurd (no_end (subst (EndsPhase d ph) (sym one.first) w.ends))
      go (off most exact by_walk ends) =
          let sum = through.2 in
          let all = ticks_both d w.lit.since (w.ending ∷ []) in
          let last : ticks d (one.row ∷ []) ≡ ticks d (w.ending.row ∷ []) = ap (λ (row : StepRow). ticks d (row ∷ [])) row_is in
          record {
            at_most = omega arith;
            exactly = λ no_walk. let just = exact (λ walks. no_walk (rw row_is at walks)) in omega arith;
            walked_green = λ walks. by_walk (rw row_is walks);
          }

-- ---- the two lights

green_light : LightOf Green green green_span
unfolding effect lit or_else
green_light = record { sets = λ p why c. refl; burns = refl; some = omega arith }

red_light : LightOf Red red red_span
unfolding effect lit or_else
red_light = record { sets = λ p why c. refl; burns = refl; some = omega arith }

pub lights_told : (r : Record) → Shaped r → Sound r → (rows : List StepRow) → LightsTold (heard_of r rows)
lights_told r sh s rows =
    record {
      green_at_most = λ {d} w. (over Green green green_span green_light d _ told w).at_most;
      green_exactly = λ {d} w. (over Green green green_span green_light d _ told w).exactly;
      green_on = λ {d} l. (still Green green green_span green_light d _ told l).0;
      green_once = λ {d} l. (still Green green green_span green_light d _ told l).1;
      red_exactly = λ {d} w.
          let o = over Red red red_span red_light d _ told w in
          o.exactly (λ walks. omega (arith, o.walked_green walks));
      red_on = λ {d} l. (still Red red red_span red_light d _ told l).0;
      red_once = λ {d} l. (still Red red red_span red_light d _ told l).1;
    }
  where
    told : ToldFrom (heard_of r rows)
    told = record { now = r; rows = rows; shaped = sh; sound = s; told = refl }
