-- The account of one door: what was open there and what its lines say are what its events say and what is open then. An account that
-- is fair at each step that is done (`Fair`) is so of a whole run (`whole_account`). Two are: the persons of the cards, and the
-- decisions. Assumes nothing.
use Prim.Native.Nat.{ℕ, ◌+◌}
use mathlib.Core.Path.{◌≡◌, refl, sym, ap, ◌∙◌}
use mathlib.Core.Bool.{Bool, true, false, cond, false≢true}
use mathlib.Core.Logic.{⊎_elim}
use mathlib.Core.List.{List, [], ◌∷◌, ◌++◌, map, append-nil, append_assoc}
use borrow.Author.Tests.{eqb-true, eq-eqb, ne_eqb}
use lib.ListN.{get_or}
use lib.Dec.{eqb}
use Rattle.tables.specs.Tables.{and_also}
use Rattle.tables.proofs.Cases.{same_or_not}
use Rattle.door.specs.declared.Door.{Door}
use Rattle.door_does.specs.declared.Does.{Does}
use Rattle.door_does.specs.Does.{effect}
use Rattle.phases.specs.declared.table.Kind.{Kind}
use Rattle.phases.specs.declared.table.Kind.TheVariants.{Card, Decide, Green, Red, Walk, Tick, Passed, Lapsed, Dark, Ack, Unknown}
use Rattle.phases.specs.declared.answer.Answer.{Answer}
use Rattle.phases.specs.declared.answer.Answer.TheVariants.{Done}
use Rattle.phases.specs.Answers.{answer_no}
use Rattle.phases.specs.Phase.{free, read, walked, expired, closed, grants}
use Rattle.phases.specs.declared.table.StepRow.{StepRow}
use Rattle.phases.specs.Kinds.{allows}
use Rattle.record.specs.declared.record.Record.{Record}
use Rattle.record.specs.declared.steps.Step.{Step}
use Rattle.record.specs.Doors.{door_of, Shaped}
use Rattle.record.specs.Sound.{Sound}
use Rattle.granting.specs.Reasons.{held_with}
use Rattle.record.specs.Steps.{reason_for, held_for, act, refused, doing}
use Rattle.record.specs.Run.{Reply, row_of, last_of, replies_of}
use Rattle.record.proofs.Laws.{becomes, Allowed, step_cases, allowed_does, others_stay, act_done, sound_stays, shaped_stays}
use Rattle.run_events.specs.Lines.{Line, lines_of, heard_of}
use Rattle.run_events.specs.Events.{What, Grant, Denial, Passage, Lapse, RunEvent, event}
use Rattle.run_events.specs.Told.{Standing, standing_at, what_by, seen_of, events_seen}
use Rattle.run_events.proofs.Doors.{done_reply, a_green, a_red, a_walk, a_tick, a_dark, stands}
use Rattle.run_events.proofs.Steps.{heard_line, act_reply, not_done, door_here}
use Rattle.card_by_card.specs.Serving.{ends_card, recorded}
use Rattle.card_by_card.specs.Served.{done_by, done_at, events_at, taken_by, person_of, open_of, decision_by, granted_reply, denied_reply, grant_open}

-- what a step that is done in row n, at door d, records of the person whom the door holds
abbrev pub recorded_by : ℕ → ℕ → ℕ → Kind → ℕ → ℕ → List RunEvent
recorded_by n d holder k why held = recorded (map (event n d holder) (what_by k why held))

-- the line of a step that does x at its door, which was c, `held` being the door that is told with each reason
abbrev pub line_by : (ℕ → ℕ) → Kind → ℕ → ℕ → Door → Does → Line
line_by held k d p c x = record { row = record { kind = k; at = d; person = p }; reply = done_reply held c x }

pub recorded_both : (es fs : List RunEvent) → recorded (es ++ fs) ≡ recorded es ++ recorded fs
unfolding recorded
recorded_both [] fs = refl
recorded_both (e ∷ es) fs =
    ap (λ (l : List RunEvent). cond (ends_card e.what) (e ∷ []) [] ++ l) (recorded_both es fs)
    ∙ sym (append_assoc (cond (ends_card e.what) (e ∷ []) []) (recorded es) (recorded fs))

-- an account: what lines say, what events say, and what is open at a door
module _ {A : Type 0} (say : Line → List A) (ends : RunEvent → List A) (left : Standing → List A) where
  -- the account of a step that does x at door d, which was c
  pub record Account (held : ℕ → ℕ) (n d p why : ℕ) (c : Door) (k : Kind) (x : Does) : Type 0 where
    pub all : left (standing_at c) ++ say (line_by held k d p c x) ≡ events_at ends d (recorded_by n d c.holder k why (held why)) ++ left (standing_at (becomes c x))

  -- fair at each step that is done, where no door is told without a reason
  pub record Fair : Type 0 where
    pub each : (held : ℕ → ℕ) → held 0 ≡ 0 → (n d p why : ℕ) (c : Door) (k : Kind) → allows k c.phase ≡ true → Account held n d p why c k (effect k p why c)

  -- a step of which nothing is said, that records nothing and leaves open what was open
  goes_on : (held : ℕ → ℕ) (n d p why : ℕ) (c : Door) {k : Kind} {x : Does} → say (line_by held k d p c x) ≡ [] → what_by k why (held why) ≡ []
      → standing_at (becomes c x) ≡ standing_at c → Account held n d p why c k x
  unfolding recorded events_at
  goes_on held n d p why c quiet none same = record { all = rw (quiet, none, same) (append-nil (left (standing_at c))) }

  -- what a line says elsewhere, and what is recorded there: nothing
  none_said : (line : Line) (d : ℕ) → (d ≡ line.row.at → ⊥) → done_by say d line ≡ []
  unfolding done_by and_also
  none_said line d ne = rw (ne_eqb d line.row.at ne) (go (eqb line.reply.answer 0))
    where
      go : (b : Bool) → cond (and_also b false) (say line) [] ≡ []
      go true = refl
      go false = refl

  none_ended : (n at person : ℕ) (whats : List What) (d : ℕ) → (d ≡ at → ⊥) → events_at ends d (recorded (map (event n at person) whats)) ≡ []
  unfolding recorded events_at
  none_ended n at person [] d ne = refl
  none_ended n at person (what ∷ whats) d ne = go (ends_card what) (none_ended n at person whats d ne)
    where
      go : (b : Bool) → events_at ends d (recorded (map (event n at person) whats)) ≡ []
          → events_at ends d (cond b (event n at person what ∷ []) [] ++ recorded (map (event n at person) whats)) ≡ []
      go true on = rw (ne_eqb d at ne) on
      go false on = on

  abbrev pub open_at : Record → ℕ → List A
  open_at r d = left (standing_at (door_of r d))

  -- the account of one step of a run, in row n, with what it handed back, at every door
  record Kept (n : ℕ) (r : Record) (row : StepRow) (z : Step) : Type 0 where
    at_each : (d : ℕ) → open_at r d ++ done_by say d (heard_line row z) ≡ events_at ends d (recorded (seen_of n r row z)) ++ open_at z.next d

  module _ (fair : Fair) (n : ℕ) (r : Record) (sh : Shaped r) (s : Sound r) (row : StepRow) where
    -- of a refused step nothing is said, and it records nothing
    kept_refused : (a : Answer) (ph : ℕ) → (a ≡ Done → ⊥) → Kept n r row (refused r a ph)
    unfolding recorded done_by and_also events_at
    kept_refused a ph no_way = record { at_each = λ d. rw (not_done a no_way) (append-nil (open_at r d)) }

    -- a step that is done
    module _ (w : Allowed r row.kind row.at row.person) where
      abbrev x : Does
      x = doing r row.kind row.at row.person

      abbrev z : Step
      z = act r row.at x

      -- the door that the record tells with each reason
      abbrev told_with : ℕ → ℕ
      told_with = held_for r (get_or r.holder row.at 0)

      done : eqb (answer_no z.answer) 0 ≡ true
      done = ap (λ (a : Answer). eqb (answer_no a) 0) (act_done r row.at x)

      said_here : done_by say row.at (heard_line row z) ≡ say (line_by told_with row.kind row.at row.person (door_of r row.at) x)
      unfolding done_by and_also
      said_here = rw (eq-eqb row.at row.at refl, done) (ap (λ (reply : Reply). say (record { row = row; reply = reply })) (act_reply r row.at x))

      -- at the step's own door
      here : open_at r row.at ++ done_by say row.at (heard_line row z) ≡ events_at ends row.at (recorded (seen_of n r row z)) ++ open_at z.next row.at
      unfolding held_with
      here =
          rw (said_here, done, door_here r row.kind row.at row.person sh s w)
          (fair.each told_with refl n row.at row.person _ (door_of r row.at) row.kind w.allowed).all

      -- and at every other
      there : (d : ℕ) → (d ≡ row.at → ⊥) → open_at r d ++ done_by say d (heard_line row z) ≡ events_at ends d (recorded (seen_of n r row z)) ++ open_at z.next d
      there d ne =
          rw (none_said (heard_line row z) d ne, done, none_ended n row.at (get_or r.holder row.at 0) (what_by row.kind (reason_for r row.at (get_or r.holder row.at 0)) (told_with (reason_for r row.at (get_or r.holder row.at 0)))) d ne, rw (allowed_does r row.kind row.at row.person w) at (others_stay r row.kind row.at row.person d ne))
          (append-nil (open_at r d))

      kept_done : Kept n r row z
      kept_done = record { at_each = λ d. ⊎_elim (λ is. rw is here) (there d) (same_or_not d row.at) }

    -- any step
    kept : Kept n r row (row_of r row)
    kept = step_cases (Kept n r row) r row.kind row.at row.person kept_refused kept_done

  ended_both : (d : ℕ) (es fs : List RunEvent) → events_at ends d (es ++ fs) ≡ events_at ends d es ++ events_at ends d fs
  unfolding events_at
  ended_both d [] fs = refl
  ended_both d (e ∷ es) fs =
      ap (λ (l : List A). cond (eqb d e.at) (ends e) [] ++ l) (ended_both d es fs)
      ∙ sym (append_assoc (cond (eqb d e.at) (ends e) []) (events_at ends d es) (events_at ends d fs))

  -- two accounts, one after the other
  joined : (was said₁ ended₁ between said₂ ended₂ now : List A) → was ++ said₁ ≡ ended₁ ++ between → between ++ said₂ ≡ ended₂ ++ now
      → was ++ (said₁ ++ said₂) ≡ ended₁ ++ ended₂ ++ now
  joined was said₁ ended₁ between said₂ ended₂ now first second =
      sym (append_assoc was said₁ said₂) ∙ rw first (append_assoc ended₁ between said₂ ∙ rw second (sym (append_assoc ended₁ ended₂ now)))

  -- the account of a whole run, its events seen in the record from row n on
  pub whole_account : Fair → (rows : List StepRow) (n : ℕ) (r : Record) → Shaped r → Sound r → (d : ℕ)
      → open_at r d ++ done_at say d (heard_of r rows) ≡ events_at ends d (recorded (events_seen n r rows)) ++ open_at (last_of r rows) d
  unfolding events_seen last_of heard_of lines_of replies_of done_at events_at recorded
  whole_account fair [] n r sh s d = append-nil (open_at r d)
  whole_account fair (row ∷ rows) n r sh s d =
      let es = seen_of n r row (row_of r row) in
      let next = (row_of r row).next in
      let fs = events_seen (n + 1) next rows in
      let on = whole_account fair rows (n + 1) next (shaped_stays r row.kind row.at row.person sh) (sound_stays r row.kind row.at row.person sh s) d in
      rw (recorded_both es fs, ended_both d (recorded es) (recorded fs))
      (joined (open_at r d) (done_by say d (heard_line row (row_of r row))) (events_at ends d (recorded es)) (open_at next d) (done_at say d (heard_of next rows)) (events_at ends d (recorded fs)) (open_at (last_of next rows) d) ((kept fair n r sh s row).at_each d) on)

-- ---- the persons of the cards, and the decisions

-- the decision of a card that an event ends
unfoldable pub decision_of : What → List Reply
decision_of Grant = []
decision_of (Denial why held) = denied_reply why held ∷ []
decision_of Passage = granted_reply ∷ []
decision_of Lapse = granted_reply ∷ []

abbrev pub decision_ends : RunEvent → List Reply
decision_ends e = decision_of e.what

module _ (held : ℕ → ℕ) (unheld : held 0 ≡ 0) (n d p why : ℕ) (c : Door) where
  abbrev OfPersons : Kind → Does → Type 0
  OfPersons k x = Account taken_by person_of open_of held n d p why c k x

  persons : (k : Kind) → allows k c.phase ≡ true → OfPersons k (effect k p why c)
  unfolding allows effect what_by recorded ends_card taken_by events_at open_of standing_at grants and_also
  persons Card ok = record { all = rw (eqb-true c.phase free ok) }
  persons Decide ok = go (eqb why 0) refl (eqb-true c.phase read ok)
    where
      go : (t : Bool) → eqb why 0 ≡ t → c.phase ≡ read → OfPersons Decide (effect Decide p why c)
      go true e is = record { all = rw (e, is) }
      go false e is = record { all = rw (e, is, eq-eqb d d refl) }
  persons Green ok = goes_on taken_by person_of open_of held n d p why c refl refl (stands p why c a_green ok)
  persons Red ok = goes_on taken_by person_of open_of held n d p why c refl refl (stands p why c a_red ok)
  persons Walk ok = goes_on taken_by person_of open_of held n d p why c refl refl (stands p why c a_walk ok)
  persons Tick ok = goes_on taken_by person_of open_of held n d p why c refl refl (stands p why c a_tick ok)
  persons Passed ok = record { all = rw (eqb-true c.phase walked ok, eq-eqb d d refl) }
  persons Lapsed ok = record { all = rw (eqb-true c.phase expired ok, eq-eqb d d refl) }
  persons Dark ok = goes_on taken_by person_of open_of held n d p why c refl refl (stands p why c a_dark ok)
  persons Ack ok = record { all = rw (eqb-true c.phase closed ok) }
  persons Unknown ok = absurd (false≢true ok)

  abbrev OfDecisions : Kind → Does → Type 0
  OfDecisions k x = Account decision_by decision_ends grant_open held n d p why c k x

  decisions : (k : Kind) → allows k c.phase ≡ true → OfDecisions k (effect k p why c)
  unfolding allows effect what_by recorded ends_card decision_by decision_of events_at grant_open standing_at grants and_also
  decisions Card ok = record { all = rw (eqb-true c.phase free ok) }
  decisions Decide ok = go (eqb why 0) refl (eqb-true c.phase read ok)
    where
      go : (t : Bool) → eqb why 0 ≡ t → c.phase ≡ read → OfDecisions Decide (effect Decide p why c)
      go true e is = record { all = rw (e, is, unheld) }
      go false e is = record { all = rw (e, is, eq-eqb d d refl) }
  decisions Green ok = goes_on decision_by decision_ends grant_open held n d p why c refl refl (stands p why c a_green ok)
  decisions Red ok = goes_on decision_by decision_ends grant_open held n d p why c refl refl (stands p why c a_red ok)
  decisions Walk ok = goes_on decision_by decision_ends grant_open held n d p why c refl refl (stands p why c a_walk ok)
  decisions Tick ok = goes_on decision_by decision_ends grant_open held n d p why c refl refl (stands p why c a_tick ok)
  decisions Passed ok = record { all = rw (eqb-true c.phase walked ok, eq-eqb d d refl) }
  decisions Lapsed ok = record { all = rw (eqb-true c.phase expired ok, eq-eqb d d refl) }
  decisions Dark ok = goes_on decision_by decision_ends grant_open held n d p why c refl refl (stands p why c a_dark ok)
  decisions Ack ok = record { all = rw (eqb-true c.phase closed ok) }
  decisions Unknown ok = absurd (false≢true ok)

pub persons_fair : Fair taken_by person_of open_of
persons_fair = record { each = persons }

pub decisions_fair : Fair decision_by decision_ends grant_open
decisions_fair = record { each = decisions }
