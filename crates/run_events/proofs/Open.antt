-- The door that a denial for reason 3 names has an open grant of its person, by the events alone; what is said is in `specs/Open.antt`.
-- Assumes nothing.
--     fresh-names     of every run from a fresh record
use Prim.Native.Nat.{ℕ, ◌+◌}
use mathlib.Core.Path.{◌≡◌, sym, ap, subst, ◌∙◌}
use mathlib.Core.Bool.{Bool, true, false, cond}
use mathlib.Core.Logic.{⊎_elim}
use mathlib.Core.List.{List, [], ◌∷◌, ◌++◌, map, append-nil, append_assoc}
use lib.ListN.{get_or}
use lib.Dec.{eqb}
use Rattle.tables.proofs.Cases.{either, same_or_not}
use Rattle.door.specs.Door.{free_door}
use Rattle.phases.specs.declared.table.Kind.{Kind}
use Rattle.phases.specs.declared.table.Kind.TheVariants.{Card, Decide, Green, Red, Walk, Tick, Passed, Lapsed, Dark, Ack, Unknown}
use Rattle.phases.specs.Answers.{answer_no, reason_busy}
use Rattle.phases.specs.declared.table.StepRow.{StepRow}
use Rattle.record.specs.declared.record.Record.{Record}
use Rattle.record.specs.Doors.{door_of, Shaped}
use Rattle.record.specs.Sound.{Sound}
use Rattle.record.specs.Steps.{reason_for, held_for, HeldDoor, the_grant, no_door}
use Rattle.record.specs.Run.{row_of, replies_of}
use Rattle.record.proofs.Right.{reason_first, held_first}
use Rattle.record.proofs.Laws.{sound_stays, shaped_stays}
use Rattle.run_events.specs.Lines.{Line, lines_of, heard_of}
use Rattle.run_events.specs.Events.{Grant, Denial, Passage, Lapse, RunEvent, event, Meaning, Taken, Happened, Freed, Nothing, meaning_of, Spell, no_spells, spell_by, spells_after, event_by, events_of, events_in}
use Rattle.run_events.specs.Told.{GrantOf, Agree, Granted, what_by, seen_of}
use Rattle.run_events.specs.Open.{NoneAt, end, then, OpenGrant, NamesOpenGrants}
use Rattle.run_events.proofs.Doors.{at_grant, is_granted}
use Rattle.run_events.proofs.Steps.{heard_line, after_here, after_there, row_tells}
use Rattle.run_events.proofs.Spells.{differ}
use Rattle.run_events.proofs.Theorems.{fresh_agree}

-- ---- open grants, event by event

-- an event names its door rightly after the events told before it
abbrev Named : List RunEvent → RunEvent → Type 0
Named told e = (held : ℕ) → e.what ≡ Denial reason_busy held → OpenGrant held e.person told

-- events that do, one after the other
data NamesOn : List RunEvent → List RunEvent → Type 0 where
  no_more : {told : List RunEvent} → NamesOn told []
  more : {told : List RunEvent} {e : RunEvent} {es : List RunEvent} → Named told e → NamesOn (told ++ (e ∷ [])) es → NamesOn told (e ∷ es)

names_both : {told es fs : List RunEvent} → NamesOn told es → NamesOn (told ++ es) fs → NamesOn told (es ++ fs)
names_both {told} {fs} no_more on = subst (λ (l : List RunEvent). NamesOn l fs) (append-nil told) on
names_both {told} {fs} (more {e} {es} named rest) on =
    more named (names_both rest (subst (λ (l : List RunEvent). NamesOn l fs) (sym (append_assoc told (e ∷ []) es)) on))

-- so each of them does, wherever it stands
names_at : {told : List RunEvent} (before after : List RunEvent) (e : RunEvent) → NamesOn told (before ++ (e ∷ after)) → Named (told ++ before) e
names_at {told} [] after e (more named rest) = subst (λ (l : List RunEvent). Named l e) (sym (append-nil told)) named
names_at {told} (b ∷ before) after e (more named rest) =
    subst (λ (l : List RunEvent). Named l e) (append_assoc told (b ∷ []) before) (names_at before after e rest)

none_both : {d : ℕ} {es fs : List RunEvent} → NoneAt d es → NoneAt d fs → NoneAt d (es ++ fs)
none_both end on = on
none_both (then other rest) on = then other (none_both rest on)

-- a grant stays open while there is no event at its door
open_on : {d p : ℕ} {told es : List RunEvent} → OpenGrant d p told → NoneAt d es → OpenGrant d p (told ++ es)
open_on {d} {p} {es} g none =
    record {
      row = g.row;
      before = g.before;
      since = g.since ++ es;
      given = rw g.given (append_assoc g.before (event g.row d p Grant ∷ g.since) es);
      still = none_both g.still none;
    }

-- ---- one step

-- the spells' grants are open by the events told
record AllOpen (spells : ℕ → Spell) (told : List RunEvent) : Type 0 where
  each : (d p : ℕ) → Granted (spells d) p → OpenGrant d p told

module _ (spells : ℕ → Spell) (told : List RunEvent) (kept : AllOpen spells told) where
  -- a line at another door gives no event at this one
  none_there : (d n at person : ℕ) (m : Meaning) → (d ≡ at → ⊥) → NoneAt d (event_by m n at person)
  unfolding event_by
  none_there d n at person Taken ne = end
  none_there d n at person (Happened what) ne = then (λ is. ne (sym is)) end
  none_there d n at person Freed ne = end
  none_there d n at person Nothing ne = end

  -- at its own door a line's event is the new grant, or there is none
  open_here : (d n q p : ℕ) (m : Meaning) → Granted (spell_by m n q (spells d)) p → OpenGrant d p (told ++ event_by m n d (spells d).person)
  unfolding spell_by event_by
  open_here d n q p Taken g = absurd (differ (cc g.stage))
  open_here d n q p (Happened Grant) g = record { row = n; before = told; since = []; given = rw g.person; still = end }
  open_here d n q p (Happened (Denial why held)) g = absurd (differ (cc g.stage))
  open_here d n q p (Happened Passage) g = absurd (differ (cc g.stage))
  open_here d n q p (Happened Lapse) g = absurd (differ (cc g.stage))
  open_here d n q p Freed g = absurd (differ (cc g.stage))
  open_here d n q p Nothing g = open_on (kept.each d p g) end

  -- so the grants are open after each line
  open_after : (n : ℕ) (line : Line) → AllOpen (spells_after spells n line) (told ++ event_by (meaning_of line) n line.row.at (spells line.row.at).person)
  open_after n line =
      record {
        each = λ d p g.
            ⊎_elim
            (λ (is : d ≡ line.row.at).
            subst (λ (x : ℕ). OpenGrant d p (told ++ event_by (meaning_of line) n x (spells x).person)) is
            (open_here d n line.row.person p (meaning_of line) (subst (λ (s : Spell). Granted s p) (after_here spells n line d is) g)))
            (λ (is_not : d ≡ line.row.at → ⊥).
            open_on (kept.each d p (subst (λ (s : Spell). Granted s p) (after_there spells n line d is_not) g))
            (none_there d n line.row.at (spells line.row.at).person (meaning_of line) is_not))
            (same_or_not d line.row.at);
      }

  module _ (r : Record) (agree : Agree spells r) where
    -- the door that the record tells with reason 3 has an open grant
    held_open : (p why held : ℕ) → HeldDoor r p why held → (named : ℕ) → cond (eqb why 0) Grant (Denial why held) ≡ Denial reason_busy named
        → OpenGrant named p told
    held_open p why held (the_grant {e} g only) named is =
        let same : e ≡ named = cc in
        rw (sym same) (kept.each e p (is_granted (spells e) p (agree.each e ∙ at_grant (door_of r e) g.holds ∙ ap GrantOf g.person)))
    held_open p why held (no_door other) named is = go (eqb why 0) is
      where
        go : (b : Bool) → cond b Grant (Denial why 0) ≡ Denial reason_busy named → OpenGrant named p told
        go true is = absurd (differ (cc))
        go false is = absurd (other (cc))

    seen_names : (n d p why held : ℕ) → HeldDoor r p why held → (k : Kind) → NamesOn told (map (event n d p) (what_by k why held))
    unfolding what_by
    seen_names n d p why held h Decide = more (held_open p why held h) no_more
    seen_names n d p why held h Passed = more (λ named (is : Passage ≡ Denial reason_busy named). absurd (differ (cc))) no_more
    seen_names n d p why held h Lapsed = more (λ named (is : Lapse ≡ Denial reason_busy named). absurd (differ (cc))) no_more
    seen_names n d p why held h Card = no_more
    seen_names n d p why held h Green = no_more
    seen_names n d p why held h Red = no_more
    seen_names n d p why held h Walk = no_more
    seen_names n d p why held h Tick = no_more
    seen_names n d p why held h Dark = no_more
    seen_names n d p why held h Ack = no_more
    seen_names n d p why held h Unknown = no_more

    -- what is seen of a step names its door rightly
    step_names : (n : ℕ) → Sound r → (row : StepRow) → NamesOn told (seen_of n r row (row_of r row))
    step_names n s row =
        let person = get_or r.holder row.at 0 in
        let why = reason_for r row.at person in
        let held = held_for r person why in
        either (NamesOn told) (eqb (answer_no (row_of r row).answer) 0)
        (λ _. seen_names n row.at person why held (held_first r s row.at person why (reason_first r row.at person)) row.kind)
        (λ _. no_more)

-- ---- a whole run

names : (rows : List StepRow) (spells : ℕ → Spell) (n : ℕ) (r : Record) → Shaped r → Sound r → Agree spells r → (told : List RunEvent) → AllOpen spells told
    → NamesOn told (events_of spells n (heard_of r rows))
unfolding heard_of lines_of replies_of events_of
names [] spells n r sh s agree told kept = no_more
names (row ∷ rows) spells n r sh s agree told kept =
    let tells = row_tells spells n r sh s agree row in
    names_both (subst (NamesOn told) (sym tells.seen) (step_names spells told kept r agree n s row))
    (names rows _ (n + 1) (row_of r row).next (shaped_stays r row.kind row.at row.person sh) (sound_stays r row.kind row.at row.person sh s)
    tells.after _ (open_after spells told kept n (heard_line row (row_of r row))))

-- from a fresh record, where no door has a card
pub fresh_names : (r : Record) → Shaped r → Sound r → ((d : ℕ) → door_of r d ≡ free_door) → (rows : List StepRow) → NamesOpenGrants (events_in r rows)
fresh_names r sh s all_free rows =
    let on = names rows no_spells 1 r sh s (fresh_agree r all_free) [] (record { each = λ d p g. absurd (differ (cc g.stage)) }) in
    record { each = λ before after e held split is. names_at before after e (rw split at on) held is }
