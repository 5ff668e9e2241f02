-- The rows of a run, written as frames one behind the other: what one step writes, and the loop over the rows. Assumes nothing.
use Prim.Native.Nat.{ℕ, ◌+◌, ◌≤◌, ◌<◌}
use mathlib.Core.Path.{◌≡◌, refl, sym, ap, ◌∙◌}
use mathlib.Core.Bool.{Bool, true, false, cond}
use mathlib.Core.List.{List, [], ◌∷◌, ◌++◌, map, append-nil, append_assoc}
use mathlib.Core.Logic.{⊎_elim}
use native.Mathlib.Omega.{arith}
use native.Mathlib.Numerals.{add-one}
use borrow.Author.Tests.{eq-eqb, ne_eqb, eqb-true}
use lib.Dec.{eqb}
use lib.ListN.{length, get_or, set, drop, replicate, length-set, length-replicate, drop_of_length-le}
use lib.Seq.{drop-cons, get_or-set_same, get_or-set_other}
use Rattle.tables.specs.Tables.{most_doors}
use Rattle.tables.specs.Zero.{zeros}
use Rattle.tables.proofs.Cases.{same_or_not}
use Rattle.tables.proofs.Zero.{zeros_at}
use Rattle.phases.specs.declared.table.Kind.{Kind}
use Rattle.phases.specs.declared.table.Kind.TheVariants.{Card, Decide, Green, Red, Walk, Tick, Passed, Lapsed, Dark, Ack, Unknown}
use Rattle.phases.specs.Phase.{granted}
use Rattle.phases.specs.Kinds.{kind_of}
use Rattle.record.specs.Run.{rows_of}
use Rattle.text.specs.Wrote.{last_place, Wrote}
use Rattle.text.proofs.Writing.{Pending, begun, more, ended, said}
use Rattle.run_events.specs.Lines.{Line, lines_of}
use Rattle.run_events.specs.Events.{RunEvent, Meaning, Taken, Happened, Freed, Nothing, meaning_by, meaning_of, Spell, spell_by, spells_after, no_spells, event_by, events_of}
use Rattle.run_events.proofs.Steps.{after_here, after_there}
use Rattle.run_text.specs.Printed.{replies_from}
use Rattle.syslog.specs.declared.Msgid.TheVariants as msgid
use Rattle.syslog.specs.Line.{framed_of, stream_of}
use Rattle.stream_text.specs.Stream.{line_event}
use Rattle.stream_text.specs.Rows.{line_with, lines_from, stream_from, Heard, line_words, decided_event, told_text, card_by, card_after}

-- ---- what one step writes

-- where there is nothing to write
pub nothing_written : (text : List ℕ) {out : List ℕ} {at : ℕ} → text ≡ [] → length out ≤ last_place → at ≤ last_place → Wrote out at text out at
nothing_written text e f t = said (sym e) (ended (begun f t) refl)

module _ (kind : Kind) (answer phase reason held d p : ℕ) where
  pub told_refused : (answer ≡ 0 → ⊥) → told_text kind answer phase reason held d p ≡ []
  unfolding told_text meaning_of event_by stream_of
  told_refused ne = rw (ne_eqb answer 0 ne)

  pub told_nothing : (kind ≡ Decide → ⊥) → (kind ≡ Passed → ⊥) → (kind ≡ Lapsed → ⊥) → answer ≡ 0 → told_text kind answer phase reason held d p ≡ []
  unfolding told_text meaning_of meaning_by event_by stream_of
  told_nothing no_decide no_passed no_lapsed e = rw e (go kind no_decide no_passed no_lapsed)
    where
      go : (k : Kind) → (k ≡ Decide → ⊥) → (k ≡ Passed → ⊥) → (k ≡ Lapsed → ⊥)
          → stream_of (map line_event (event_by (meaning_by k (record { answer = 0; phase = phase; reason = reason; held = held })) 0 d p)) ≡ []
      go Card a b c = refl
      go Decide a b c = absurd (a refl)
      go Green a b c = refl
      go Red a b c = refl
      go Walk a b c = refl
      go Tick a b c = refl
      go Passed a b c = absurd (b refl)
      go Lapsed a b c = absurd (c refl)
      go Dark a b c = refl
      go Ack a b c = refl
      go Unknown a b c = refl

  pub told_decided : kind ≡ Decide → answer ≡ 0 → framed_of (decided_event phase reason held d p) ≡ told_text kind answer phase reason held d p
  unfolding told_text meaning_of meaning_by event_by stream_of
  told_decided k e = rw (k, e, append-nil (framed_of (decided_event phase reason held d p)))

  pub told_passed : kind ≡ Passed → answer ≡ 0 → framed_of (line_words msgid.Pass d p 0 0) ≡ told_text kind answer phase reason held d p
  unfolding told_text meaning_of meaning_by event_by stream_of line_event
  told_passed k e = rw (k, e, append-nil (framed_of (line_words msgid.Pass d p 0 0)))

  pub told_lapsed : kind ≡ Lapsed → answer ≡ 0 → framed_of (line_words msgid.Lapse d p 0 0) ≡ told_text kind answer phase reason held d p
  unfolding told_text meaning_of meaning_by event_by stream_of line_event
  told_lapsed k e = rw (k, e, append-nil (framed_of (line_words msgid.Lapse d p 0 0)))

module _ (phase reason held d p : ℕ) where
  pub decided_granted : phase ≡ granted → line_words msgid.Grant d p 0 0 ≡ decided_event phase reason held d p
  unfolding line_event
  decided_granted e = rw (eq-eqb phase granted e)

  pub decided_denied : (phase ≡ granted → ⊥) → line_words msgid.Deny d p reason held ≡ decided_event phase reason held d p
  unfolding line_event
  decided_denied ne = rw (ne_eqb phase granted ne)

-- ---- whose card is at a door

-- a step that neither takes a card nor frees the door leaves it
pub card_stays : (kind : Kind) (answer person was : ℕ) → (kind ≡ Card → ⊥) → (kind ≡ Ack → ⊥) → was ≡ card_after kind answer person was
unfolding card_after
card_stays kind answer person was no_card no_ack = go (eqb answer 0) kind no_card no_ack
  where
    go : (b : Bool) (k : Kind) → (k ≡ Card → ⊥) → (k ≡ Ack → ⊥) → was ≡ cond b (card_by k person was) was
    go false k a b = refl
    go true Card a b = absurd (a refl)
    go true Decide a b = refl
    go true Green a b = refl
    go true Red a b = refl
    go true Walk a b = refl
    go true Tick a b = refl
    go true Passed a b = refl
    go true Lapsed a b = refl
    go true Dark a b = refl
    go true Ack a b = absurd (b refl)
    go true Unknown a b = refl

-- the person of the spell at a door, after the line of a step there
spell_person : (line : Line) (n : ℕ) (s : Spell)
    → (spell_by (meaning_of line) n line.row.person s).person ≡ card_after line.row.kind line.reply.answer line.row.person s.person
unfolding meaning_of meaning_by spell_by card_after
spell_person line n s = go (eqb line.reply.answer 0) refl line.row.kind refl
  where
    go : (b : Bool) → eqb line.reply.answer 0 ≡ b → (k : Kind) → line.row.kind ≡ k
        → (spell_by (meaning_of line) n line.row.person s).person ≡ card_after line.row.kind line.reply.answer line.row.person s.person
    go false e k is = rw e
    go true e Card is = rw (e, is)
    go true e Decide is = rw (e, is)
    go true e Green is = rw (e, is)
    go true e Red is = rw (e, is)
    go true e Walk is = rw (e, is)
    go true e Tick is = rw (e, is)
    go true e Passed is = rw (e, is)
    go true e Lapsed is = rw (e, is)
    go true e Dark is = rw (e, is)
    go true e Ack is = rw (e, is)
    go true e Unknown is = rw (e, is)

-- a list has the person of each door's card
abbrev pub Cards : (ℕ → Spell) → List ℕ → Type 0
Cards spells cards = (d : ℕ) → d < most_doors → (spells d).person ≡ get_or cards d 0

pub cards_after_lem : (spells : ℕ → Spell) (n : ℕ) (line : Line) (cards : List ℕ) → length cards ≡ most_doors → Cards spells cards
    → Cards (spells_after spells n line)
    (set cards line.row.at (card_after line.row.kind line.reply.answer line.row.person (get_or cards line.row.at 0)))
cards_after_lem spells n line cards long shown d h =
    let there = line.row.at in
    ⊎_elim
    (λ (is : d ≡ there).
    rw (after_here spells n line d is, spell_person line n (spells d), shown d h, is)
    (sym (get_or-set_same cards there _ 0 (omega arith))))
    (λ other. rw (after_there spells n line d other, get_or-set_other cards there d _ 0 other) (shown d h))
    (same_or_not d there)

-- ---- the loop over the rows

-- the row's number isn't told, nor the person that its step names
any_row : (m : Meaning) (n d p : ℕ) → map line_event (event_by m n d p) ≡ map line_event (event_by m 0 d p)
unfolding event_by line_event
any_row Taken n d p = refl
any_row (Happened what) n d p = refl
any_row Freed n d p = refl
any_row Nothing n d p = refl

-- streams one behind the other
pub stream_both : (es fs : List RunEvent) → stream_of (map line_event (es ++ fs)) ≡ stream_of (map line_event es) ++ stream_of (map line_event fs)
unfolding stream_of
stream_both [] fs = refl
stream_both (e ∷ es) fs =
    ap (λ (t : List ℕ). framed_of (line_event e) ++ t) (stream_both es fs)
    ∙ sym (append_assoc (framed_of (line_event e)) (stream_of (map line_event es)) (stream_of (map line_event fs)))

-- a line writes what its step writes with the person whom the list has
pub line_writes : (line : Line) (n : ℕ) (spells : ℕ → Spell) (cards : List ℕ) → Cards spells cards → (line.reply.answer ≡ 0 → line.row.at < most_doors)
    → stream_of (map line_event (event_by (meaning_of line) n line.row.at (spells line.row.at).person))
    ≡ told_text line.row.kind line.reply.answer line.reply.phase line.reply.reason line.reply.held line.row.at (get_or cards line.row.at 0)
unfolding told_text meaning_of event_by stream_of
line_writes line n spells cards shown exists = ap stream_of (any_row (meaning_of line) n line.row.at (spells line.row.at).person) ∙ go (eqb line.reply.answer 0) refl
  where
    go : (b : Bool) → eqb line.reply.answer 0 ≡ b
        → stream_of (map line_event (event_by (meaning_of line) 0 line.row.at (spells line.row.at).person))
        ≡ stream_of (map line_event (event_by (meaning_of line) 0 line.row.at (get_or cards line.row.at 0)))
    go true e = rw (shown line.row.at (exists (eqb-true _ _ e)))
    go false e = rw e

module _ {kinds doors persons answers phases reasons held : List ℕ} (heard : Heard kinds doors persons answers phases reasons held) (i : ℕ) (inside : i < length kinds) where
  -- the line of row i
  abbrev line_at : Line
  line_at = line_with (kind_of (get_or kinds i 0)) (get_or doors i 0) (get_or persons i 0) (get_or answers i 0) (get_or phases i 0) (get_or reasons i 0) (get_or held i 0)

  lines_cons : lines_from (drop i kinds) (drop i doors) (drop i persons) (drop i answers) (drop i phases) (drop i reasons) (drop i held)
      ≡ line_at ∷ lines_from (drop (i + 1) kinds) (drop (i + 1) doors) (drop (i + 1) persons) (drop (i + 1) answers) (drop (i + 1) phases) (drop (i + 1) reasons) (drop (i + 1) held)
  unfolding rows_of replies_from lines_of
  lines_cons =
      let hd : i < length doors = rw heard.doors_long inside in
      let hp : i < length persons = rw heard.persons_long inside in
      let ha : i < length answers = rw heard.answers_long inside in
      let hf : i < length phases = rw heard.phases_long inside in
      let hr : i < length reasons = rw heard.reasons_long inside in
      let hh : i < length held = rw heard.held_long inside in
      rw (add-one i, drop-cons kinds i 0 inside, drop-cons doors i 0 hd, drop-cons persons i 0 hp, drop-cons answers i 0 ha, drop-cons phases i 0 hf, drop-cons reasons i 0 hr, drop-cons held i 0 hh)

  abbrev rest_from : (ℕ → Spell) → List ℕ
  rest_from spells = stream_of (map line_event (events_of spells (i + 1 + 1) (lines_from (drop (i + 1) kinds) (drop (i + 1) doors) (drop (i + 1) persons) (drop (i + 1) answers) (drop (i + 1) phases) (drop (i + 1) reasons) (drop (i + 1) held))))

-- the loop has come to row i; the list has the person of each door's card
pub record Eventing (kinds doors persons answers phases reasons held before out cards : List ℕ) (next i : ℕ) : Type 0 where
  pub spells : ℕ → Spell
  pub shown : (d : ℕ) → d < most_doors → (spells d).person ≡ get_or cards d 0
  pub long : length cards ≡ most_doors
  pub low : i ≤ length kinds
  pub pending : Pending before 0 (stream_from kinds doors persons answers phases reasons held) out next (stream_of (map line_event (events_of spells (i + 1) (lines_from (drop i kinds) (drop i doors) (drop i persons) (drop i answers) (drop i phases) (drop i reasons) (drop i held)))))

pub events_start : {kinds doors persons answers phases reasons held before cards : List ℕ} → cards ≡ replicate most_doors 0 → length before ≤ last_place
    → Eventing kinds doors persons answers phases reasons held before before cards 0 0
unfolding zeros
events_start e f =
    record {
      spells = no_spells;
      shown = λ d h. rw e (sym (zeros_at most_doors d));
      long = ap length e ∙ length-replicate {A = ℕ} most_doors 0;
      low = omega arith;
      pending = begun f (omega arith);
    }

pub events_more : {kinds doors persons answers phases reasons held before out cards : List ℕ} {next i : ℕ} {kind : Kind} {answer phase reason door d card p new : ℕ} {after cards' : List ℕ} {seam : ℕ}
    → Eventing kinds doors persons answers phases reasons held before out cards next i → Heard kinds doors persons answers phases reasons held → i < length kinds
    → kind ≡ kind_of (get_or kinds i 0) → answer ≡ get_or answers i 0 → phase ≡ get_or phases i 0 → reason ≡ get_or reasons i 0 → door ≡ get_or held i 0 → d ≡ get_or doors i 0
    → p ≡ get_or persons i 0 → card ≡ get_or cards d 0 → Wrote out next (told_text kind answer phase reason door d card) after seam
    → new ≡ card_after kind answer p card → cards' ≡ set cards d new
    → Eventing kinds doors persons answers phases reasons held before after cards' seam (i + 1)
unfolding events_of
events_more {kinds} {doors} {persons} {answers} {phases} {reasons} {held} {cards = cards} {i = i} {cards' = cards'} here heard inside k a ph why h at person was w now put =
    let line = line_at heard i inside in
    let is : cards' ≡ set cards (get_or doors i 0) (card_after (kind_of (get_or kinds i 0)) (get_or answers i 0) (get_or persons i 0) (get_or cards (get_or doors i 0) 0)) = rw (put, now, was, k, a, at, person) in
    record {
      spells = spells_after here.spells (i + 1) line;
      shown = rw is (cards_after_lem here.spells (i + 1) line cards here.long here.shown);
      long = rw is (length-set cards _ _ ∙ here.long);
      low = omega arith;
      pending =
          more here.pending
          (ap (λ (lines : List Line). stream_of (map line_event (events_of here.spells (i + 1) lines))) (lines_cons heard i inside)
          ∙ (stream_both (event_by (meaning_of line) (i + 1) (get_or doors i 0) (here.spells (get_or doors i 0)).person) _
          ∙ ap (λ (t : List ℕ). t ++ rest_from heard i inside (spells_after here.spells (i + 1) line)) (line_writes line (i + 1) here.spells cards here.shown (heard.exists i inside))))
          (rw (was, k, a, ph, why, h, at) at w);
    }

pub events_end : {kinds doors persons answers phases reasons held before out cards : List ℕ} {next i : ℕ}
    → Eventing kinds doors persons answers phases reasons held before out cards next i → length kinds ≤ i
    → Wrote before 0 (stream_from kinds doors persons answers phases reasons held) out next
unfolding events_of rows_of lines_of stream_of
events_end {kinds} here h = ended here.pending (rw (drop_of_length-le kinds h))
