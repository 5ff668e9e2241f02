-- Every event of a run has a line: the door exists, the person is one of the site's, and the reason and the held door fit. Assumes nothing.
use Prim.Native.Nat.{ℕ, ◌+◌, ◌≤◌, ◌<◌}
use mathlib.Core.Path.{◌≡◌, refl, sym, ap, subst, ◌∙◌}
use mathlib.Core.Bool.{Bool, true, false, cond}
use mathlib.Core.List.{List, [], ◌∷◌, ◌++◌, map}
use native.Mathlib.Omega.{arith}
use borrow.Author.Tests.{eqb-true, eqb-false}
use lib.ListN.{length, get_or}
use lib.Dec.{eqb}
use Rattle.tables.specs.Tables.{most_people}
use Rattle.tables.proofs.Cases.{either}
use Rattle.tables.proofs.Zero.{zeros_long}
use Rattle.door.specs.Door.{free_door}
use Rattle.phases.specs.declared.table.Kind.{Kind}
use Rattle.phases.specs.declared.table.Kind.TheVariants.{Card, Decide, Green, Red, Walk, Tick, Passed, Lapsed, Dark, Ack, Unknown}
use Rattle.phases.specs.Phase.{keeps}
use Rattle.phases.specs.declared.table.StepRow.{StepRow}
use Rattle.phases.specs.Answers.{reason_none, reason_busy}
use Rattle.record.specs.declared.record.Record.{Record}
use Rattle.record.specs.declared.steps.Step.{Step}
use Rattle.record.specs.Doors.{plan_of, door_of, Shaped}
use Rattle.record.specs.Sound.{Sound}
use Rattle.record.specs.Steps.{First, none, away, barred, busy, HeldDoor, the_grant, no_door, reason_for, held_for, doing}
use Rattle.record.specs.Run.{row_of}
use Rattle.record.proofs.Right.{reason_first, held_first}
use Rattle.record.proofs.Fresh.{fresh_free}
use Rattle.record.proofs.Laws.{step_cases, act_done, sound_stays, shaped_stays, plan_stays}
use Rattle.site_sheet.specs.Site.{site_of, verdict_no}
use Rattle.steps_sheet.specs.Heading.{Heading}
use Rattle.steps_sheet.specs.Heading.{TooLong, Wrong, Rows}
use Rattle.steps_sheet.specs.Steps.{heading_of}
use Rattle.run_events.specs.Lines.{heard_of}
use Rattle.run_events.specs.Events.{What, Grant, Denial, Passage, Lapse, RunEvent, event, Spell, no_spells, events_of}
use Rattle.run_events.specs.Told.{Agree, what_by, seen_of, events_seen}
use Rattle.run_events.proofs.Steps.{not_done}
use Rattle.run_events.proofs.Theorems.{all_seen, fresh_agree}
use Rattle.card_by_card.specs.Served.{Fresh}
use Rattle.run_text.proofs.Sheets.{zero_accepted}
use Rattle.syslog.specs.Line.{most_number, ReasonFits, HeldFits, Fits, AllFit, no_more, fits}
use Rattle.stream_text.specs.Stream.{msgid_of, reason_of, held_by, line_event, line_events_in, steps_events, sheet_events}
use Rattle.stream_text.proofs.Accepted.{accepted_fresh}
use Rattle.stream_text.proofs.Sheets.{lines_are, long_none, wrong_none}

-- ---- one step

reason_small : {r : Record} {d p n : ℕ} → First r d p n → n ≤ 3
reason_small (none _) = omega arith
reason_small (away _) = omega arith
reason_small (barred _ _) = omega arith
reason_small (busy _ _ _ _) = omega arith

-- the door told with a reason is one of the site's, and 0 with any but reason 3
held_fits_lem : {r : Record} {p why held : ℕ} → Sound r → HeldDoor r p why held → HeldFits why held
held_fits_lem s (the_grant g only) = (λ _. let h = g.exists in let most = s.tables.in_range.doors_to in omega arith, λ other. absurd (other refl))
held_fits_lem s (no_door other) = (λ is. absurd (other is), λ _. refl)

-- no reason, and so no door
none_held : HeldFits 0 0
none_held = (λ (z : reason_none ≡ reason_busy). omega arith, λ _. refl)

module _ (n d p why held : ℕ) (hd : d ≤ most_number) (hp : p ≤ most_number) (hw : why ≤ 3) (hh : HeldFits why held) where
  one_fits : (w : What) → ReasonFits (msgid_of w) (reason_of w) → HeldFits (reason_of w) (held_by w) → Fits (line_event (event n d p w))
  unfolding line_event
  one_fits w r h = record { door = omega arith; person = omega arith; reason = r; held = h }

  -- what a step that is done does to the card at its door
  what_fits : (k : Kind) → AllFit (map line_event (map (event n d p) (what_by k why held)))
  unfolding what_by
  what_fits Decide = go (eqb why 0) refl
    where
      go : (t : Bool) → eqb why 0 ≡ t → AllFit (map line_event (map (event n d p) (cond t Grant (Denial why held) ∷ [])))
      go true e = fits (one_fits Grant refl none_held) no_more
      go false e = let ne = eqb-false why 0 e in fits (one_fits (Denial why held) (omega arith, omega arith) hh) no_more
  what_fits Passed = fits (one_fits Passage refl none_held) no_more
  what_fits Lapsed = fits (one_fits Lapse refl none_held) no_more
  what_fits Card = no_more
  what_fits Green = no_more
  what_fits Red = no_more
  what_fits Walk = no_more
  what_fits Tick = no_more
  what_fits Dark = no_more
  what_fits Ack = no_more
  what_fits Unknown = no_more

-- whom a door holds is one of the people
holder_small : (r : Record) → Sound r → r.people ≤ most_people → (d : ℕ) → d < r.doors → get_or r.holder d 0 ≤ most_number
holder_small r s few d h = go (keeps (get_or r.phase d 0)) refl
  where
    go : (t : Bool) → keeps (get_or r.phase d 0) ≡ t → get_or r.holder d 0 ≤ most_number
    go true e = let held : get_or r.holder d 0 < r.people = (s.doors d h).held e in omega arith
    go false e = let nobody : get_or r.holder d 0 ≡ 0 = (s.doors d h).nobody e in omega arith

seen_fits : (r : Record) → Sound r → r.people ≤ most_people → (n : ℕ) (row : StepRow) → AllFit (map line_event (seen_of n r row (row_of r row)))
seen_fits r s few n row =
    step_cases (λ (z : Step). AllFit (map line_event (seen_of n r row z))) r row.kind row.at row.person
    (λ a ph no_way. rw (not_done a no_way) no_more)
    (λ w.
    let most = s.tables.in_range.doors_to in
    let a_door = w.a_door in
    let person = get_or r.holder row.at 0 in
    let why = reason_for r row.at person in
    let first = reason_first r row.at person in
    rw (act_done r row.at (doing r row.kind row.at row.person))
    (what_fits n row.at person why (held_for r person why) (omega arith) (holder_small r s few row.at a_door) (reason_small first)
    (held_fits_lem s (held_first r s row.at person why first)) row.kind))

-- ---- a run

fit_both : (es fs : List RunEvent) → AllFit (map line_event es) → AllFit (map line_event fs) → AllFit (map line_event (es ++ fs))
fit_both [] fs a b = b
fit_both (e ∷ es) fs (fits f on) b = fits f (fit_both es fs on b)

all_fit : (rows : List StepRow) (n : ℕ) (r : Record) → Shaped r → Sound r → r.people ≤ most_people → AllFit (map line_event (events_seen n r rows))
unfolding events_seen
all_fit [] n r sh s few = no_more
all_fit (row ∷ rows) n r sh s few =
    let people = ap (λ plan. plan.people) (plan_stays r row.kind row.at row.person) in
    fit_both (seen_of n r row (row_of r row)) _ (seen_fits r s few n row)
    (all_fit rows (n + 1) (row_of r row).next (shaped_stays r row.kind row.at row.person sh)
    (sound_stays r row.kind row.at row.person sh s) (rw people few))

pub run_fits : (r : Record) → Shaped r → Sound r → r.people ≤ most_people → (spells : ℕ → Spell) (n : ℕ) → Agree spells r → (rows : List StepRow)
    → AllFit (map line_event (events_of spells n (heard_of r rows)))
run_fits r sh s few spells n agree rows = rw (all_seen rows spells n r sh s agree) (all_fit rows n r sh s few)

-- ---- a fresh record, and the one of an accepted sheet

pub fresh_fits : (r : Record) → Fresh r → (rows : List StepRow) → AllFit (line_events_in r rows)
fresh_fits r f rows =
    let room : length r.place ≡ most_people = ap (λ (x : Record). length x.place) f.fresh ∙ zeros_long most_people in
    let people = f.sound.tables.in_range.people_to in
    let free : (d : ℕ) → door_of r d ≡ free_door = λ d. ap (λ (x : Record). door_of x d) f.fresh ∙ fresh_free (plan_of r) r.right d in
    subst AllFit (sym (lines_are r rows)) (run_fits r f.shaped f.sound (omega arith) no_spells 1 (fresh_agree r free) rows)

headed_fit : (r : Record) → Fresh r → (steps : List ℕ) (h : Heading) → AllFit (steps_events r steps h)
headed_fit r f steps TooLong = subst AllFit (sym (long_none r steps)) no_more
headed_fit r f steps Wrong = subst AllFit (sym (wrong_none r steps)) no_more
headed_fit r f steps (Rows from) = fresh_fits r f _

pub sheets_fit : (site steps : List ℕ) → AllFit (sheet_events site steps)
unfolding sheet_events
sheets_fit site steps =
    either AllFit (eqb (verdict_no (site_of site).verdict) 0)
    (λ z. headed_fit (site_of site).«record» (accepted_fresh site (zero_accepted (site_of site).verdict (eqb-true _ _ z))) steps (heading_of steps))
    (λ _. no_more)
