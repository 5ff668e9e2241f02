-- What a run tells is true of the record; what is said is in `specs/Told.antt`. Assumes nothing.
--     tells-truly     of every sound record, every list of steps and all spells that agree with the record
--     shown-agree     every record has such spells, by its doors
--     record-truly    so every run of a sound record tells truly
--     fresh-agree     where every door is free, no spells agree with it
--     fresh-truly     so a run from a fresh record tells truly
--     fresh-began     and each spell has the row and the person of its taken card
-- That a denial for reason 3 names an open grant, `fresh_names`, is in `Open`.
use Prim.Native.Nat.{ℕ, ◌+◌}
use mathlib.Core.Path.{◌≡◌, refl, sym, ap, ◌∙◌}
use mathlib.Core.Bool.{Bool, true, false, cond}
use mathlib.Core.List.{List, [], ◌∷◌, ◌++◌, map}
use borrow.Author.Tests.{eqb-true}
use lib.ListN.{get_or}
use lib.Dec.{eqb}
use Rattle.tables.specs.Tables.{and_also}
use Rattle.door.specs.declared.Door.{Door}
use Rattle.door.specs.Door.{free_door}
use Rattle.phases.specs.declared.table.Kind.{Kind}
use Rattle.phases.specs.declared.table.Kind.TheVariants.{Card, Decide, Green, Red, Walk, Tick, Passed, Lapsed, Dark, Ack, Unknown}
use Rattle.phases.specs.declared.answer.Answer.TheVariants.{Done}
use Rattle.phases.specs.Phase.{free, read, walked, expired, grants}
use Rattle.phases.specs.declared.table.StepRow.{StepRow}
use Rattle.phases.specs.Kinds.{allows}
use Rattle.record.specs.declared.record.Record.{Record}
use Rattle.record.specs.Doors.{door_of, Shaped}
use Rattle.record.specs.Sound.{Sound}
use Rattle.record.specs.Run.{Reply, row_of, last_of, replies_of}
use Rattle.record.proofs.Laws.{done_did, sound_stays, shaped_stays}
use Rattle.run_events.specs.Lines.{Line, lines_of, heard_of}
use Rattle.run_events.specs.Events.{RunEvent, meaning_by, meaning_of, NoCard, Spell, no_spell, no_spells, spells_after, spells_of, spells_in, event_by, events_of}
use Rattle.run_events.specs.Told.{standing, standing_at, Agree, shown_at, shown_in, Granted, events_seen, gives_event, rows_acted, Began, Since, no_card, began, goes_on, EndsGrant, passing, lapsing, TellsTruly}
use Rattle.run_events.proofs.Doors.{at_grant, is_granted}
use Rattle.run_events.proofs.Steps.{row_tells}
use Rattle.run_events.proofs.Spells.{since}

-- ---- one step after the other

both : {a b c d : List RunEvent} → a ≡ b → c ≡ d → a ++ c ≡ b ++ d
both first rest = rw (first, rest)

-- the events told are the events seen
pub all_seen : (rows : List StepRow) (spells : ℕ → Spell) (n : ℕ) (r : Record) → Shaped r → Sound r → Agree spells r
    → events_of spells n (heard_of r rows) ≡ events_seen n r rows
unfolding heard_of lines_of replies_of events_of events_seen
all_seen [] spells n r sh s agree = refl
all_seen (row ∷ rows) spells n r sh s agree =
    let sh' = shaped_stays r row.kind row.at row.person sh in
    let s' = sound_stays r row.kind row.at row.person sh s in
    let on = all_seen rows _ (n + 1) (row_of r row).next sh' s' (row_tells spells n r sh s agree row).after in
    both (row_tells spells n r sh s agree row).seen on

-- the spells agree with the record after any list
pub agree_on : (rows : List StepRow) (spells : ℕ → Spell) (n : ℕ) (r : Record) → Shaped r → Sound r → Agree spells r
    → Agree (spells_of spells n (heard_of r rows)) (last_of r rows)
unfolding heard_of lines_of replies_of spells_of last_of
agree_on [] spells n r sh s agree = agree
agree_on (row ∷ rows) spells n r sh s agree =
    agree_on rows _ (n + 1) (row_of r row).next (shaped_stays r row.kind row.at row.person sh)
    (sound_stays r row.kind row.at row.person sh s) (row_tells spells n r sh s agree row).after

-- ---- the rows of the events, of any lines

abbrev row_of_event : RunEvent → ℕ
row_of_event e = e.row

rows_both : (es fs : List RunEvent) → map row_of_event (es ++ fs) ≡ map row_of_event es ++ map row_of_event fs
rows_both [] fs = refl
rows_both (e ∷ es) fs = ap (λ (l : List ℕ). e.row ∷ l) (rows_both es fs)

acted_row : (k : Kind) (reply : Reply) (n d p : ℕ) → map row_of_event (event_by (meaning_by k reply) n d p) ≡ cond (gives_event k) (n ∷ []) []
unfolding meaning_by event_by gives_event
acted_row Card reply n d p = refl
acted_row Decide reply n d p = refl
acted_row Green reply n d p = refl
acted_row Red reply n d p = refl
acted_row Walk reply n d p = refl
acted_row Tick reply n d p = refl
acted_row Passed reply n d p = refl
acted_row Lapsed reply n d p = refl
acted_row Dark reply n d p = refl
acted_row Ack reply n d p = refl
acted_row Unknown reply n d p = refl

line_row : (line : Line) (n p : ℕ)
    → map row_of_event (event_by (meaning_of line) n line.row.at p) ≡ cond (and_also (eqb line.reply.answer 0) (gives_event line.row.kind)) (n ∷ []) []
unfolding meaning_of and_also event_by
line_row line n p = go (eqb line.reply.answer 0) refl
  where
    go : (b : Bool) → eqb line.reply.answer 0 ≡ b
        → map row_of_event (event_by (meaning_of line) n line.row.at p) ≡ cond (and_also (eqb line.reply.answer 0) (gives_event line.row.kind)) (n ∷ []) []
    go true e = rw e (acted_row line.row.kind line.reply n line.row.at p)
    go false e = rw e

pub all_rows : (lines : List Line) (spells : ℕ → Spell) (n : ℕ) → map row_of_event (events_of spells n lines) ≡ rows_acted n lines
unfolding events_of rows_acted
all_rows [] spells n = refl
all_rows (line ∷ lines) spells n =
    rows_both (event_by (meaning_of line) n line.row.at (spells line.row.at).person) _
    ∙ rw (line_row line n (spells line.row.at).person, all_rows lines (spells_after spells n line) (n + 1))

-- ---- a grant that ends

ending_grants : {k : Kind} (ph : ℕ) → EndsGrant k → allows k ph ≡ true → grants ph ≡ true
unfolding allows grants and_also
ending_grants ph passing ok = rw (eqb-true ph walked ok)
ending_grants ph lapsing ok = rw (eqb-true ph expired ok)

-- where a step that ends a grant acts, the spell at its door is granted to the person whom the door holds
pub grant_ends : (spells : ℕ → Spell) (r : Record) → Agree spells r → (row : StepRow) → EndsGrant row.kind → (row_of r row).answer ≡ Done
    → Granted (spells row.at) (get_or r.holder row.at 0)
grant_ends spells r agree row ends done =
    let w = (done_did r row.kind row.at row.person done).0 in
    is_granted (spells row.at) _ (agree.each row.at ∙ at_grant (door_of r row.at) (ending_grants (get_or r.phase row.at 0) ends w.allowed))

-- ---- all of it

pub tells_truly : (rows : List StepRow) (spells : ℕ → Spell) (n : ℕ) (r : Record) → Shaped r → Sound r → Agree spells r → TellsTruly spells n r rows
tells_truly rows spells n r sh s agree =
    record {
      events = all_seen rows spells n r sh s agree;
      in_rows = all_rows (heard_of r rows) spells n;
      of_a_grant = λ before after row split ends done. grant_ends _ (last_of r before) (agree_on before spells n r sh s agree) row ends done;
      since = since rows spells n r sh s agree;
      agree = agree_on rows spells n r sh s agree;
    }

-- every record has spells that agree with it
pub shown_agree : (r : Record) → Agree (shown_in r) r
unfolding shown_at standing_at
shown_agree r = record { each = λ d. go (door_of r d) (grants (get_or r.phase d 0)) (eqb (get_or r.phase d 0) read) (eqb (get_or r.phase d 0) free) refl refl refl }
  where
    go : (c : Door) (a b e : Bool) → grants c.phase ≡ a → eqb c.phase read ≡ b → eqb c.phase free ≡ e → standing (shown_at c) ≡ standing_at c
    go c true b e x y z = rw x
    go c false true e x y z = rw (x, y)
    go c false false true x y z = rw (x, y, z)
    go c false false false x y z = rw (x, y, z)

pub record_truly : (r : Record) → Shaped r → Sound r → (rows : List StepRow) → TellsTruly (shown_in r) 1 r rows
record_truly r sh s rows = tells_truly rows (shown_in r) 1 r sh s (shown_agree r)

pub fresh_agree : (r : Record) → ((d : ℕ) → door_of r d ≡ free_door) → Agree no_spells r
unfolding standing_at grants and_also
fresh_agree r all_free = record { each = λ d. sym (ap standing_at (all_free d)) }

pub fresh_truly : (r : Record) → Shaped r → Sound r → ((d : ℕ) → door_of r d ≡ free_door) → (rows : List StepRow) → TellsTruly no_spells 1 r rows
fresh_truly r sh s all_free rows = tells_truly rows no_spells 1 r sh s (fresh_agree r all_free)

-- a spell after a run from there began in the run, with the taken card of its row and its person
pub fresh_began : (r : Record) → Shaped r → Sound r → ((d : ℕ) → door_of r d ≡ free_door) → (rows : List StepRow) (d : ℕ)
    → ((spells_in r rows d).stage ≡ NoCard → ⊥) → Began d (spells_in r rows d) 1 (heard_of r rows)
fresh_began r sh s all_free rows d some = go ((fresh_truly r sh s all_free rows).since d)
  where
    go : Since d no_spell (spells_in r rows d) 1 (heard_of r rows) → Began d (spells_in r rows d) 1 (heard_of r rows)
    go (no_card e) = absurd (some e)
    go (began b) = b
    go (goes_on card _ _ _) = absurd (card refl)
