-- Demand 1 of the record: each field is a public function of the crates `granting`, `sole_grants`, `soundness`, `record`, `lending`,
-- `step_list` or `questions`, and says what follows of the definition that its promise cites.
use Rattle.std.specs.Prelude.{ℕ, ◌≤◌, ◌<◌, ◌≡◌, Bool, true, List, ◌++◌, map, ◌⊎◌, ◌↔◌, length, get_or, drop, ltb, Some, None}
use Rattle.std.proofs.lemmas.List.Edits.{sets}
use Rattle.findings.specs.Told.{place_told, place_no, grant_told, grant_no, length_told, way_no}
use Rattle.numbers.specs.Numbers.{done_no, no_such_no, not_allowed_no, too_short_no, unsound_no}
use Rattle.tables.specs.Tables.{Plan, most_people}
use Rattle.tables.specs.Below.{Tells}
use Rattle.tables.specs.Rules.{Lawful}
use Rattle.tables.specs.Way.{way_of}
use Rattle.record.specs.declared.record.Record.{Record}
use Rattle.phases.specs.declared.table.Kind.{Kind}
use Rattle.phases.specs.declared.table.Kind.TheVariants.{Card, Decide, Green, Red, Walk, Tick, Passed, Lapsed, Dark, Ack}
use Rattle.phases.specs.declared.answer.Answer.TheVariants.{Done, NoSuch, NotAllowed, TooShort, Unsound}
use Rattle.record.specs.declared.steps.Step.{Step}
use Rattle.deeds.specs.declared.Told.{Told}
use Rattle.phases.specs.Answers.{answer_no, reason_busy}
use Rattle.phases.specs.Phase.{green, denied, red}
use Rattle.record.specs.Doors.{record_of, fresh_record, Shaped, plan_of}
use Rattle.granting.specs.Grants.{GrantAt, grant_of}
use Rattle.granting.specs.Reasons.{first_reason, held_with}
use Rattle.sole_grants.specs.Sole.{NoTwo, sole_grants}
use Rattle.soundness.specs.SoundTest.{lists_sound}
use Rattle.phases.specs.declared.table.StepRow.{StepRow}
use Rattle.phases.specs.Kinds.{kind_of, allows, names_person}
use Rattle.tables.specs.Zero.{ZeroBeyond}
use Rattle.record.specs.Sound.{Sound}
use Rattle.record.specs.SoundTest.{sound_b}
use Rattle.record.specs.Steps.{First, HeldDoor, step_of, told_by}
use Rattle.record.specs.Deeds.{telling, holding}
use Rattle.record.specs.Run.{rows_of, last_of, replies_of, answer_told, phase_told, reason_told, held_told, run_of, answers_of, phases_of, reasons_of, held_of}
use Rattle.record.specs.Questions.{asked_no, unless_refused, place_of, granted_to, way_answer_of, way_written, way_asked_no}
use Rattle.numbers.specs.Telling.{Order, done, ◌unless◌then◌, NumberBy}
use Rattle.record_answers.specs.Lending.{Lent, LentRows, LentIsSteps, LentIsRun}

-- ---- crates `granting`, `sole_grants` and `soundness`

-- door d holds a grant of the person, and no door before it does
pub record FirstGrant (n : ℕ) (phase holder : List ℕ) (p d : ℕ) : Type 0 where
  pub grant : GrantAt n phase holder p d
  pub before : (e : ℕ) → e < d → GrantAt n phase holder p e → ⊥

pub record SoundAnswers : Type 0 where
  -- a door is told exactly when it is the smallest that holds a grant of the person, and none exactly when no door does
  pub grant_of_lem : (n : ℕ) (phase holder : List ℕ) (p : ℕ)
      → ((d : ℕ) → (grant_of n phase holder p ≡ Some d) ↔ FirstGrant n phase holder p d)
      × ((grant_of n phase holder p ≡ None) ↔ ((d : ℕ) → GrantAt n phase holder p d → ⊥))
  -- "reason 1 .., 2 .., 3 .., the first that applies", and 0 for none, of a record that has these lists
  pub first_reason_lem : (site : Plan) (right : List Bool) (place phase holder count : List ℕ) (d p n : ℕ)
      → (first_reason site right place phase holder d p ≡ n) ↔ First (record_of site right place phase holder count) d p n
  -- "the door that is granted to the person", the smallest where several hold a grant, with reason 3; 0 where none does, and "0 with any
  -- other reason"
  pub held_with_lem : (why n : ℕ) (phase holder : List ℕ) (p : ℕ)
      → ((d : ℕ) → FirstGrant n phase holder p d → held_with reason_busy n phase holder p ≡ d)
      × (((d : ℕ) → GrantAt n phase holder p d → ⊥) → held_with reason_busy n phase holder p ≡ 0)
      × ((why ≡ reason_busy → ⊥) → held_with why n phase holder p ≡ 0)
  -- "no person has two": of no person two doors hold a grant
  pub sole_grants_lem : (n : ℕ) (phase holder : List ℕ) → Tells (sole_grants n phase holder) (NoTwo n phase holder)
  -- lists are told sound exactly when the record that has them is
  pub lists_sound_lem : (site : Plan) (right : List Bool) (place phase holder count : List ℕ) → Shaped (record_of site right place phase holder count)
      → Tells (lists_sound site right place phase holder count) (Sound (record_of site right place phase holder count))

-- ---- crates `record` and `lending`: a step

-- "Each names a door; `card` also a person.": they exist
pub record Exists (r : Record) (k : Kind) (d p : ℕ) : Type 0 where
  pub a_door : d < r.doors
  pub a_person : names_person k ≡ true → p < r.people

-- "14, then 11, then 12"; `sound_b r ≡ true` is "the record is sound", as `is_sound` says below
abbrev pub step_order : Record → Kind → ℕ → ℕ → Order
step_order r k d p = unsound_no unless sound_b r ≡ true then no_such_no unless Exists r k d p then not_allowed_no unless allows k (get_or r.phase d 0) ≡ true then done

-- s is what the step answers
pub record StepTells (r : Record) (k : Kind) (d p : ℕ) (s : Step) : Type 0 where
  pub number : NumberBy (step_order r k d p) (answer_no s.answer)
  -- "After a refusal the record .. hold[s] what [it] held before."
  pub unaltered : (s.answer ≡ Done → ⊥) → s.next ≡ r
  -- "the door's phase afterwards (0 with 11 or 14)"
  pub phase_after : Shaped r → s.answer ≡ Done → s.phase ≡ get_or s.next.phase d 0
  pub phase_as_it_was : s.answer ≡ NotAllowed → s.phase ≡ get_or r.phase d 0
  pub phase_untold : (s.answer ≡ NoSuch) ⊎ (s.answer ≡ Unsound) → s.phase ≡ 0
  -- "and the reason (0 unless `decide` denied)"
  pub no_reason : (s.answer ≡ Done → ⊥) → s.reason ≡ 0
  pub a_reason : (s.reason ≡ 0 → ⊥) → (k ≡ Decide) × (s.phase ≡ denied)
  -- 02, C-12: "The answer of a step gains that door (0 with any other reason)": the one door that holds the person's grant
  pub no_held : (s.reason ≡ reason_busy → ⊥) → s.held ≡ 0
  pub a_held : Shaped r → HeldDoor r (get_or r.holder d 0) s.reason s.held

-- ---- crate `step_list`: a run; crate `questions`: the three questions

-- each of the other lists is as long as the list of steps
pub record Room (steps doors persons answers phases reasons held : List ℕ) : Type 0 where
  pub in_doors : length steps ≤ length doors
  pub in_persons : length steps ≤ length persons
  pub in_answers : length steps ≤ length answers
  pub in_phases : length steps ≤ length phases
  pub in_reasons : length steps ≤ length reasons
  pub in_held : length steps ≤ length held

pub record RunTells (r : Record) (steps doors persons answers phases reasons held : List ℕ) : Type 0 where
  pub number : NumberBy (unsound_no unless sound_b r ≡ true then too_short_no unless Room steps doors persons answers phases reasons held then done)
      (answer_no (run_of r steps doors persons answers phases reasons held).answer)
  -- "After a refusal the record and every lent list hold what they held before."
  pub unaltered : ((run_of r steps doors persons answers phases reasons held).answer ≡ Done → ⊥)
      → ((run_of r steps doors persons answers phases reasons held).next ≡ r)
      × (answers_of r steps doors persons answers phases reasons held ≡ answers)
      × (phases_of r steps doors persons answers phases reasons held ≡ phases)
      × (reasons_of r steps doors persons answers phases reasons held ≡ reasons)
      × (held_of r steps doors persons answers phases reasons held ≡ held)
  -- else the last record of the steps, and what was told of each in front of each list, the rest unaltered
  pub ran : (run_of r steps doors persons answers phases reasons held).answer ≡ Done
      → ((run_of r steps doors persons answers phases reasons held).next ≡ last_of r (rows_of steps doors persons))
      × (answers_of r steps doors persons answers phases reasons held ≡ sets answers 0 (map answer_told (replies_of r (rows_of steps doors persons))))
      × (phases_of r steps doors persons answers phases reasons held ≡ sets phases 0 (map phase_told (replies_of r (rows_of steps doors persons))))
      × (reasons_of r steps doors persons answers phases reasons held ≡ sets reasons 0 (map reason_told (replies_of r (rows_of steps doors persons))))
      × (held_of r steps doors persons answers phases reasons held ≡ sets held 0 (map held_told (replies_of r (rows_of steps doors persons))))

-- "A refused question tells its number, and 0 or none for all else."
pub record PlaceTells (r : Record) (p : ℕ) : Type 0 where
  pub number : NumberBy (unsound_no unless sound_b r ≡ true then no_such_no unless p < r.people then done) (place_no (place_of r p))
  pub location : place_no (place_of r p) ≡ done_no → place_told (place_of r p) ≡ get_or r.place p 0
  pub refused : (place_no (place_of r p) ≡ done_no → ⊥) → place_told (place_of r p) ≡ 0
  -- the number and the value that the promise names are those of the answer
  pub as_promised : (place_no (place_of r p) ≡ asked_no r (ltb p r.people))
      × (place_told (place_of r p) ≡ unless_refused (place_no (place_of r p)) (get_or r.place p 0) 0)

pub record GrantTells (r : Record) (p : ℕ) : Type 0 where
  pub number : NumberBy (unsound_no unless sound_b r ≡ true then no_such_no unless p < r.people then done) (grant_no (granted_to r p))
  pub a_door : grant_no (granted_to r p) ≡ done_no → grant_told (granted_to r p) ≡ grant_of r.doors r.phase r.holder p
  pub refused : (grant_no (granted_to r p) ≡ done_no → ⊥) → grant_told (granted_to r p) ≡ None
  pub as_promised : (grant_no (granted_to r p) ≡ asked_no r (ltb p r.people))
      × (grant_told (granted_to r p) ≡ unless_refused (grant_no (granted_to r p)) (grant_of r.doors r.phase r.holder p) None)

pub record WayOutTells (r : Record) (l : ℕ) (list : List ℕ) : Type 0 where
  pub number : NumberBy
      (unsound_no unless sound_b r ≡ true then no_such_no unless l < r.locations then too_short_no unless length (way_of r.locations r.exit l) ≤ length list then done)
      (way_no (way_answer_of r l list))
  pub a_length : way_no (way_answer_of r l list) ≡ done_no → length_told (way_answer_of r l list) ≡ length (way_of r.locations r.exit l)
  -- "written into the front of a lent list .., the rest of the list unaltered"
  pub in_front : way_no (way_answer_of r l list) ≡ done_no
      → way_written r l list ≡ way_of r.locations r.exit l ++ drop (length (way_of r.locations r.exit l)) list
  pub refused : (way_no (way_answer_of r l list) ≡ done_no → ⊥) → length_told (way_answer_of r l list) ≡ 0
  pub unaltered : (way_no (way_answer_of r l list) ≡ done_no → ⊥) → way_written r l list ≡ list
  pub as_promised : (way_no (way_answer_of r l list) ≡ way_asked_no r l list)
      × (length_told (way_answer_of r l list) ≡ unless_refused (way_no (way_answer_of r l list)) (length (way_of r.locations r.exit l)) 0)

pub record HeldTells (r : Record) (place phase holder count : List ℕ) (held : Record) : Type 0 where
  pub places : held.place ≡ place
  pub phases : held.phase ≡ phase
  pub holders : held.holder ≡ holder
  pub counts : held.count ≡ count
  pub plan : plan_of held ≡ plan_of r
  pub rights : held.right ≡ r.right

pub record RecordAnswers : Type 0 where
  -- the test of soundness tells it, of every record whose lists of doors and locations are as long as its arrays
  pub is_sound : (r : Record) → Shaped r → Tells (sound_b r) (Sound r)
  -- of lawful tables with 0 beyond the counts, the fresh record is sound
  pub fresh : (site : Plan) (right : List Bool) → Lawful most_people site right → ZeroBeyond site right → Sound (fresh_record site right)
  -- the lists that steps alter, taken out and put back, make the same record; others put in stand there, and all else is as it was
  pub moving : (r : Record) → holding r r.place r.phase r.holder r.count ≡ r
  pub hold : (r : Record) (place phase holder count : List ℕ) → HeldTells r place phase holder count (holding r place phase holder count)
  -- a step is its record and what it tells
  pub step_telling : (r : Record) (told : Told) → ((telling r told).next ≡ r) × (told_by (telling r told) ≡ told)
  pub step_told : (s : Step) → telling s.next (told_by s) ≡ s
  pub step : (r : Record) (k : Kind) (d p : ℕ) → StepTells r k d p (step_of r k d p)
  pub step_numbered : (r : Record) (n d p : ℕ) → StepTells r (kind_of n) d p (step_of r (kind_of n) d p)
  -- "finds it altered, or as it was after a refusal": what is said of a step is said of the record that is lent and of what is told;
  pub step_lent : (r : Record) (k : Kind) (d p : ℕ) (exit : Record) (told : Told) → Lent r k d p exit told → StepTells r k d p (telling exit told)
  -- crate `lending`: the step by lending the record
  pub lend : (r : Record) (k : Kind) (d p : ℕ) → StepTells r k d p (step_of r k d p)
  -- lent for one step after the other, it goes through the records of these steps, and those of a run; but of lists that are too short
  -- for the run (13), which then does nothing, while a lending takes no lists
  pub lent_steps : (r : Record) (rows : List StepRow) (last : Record) (told : List Told) → LentRows r rows last told → LentIsSteps r rows last told
  pub lent_run : (r : Record) (steps doors persons answers phases reasons held : List ℕ) → ((run_of r steps doors persons answers phases reasons held).answer ≡ TooShort → ⊥)
      → (last : Record) (told : List Told) → LentRows r (rows_of steps doors persons) last told
      → LentIsRun r steps doors persons answers phases reasons held last told
  pub card : (r : Record) (d p : ℕ) → StepTells r Card d p (step_of r Card d p)
  pub decide : (r : Record) (d : ℕ) → StepTells r Decide d 0 (step_of r Decide d 0)
  pub green : (r : Record) (d : ℕ) → StepTells r Green d 0 (step_of r Green d 0)
  pub red : (r : Record) (d : ℕ) → StepTells r Red d 0 (step_of r Red d 0)
  pub walk : (r : Record) (d : ℕ) → StepTells r Walk d 0 (step_of r Walk d 0)
  pub tick : (r : Record) (d : ℕ) → StepTells r Tick d 0 (step_of r Tick d 0)
  pub passed : (r : Record) (d : ℕ) → StepTells r Passed d 0 (step_of r Passed d 0)
  pub lapsed : (r : Record) (d : ℕ) → StepTells r Lapsed d 0 (step_of r Lapsed d 0)
  pub dark : (r : Record) (d : ℕ) → StepTells r Dark d 0 (step_of r Dark d 0)
  pub ack : (r : Record) (d : ℕ) → StepTells r Ack d 0 (step_of r Ack d 0)
  pub run : (r : Record) (steps doors persons answers phases reasons held : List ℕ) → RunTells r steps doors persons answers phases reasons held
  pub place_of_lem : (r : Record) (p : ℕ) → PlaceTells r p
  pub granted_to_lem : (r : Record) (p : ℕ) → GrantTells r p
  pub way_out_lem : (r : Record) (l : ℕ) (list : List ℕ) → WayOutTells r l list
