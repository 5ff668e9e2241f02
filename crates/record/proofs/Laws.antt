-- What a step does and what it leaves alone: the laws of `step_of`.
--     step-cases                               a step is refused or done: what holds of both holds of each step
--     done-did, allowed-does, step-done        a step is done exactly when it may be, and does what its clause says
--     unsound-14, absent-11, barred-12, not-allowed
--                                              the refusals, in their order
--     sound-stays, shaped-stays                a sound record stays sound
--     plan-stays, rights-stay, room-stays      a step alters nothing of the plan and the rights, nor the number of places,
--     others-stay, places-stay                 of any other door and of anybody's place ..
--     passed-moves                             .. except `passed`, which moves the held person and nobody else
--     refused-stays, barred-stays              a refused step is no change
--     denied-first                             the reason is the first that applies
--     act-reason                               only a `decide` that denies tells a reason
--     door-told                                the door told with it is that of the person's grant, and 0 with any other reason
--     granted-exactly                          a card is granted exactly when all three conditions hold
--     leaves, holds_on                         the held person leaves at `passed`, `lapsed` and a denial, and at no other step
--     lapsed-frees                             after `lapsed` the person holds no grant
--     green-burns, green-expires, red-burns, red-dims
--                                              a light burns for exactly as many ticks of its door as its countdown says
--     run_sound, run-shaped, run-plan, run-rights
--                                              the same of a whole list of steps
-- Assumes nothing.
use Prim.Native.Nat.{ℕ, suc, ◌≤◌, ◌<◌, ◌-◌, ◌+◌}
use mathlib.Core.Path.{◌≡◌, refl, sym, ap, subst, ◌∙◌}
use mathlib.Core.Bool.{Bool, true, false, not, cond, true≢false, false≢true}
use mathlib.Core.Logic.{◌↔◌, ⊎_elim}
use native.Mathlib.Omega.{arith}
use borrow.Author.Tests.{eqb-true, eqb-false, ltb-true, lt-ltb, le-ltb, eq-eqb, ne_eqb}
use mathlib.Core.List.{List, [], ◌∷◌}
use lib.ListN.{length, get_or, length-set}
use lib.Dec.{eqb, ltb}
use lib.Seq.{get_or-set_same, get_or-set_other}
use Rattle.tables.specs.Tables.{Plan, or_else, and_also, most_doors}
use Rattle.tables.proofs.Laws.{and_left, and_right, and_both, clash}
use Rattle.door.specs.declared.Door.{Door}
use Rattle.record.specs.declared.record.Record.{Record}
use Rattle.phases.specs.declared.table.Kind.{Kind}
use Rattle.phases.specs.declared.table.Kind.TheVariants.{Card, Decide, Green, Red, Walk, Tick, Passed, Lapsed, Dark, Ack, Unknown}
use Rattle.phases.specs.declared.answer.Answer.{Answer}
use Rattle.phases.specs.declared.answer.Answer.TheVariants.{Done, NoSuch, NotAllowed, Unsound}
use Rattle.record.specs.declared.steps.Step.{Step}
use Rattle.phases.specs.Phase.{free, read, granted, green, walked, expired, denied, red, dimmed, closed, keeps, grants, lit}
use Rattle.door.specs.Door.{door}
use Rattle.record.specs.Doors.{plan_of, door_of, Shaped}
use Rattle.granting.specs.Grants.{GrantAt}
use Rattle.granting.specs.Reasons.{held_with}
use Rattle.record.specs.Sound.{Sound}
use Rattle.record.specs.SoundTest.{sound_b}
use Rattle.phases.specs.declared.table.StepRow.{StepRow}
use Rattle.phases.specs.Kinds.{allows, names_person}
use Rattle.phases.specs.Answers.{reason_busy}
use Rattle.door_does.specs.declared.Does.{Does}
use Rattle.door_does.specs.declared.Does.TheVariants.{Stays, Turns, Moves}
use Rattle.door_does.specs.Does.{effect}
use Rattle.deeds.specs.Deeds.{exist_among}
use Rattle.record.specs.Steps.{reason_for, Admitted, First, held_for, HeldDoor, no_door, act, refused, exist, doing, sound_step, step_of}
use Rattle.record.specs.Run.{row_of, last_of}
use Rattle.record.specs.Lights.{is_tick, ticks, Each, end, step, NoWalk}
use Rattle.tables.proofs.Cases.{either, same_or_not, one_of}
use Rattle.record.proofs.Keep.{put_same, put_other}
use Rattle.record.proofs.Tells.{sound_tells}
use Rattle.record.proofs.Right.{reason_first, held_first, admitted, admits, grants_keeps, right, act_sound, act_shaped}

walked_keeps : (ph : ℕ) → ph ≡ walked → keeps ph ≡ true
unfolding keeps and_also
walked_keeps ph e = rw e

expired_grants : (ph : ℕ) → ph ≡ expired → grants ph ≡ true
unfolding grants and_also
expired_grants ph e = rw e

-- the step may be done: the record is sound, the numbers exist, and the door's phase allows it
pub record Allowed (r : Record) (k : Kind) (d p : ℕ) : Type 0 where
  pub tested : sound_b r ≡ true
  pub a_door : d < r.doors
  pub a_person : names_person k ≡ true → p < r.people
  pub allowed : allows k (get_or r.phase d 0) ≡ true

-- ---- the two ways in which a step ends

-- what holds of every refusal and of every step that is done holds of each step
pub step_cases : (P : Step → Type 0) (r : Record) (k : Kind) (d p : ℕ) → ((a : Answer) (ph : ℕ) → (a ≡ Done → ⊥) → P (refused r a ph))
    → (Allowed r k d p → P (act r d (doing r k d p))) → P (step_of r k d p)
unfolding step_of sound_step exist_among or_else
step_cases P r k d p no_way done =
    either P (sound_b r)
    (λ s.
    either P (exist r k d p)
    (λ x.
    either P (allows k (get_or r.phase d 0))
    (λ w.
    done
    (record {
      tested = s;
      a_door = ltb-true d r.doors (and_left _ _ x);
      a_person = λ n. ltb-true p r.people (rw n at (and_right (ltb d r.doors) _ x));
      allowed = w;
    }))
    (λ _. no_way NotAllowed (get_or r.phase d 0) (λ e. let z : ◌≡◌ {A = ℕ} 0 1 = cc in omega arith)))
    (λ _. no_way NoSuch 0 (λ e. let z : ◌≡◌ {A = ℕ} 0 1 = cc in omega arith)))
    (λ _. no_way Unsound 0 (λ e. let z : ◌≡◌ {A = ℕ} 0 1 = cc in omega arith))

-- a step that is done did what its clause says ..
pub done_did : (r : Record) (k : Kind) (d p : ℕ) → (step_of r k d p).answer ≡ Done → Allowed r k d p × (step_of r k d p ≡ act r d (doing r k d p))
done_did r k d p =
    step_cases (λ x. x.answer ≡ Done → Allowed r k d p × (x ≡ act r d (doing r k d p))) r k d p (λ a ph no_way e. absurd (no_way e)) (λ w e. (w, refl))

-- .. and every step that may be done is
pub allowed_does : (r : Record) (k : Kind) (d p : ℕ) → Allowed r k d p → step_of r k d p ≡ act r d (doing r k d p)
unfolding step_of sound_step exist_among or_else
allowed_does r k d p w = rw (w.tested, there, w.allowed)
  where
    person : (b : Bool) → names_person k ≡ b → or_else (not b) (ltb p r.people) ≡ true
    person true e = lt-ltb p r.people (w.a_person e)
    person false e = refl

    there : exist r k d p ≡ true
    there = and_both _ _ (lt-ltb d r.doors w.a_door) (person (names_person k) refl)

-- "14, then 11, then 12"
pub unsound_14 : (r : Record) (k : Kind) (d p : ℕ) → sound_b r ≡ false → step_of r k d p ≡ refused r Unsound 0
unfolding step_of
unsound_14 r k d p e = rw e

pub absent_11 : (r : Record) (k : Kind) (d p : ℕ) → sound_b r ≡ true → exist r k d p ≡ false → step_of r k d p ≡ refused r NoSuch 0
unfolding step_of sound_step
absent_11 r k d p s e = rw (s, e)

pub barred_12 : (r : Record) (k : Kind) (d p : ℕ) → sound_b r ≡ true → exist r k d p ≡ true → allows k (get_or r.phase d 0) ≡ false
    → step_of r k d p ≡ refused r NotAllowed (get_or r.phase d 0)
unfolding step_of sound_step
barred_12 r k d p s e w = rw (s, e, w)

-- at a sound record: a step whose numbers exist and which the door's phase allows is done, ..
pub step_done : (r : Record) (k : Kind) (d p : ℕ) → Shaped r → Sound r → d < r.doors → (names_person k ≡ true → p < r.people)
    → allows k (get_or r.phase d 0) ≡ true → step_of r k d p ≡ act r d (doing r k d p)
step_done r k d p sh s h person may = allowed_does r k d p (record { tested = (sound_tells r sh).back s; a_door = h; a_person = person; allowed = may })

-- .. and 12 is the answer where the door exists, the step names no person and the door's phase doesn't allow it
pub not_allowed : (r : Record) (k : Kind) (d p : ℕ) → Shaped r → Sound r → d < r.doors → names_person k ≡ false → allows k (get_or r.phase d 0) ≡ false
    → step_of r k d p ≡ refused r NotAllowed (get_or r.phase d 0)
unfolding exist_among or_else and_also
not_allowed r k d p sh s h nobody no_way = barred_12 r k d p ((sound_tells r sh).back s) (rw (lt-ltb d r.doors h, nobody)) no_way

-- ---- what is kept

pub sound_stays : (r : Record) (k : Kind) (d p : ℕ) → Shaped r → Sound r → Sound (step_of r k d p).next
sound_stays r k d p sh s =
    step_cases (λ x. Sound x.next) r k d p (λ _ _ _. s)
    (λ w. act_sound r sh s d w.a_door (doing r k d p) (right r d (s.doors d w.a_door) k p (reason_for r d (get_or r.holder d 0)) w.allowed w.a_person (λ _. admitted r d (get_or r.holder d 0))))

pub shaped_stays : (r : Record) (k : Kind) (d p : ℕ) → Shaped r → Shaped (step_of r k d p).next
shaped_stays r k d p sh = step_cases (λ x. Shaped x.next) r k d p (λ _ _ _. sh) (λ _. act_shaped r sh d (doing r k d p))

act_plan : (r : Record) (d : ℕ) (x : Does) → plan_of (act r d x).next ≡ plan_of r
unfolding act
act_plan r d Stays = refl
act_plan r d (Turns c why) = refl
act_plan r d (Moves c) = refl

pub plan_stays : (r : Record) (k : Kind) (d p : ℕ) → plan_of (step_of r k d p).next ≡ plan_of r
plan_stays r k d p = step_cases (λ x. plan_of x.next ≡ plan_of r) r k d p (λ _ _ _. refl) (λ _. act_plan r d (doing r k d p))

act_rights : (r : Record) (d : ℕ) (x : Does) → (act r d x).next.right ≡ r.right
unfolding act
act_rights r d Stays = refl
act_rights r d (Turns c why) = refl
act_rights r d (Moves c) = refl

pub rights_stay : (r : Record) (k : Kind) (d p : ℕ) → (step_of r k d p).next.right ≡ r.right
rights_stay r k d p = step_cases (λ x. x.next.right ≡ r.right) r k d p (λ _ _ _. refl) (λ _. act_rights r d (doing r k d p))

act_room : (r : Record) (d : ℕ) (x : Does) → length (act r d x).next.place ≡ length r.place
unfolding act
act_room r d Stays = refl
act_room r d (Turns c why) = refl
act_room r d (Moves c) = length-set r.place (get_or r.holder d 0) (get_or r.destination d 0)

-- there is room for as many people as before
pub room_stays : (r : Record) (k : Kind) (d p : ℕ) → length (step_of r k d p).next.place ≡ length r.place
room_stays r k d p = step_cases (λ x. length x.next.place ≡ length r.place) r k d p (λ _ _ _. refl) (λ _. act_room r d (doing r k d p))

act_others : (r : Record) (d : ℕ) (x : Does) (e : ℕ) → (e ≡ d → ⊥) → door_of (act r d x).next e ≡ door_of r e
unfolding act
act_others r d Stays e ne = refl
act_others r d (Turns c why) e ne = put_other r d c e ne
act_others r d (Moves c) e ne = put_other r d c e ne

pub others_stay : (r : Record) (k : Kind) (d p e : ℕ) → (e ≡ d → ⊥) → door_of (step_of r k d p).next e ≡ door_of r e
others_stay r k d p e ne = step_cases (λ x. door_of x.next e ≡ door_of r e) r k d p (λ _ _ _. refl) (λ _. act_others r d (doing r k d p) e ne)

pub act_done : (r : Record) (d : ℕ) (x : Does) → (act r d x).answer ≡ Done
unfolding act
act_done r d Stays = refl
act_done r d (Turns c why) = refl
act_done r d (Moves c) = refl

pub refused_stays : (r : Record) (k : Kind) (d p : ℕ) → ((step_of r k d p).answer ≡ Done → ⊥) → (step_of r k d p).next ≡ r
refused_stays r k d p =
    step_cases (λ x. (x.answer ≡ Done → ⊥) → x.next ≡ r) r k d p (λ _ _ _ _. refl)
    (λ _ no_way. absurd (no_way (act_done r d (doing r k d p))))

-- ---- places

-- only `passed` moves anybody
still : (r : Record) (k : Kind) (d p why : ℕ) (c : Door) → (k ≡ Passed → ⊥) → (act r d (effect k p why c)).next.place ≡ r.place
unfolding act effect
still r Card d p why c ne = refl
still r Decide d p why c ne = either (λ x. (act r d x).next.place ≡ r.place) (eqb why 0) (λ _. refl) (λ _. refl)
still r Green d p why c ne = refl
still r Red d p why c ne = refl
still r Walk d p why c ne = refl
still r Tick d p why c ne =
    either (λ x. (act r d x).next.place ≡ r.place) (eqb c.phase green) (λ _. either (λ x. (act r d x).next.place ≡ r.place) (ltb 1 c.count) (λ _. refl) (λ _. refl))
    (λ _.
    either (λ x. (act r d x).next.place ≡ r.place) (eqb c.phase red)
    (λ _. either (λ x. (act r d x).next.place ≡ r.place) (ltb 1 c.count) (λ _. refl) (λ _. refl)) (λ _. refl))
still r Passed d p why c ne = absurd (ne refl)
still r Lapsed d p why c ne = refl
still r Dark d p why c ne = refl
still r Ack d p why c ne = refl
still r Unknown d p why c ne = refl

pub places_stay : (r : Record) (k : Kind) (d p : ℕ) → (k ≡ Passed → ⊥) → (step_of r k d p).next.place ≡ r.place
places_stay r k d p ne =
    step_cases (λ x. x.next.place ≡ r.place) r k d p (λ _ _ _. refl)
    (λ _. still r k d p (reason_for r d (get_or r.holder d 0)) (door_of r d) ne)

-- the person whom door d held is in its destination now, and everybody else is where they were
pub record Moved (r : Record) (d : ℕ) (next : Record) : Type 0 where
  pub mover : get_or next.place (get_or r.holder d 0) 0 ≡ get_or r.destination d 0
  pub others : (q : ℕ) → (q ≡ get_or r.holder d 0 → ⊥) → get_or next.place q 0 ≡ get_or r.place q 0

pub passed_moves : (r : Record) (d p : ℕ) → Shaped r → Sound r → (step_of r Passed d p).answer ≡ Done → Moved r d (step_of r Passed d p).next
unfolding act effect allows
passed_moves r d p sh s e =
    let w = done_did r Passed d p e in
    let ok = s.doors d w.0.a_door in
    let held : get_or r.holder d 0 < r.people = ok.held (walked_keeps (get_or r.phase d 0) (eqb-true _ _ w.0.allowed)) in
    let most = s.tables.in_range.people_to in
    rw w.1
    (record {
      mover = get_or-set_same r.place (get_or r.holder d 0) (get_or r.destination d 0) 0 (omega arith);
      others = λ q ne. get_or-set_other r.place (get_or r.holder d 0) q (get_or r.destination d 0) 0 ne;
    })

-- ---- decisions

-- "the first that applies": what `decide` tells is the first reason, and 0 where the person is admitted
decided_first : (r : Record) (d p : ℕ) → First r d (get_or r.holder d 0) (act r d (doing r Decide d p)).reason
unfolding act effect
decided_first r d p =
    either (λ x. First r d (get_or r.holder d 0) (act r d x).reason) (eqb (reason_for r d (get_or r.holder d 0)) 0)
    (λ z. rw (eqb-true (reason_for r d (get_or r.holder d 0)) 0 z) at (reason_first r d (get_or r.holder d 0))) (λ _. reason_first r d (get_or r.holder d 0))

pub denied_first : (r : Record) (d p : ℕ) → (step_of r Decide d p).answer ≡ Done → First r d (get_or r.holder d 0) (step_of r Decide d p).reason
denied_first r d p e = rw (done_did r Decide d p e).1 (decided_first r d p)

-- a step that is done tells a reason only where `decide` denies
abbrev pub Reasoned : Record → Kind → ℕ → Does → Type 0
Reasoned r k d x = ((act r d x).reason ≡ 0 → ⊥) → (k ≡ Decide) × ((act r d x).phase ≡ denied)

pub act_reason : (r : Record) (k : Kind) (d p why : ℕ) (c : Door) → Reasoned r k d (effect k p why c)
unfolding act effect
act_reason r Card d p why c some = absurd (some refl)
act_reason r Decide d p why c some =
    either (Reasoned r Decide d) (eqb why 0) (λ _ some. absurd (some refl)) (λ _ _. (refl, refl)) some
act_reason r Green d p why c some = absurd (some refl)
act_reason r Red d p why c some = absurd (some refl)
act_reason r Walk d p why c some = absurd (some refl)
act_reason r Tick d p why c some =
    either (Reasoned r Tick d) (eqb c.phase green)
    (λ _. either (Reasoned r Tick d) (ltb 1 c.count) (λ _ some. absurd (some refl)) (λ _ some. absurd (some refl)))
    (λ _.
    either (Reasoned r Tick d) (eqb c.phase red)
    (λ _. either (Reasoned r Tick d) (ltb 1 c.count) (λ _ some. absurd (some refl)) (λ _ some. absurd (some refl)))
    (λ _ some. absurd (some refl)))
    some
act_reason r Passed d p why c some = absurd (some refl)
act_reason r Lapsed d p why c some = absurd (some refl)
act_reason r Dark d p why c some = absurd (some refl)
act_reason r Ack d p why c some = absurd (some refl)
act_reason r Unknown d p why c some = absurd (some refl)

-- the door that a step tells is the one for the reason that it tells, ..
pub act_held : (r : Record) (d : ℕ) (x : Does) → (act r d x).held ≡ held_for r (get_or r.holder d 0) (act r d x).reason
unfolding act held_with
act_held r d Stays = refl
act_held r d (Turns c why) = refl
act_held r d (Moves c) = refl

-- .. so 0 with any other reason than 3, ..
pub act_unheld : (r : Record) (d : ℕ) (x : Does) → ((act r d x).reason ≡ reason_busy → ⊥) → (act r d x).held ≡ 0
unfolding held_with
act_unheld r d x other = act_held r d x ∙ rw (ne_eqb (act r d x).reason reason_busy other)

-- .. and with that the one door that holds the person's grant
pub act_held_door : (r : Record) (k : Kind) (d p : ℕ) → Sound r
    → HeldDoor r (get_or r.holder d 0) (act r d (doing r k d p)).reason (act r d (doing r k d p)).held
act_held_door r k d p s =
    let h = get_or r.holder d 0 in
    let x = doing r k d p in
    ⊎_elim
    (λ (is : (act r d x).reason ≡ 0).
    let other : (act r d x).reason ≡ reason_busy → ⊥ = λ e. omega arith in
    subst (HeldDoor r h (act r d x).reason) (sym (act_unheld r d x other)) (no_door other))
    (λ (some : (act r d x).reason ≡ 0 → ⊥).
    let decides = (act_reason r k d p (reason_for r d h) (door_of r d) some).0 in
    subst (HeldDoor r h (act r d x).reason) (sym (act_held r d x))
    (held_first r s d h (act r d x).reason (rw decides (decided_first r d p))))
    (same_or_not (act r d x).reason 0)

pub door_told : (r : Record) → Sound r → (k : Kind) (d p : ℕ) → HeldDoor r (get_or r.holder d 0) (step_of r k d p).reason (step_of r k d p).held
door_told r s k d p =
    step_cases (λ x. HeldDoor r (get_or r.holder d 0) x.reason x.held) r k d p (λ _ _ _. no_door (λ z. omega arith))
    (λ _. act_held_door r k d p s)

-- a card is granted exactly when all three conditions hold, and else denied
pub granted_exactly : (r : Record) (d p : ℕ) → (step_of r Decide d p).answer ≡ Done → ((step_of r Decide d p).phase ≡ granted) ↔ Admitted r d (get_or r.holder d 0)
unfolding act effect
granted_exactly r d p e =
    rw (done_did r Decide d p e).1
    (either (λ x. ((act r d x).phase ≡ granted) ↔ Admitted r d (get_or r.holder d 0)) (eqb (reason_for r d (get_or r.holder d 0)) 0)
    (λ z. (λ _. admitted r d (get_or r.holder d 0) (eqb-true _ _ z), λ _. refl))
    (λ z. (λ q. absurd (omega arith), λ a. absurd (eqb-false _ _ z (admits r d (get_or r.holder d 0) a)))))

-- ---- who stays at the door

-- the door after what is done, and the reason that is told
abbrev pub becomes : Door → Does → Door
becomes c Stays = c
becomes c (Turns x why) = x
becomes c (Moves x) = x

abbrev pub reason_in : Does → ℕ
reason_in Stays = 0
reason_in (Turns x why) = why
reason_in (Moves x) = 0

act_door : (r : Record) → Shaped r → (d : ℕ) → d < most_doors → (x : Does) → door_of (act r d x).next d ≡ becomes (door_of r d) x
unfolding act
act_door r sh d h Stays = refl
act_door r sh d h (Turns c why) = put_same r sh d c h
act_door r sh d h (Moves c) = put_same r sh d c h

act_tells : (r : Record) (d : ℕ) (x : Does) → (act r d x).reason ≡ reason_in x
unfolding act
act_tells r d Stays = refl
act_tells r d (Turns c why) = refl
act_tells r d (Moves c) = refl

pub door_after : (r : Record) (k : Kind) (d p : ℕ) → Shaped r → Sound r → (step_of r k d p).answer ≡ Done
    → door_of (step_of r k d p).next d ≡ becomes (door_of r d) (doing r k d p)
door_after r k d p sh s e =
    let w = done_did r k d p e in
    let exists = w.0.a_door in
    let most = s.tables.in_range.doors_to in
    rw w.1 (act_door r sh d (omega arith) (doing r k d p))

-- the steps that end a person's stay at a door: `passed`, `lapsed`, and a `decide` that tells a reason
pub data EndsStay : Kind → ℕ → Type 0 where
  passing : {reason : ℕ} → EndsStay Passed reason
  lapsing : {reason : ℕ} → EndsStay Lapsed reason
  denial : {reason : ℕ} → (reason ≡ 0 → ⊥) → EndsStay Decide reason

-- a door keeps nobody, or keeps the person whom it kept
pub record Left (c : Door) : Type 0 where
  pub nobody : keeps c.phase ≡ false
  pub dropped : c.holder ≡ 0

pub record HeldOn (before after : Door) : Type 0 where
  pub kept : keeps after.phase ≡ true
  pub same : after.holder ≡ before.holder

gone : (k : Kind) (p why n : ℕ) (c : Door) → reason_in (effect k p why c) ≡ n → EndsStay k n → Left (becomes c (effect k p why c))
unfolding effect keeps and_also
gone k p why n c e passing = record { nobody = refl; dropped = refl }
gone k p why n c e lapsing = record { nobody = refl; dropped = refl }
gone k p why n c e (denial some) =
    either (λ x. reason_in x ≡ n → Left (becomes c x)) (eqb why 0) (λ _ z. absurd (some (sym z))) (λ _ _. record { nobody = refl; dropped = refl }) e

-- the held person leaves the door at `passed`, `lapsed` and a denial ..
pub leaves : (r : Record) (k : Kind) (d p n : ℕ) → Shaped r → Sound r → (step_of r k d p).answer ≡ Done → (step_of r k d p).reason ≡ n → EndsStay k n
    → Left (door_of (step_of r k d p).next d)
leaves r k d p n sh s e why ends =
    let told : (step_of r k d p).reason ≡ reason_in (doing r k d p) = rw (done_did r k d p e).1 (act_tells r d (doing r k d p)) in
    subst Left (sym (door_after r k d p sh s e)) (gone k p (reason_for r d (get_or r.holder d 0)) n (door_of r d) (sym told ∙ why) ends)

-- a phase that is one of which something isn't so can't be one of which it is
out : {A : Type 0} (so : ℕ → Bool) (ph a : ℕ) → so a ≡ false → eqb ph a ≡ true → so ph ≡ true → A
out so ph a not_so e is = clash is (rw (eqb-true ph a e) not_so)

here : (k : Kind) (p why : ℕ) (c : Door) → allows k c.phase ≡ true → keeps c.phase ≡ true → (EndsStay k (reason_in (effect k p why c)) → ⊥)
    → HeldOn c (becomes c (effect k p why c))
unfolding effect allows keeps and_also
here Card p why c e k on = out keeps c.phase free refl e k
here Decide p why c e k on =
    either (λ x. (EndsStay Decide (reason_in x) → ⊥) → HeldOn c (becomes c x)) (eqb why 0) (λ _ _. record { kept = refl; same = refl })
    (λ z no_end. absurd (no_end (denial (eqb-false why 0 z)))) on
here Green p why c e k on = record { kept = refl; same = refl }
here Red p why c e k on = out keeps c.phase denied refl e k
here Walk p why c e k on = record { kept = refl; same = refl }
here Tick p why c e k on =
    either (λ x. HeldOn c (becomes c x)) (eqb c.phase green)
    (λ _. either (λ x. HeldOn c (becomes c x)) (ltb 1 c.count) (λ _. record { kept = k; same = refl }) (λ _. record { kept = refl; same = refl }))
    (λ _. either (λ x. HeldOn c (becomes c x)) (eqb c.phase red) (λ q. out keeps c.phase red refl q k) (λ _. record { kept = k; same = refl }))
here Passed p why c e k on = absurd (on passing)
here Lapsed p why c e k on = absurd (on lapsing)
here Dark p why c e k on = out keeps c.phase dimmed refl e k
here Ack p why c e k on = out keeps c.phase closed refl e k
here Unknown p why c e k on = absurd (false≢true e)

-- .. and at no other step
pub holds_on : (r : Record) (k : Kind) (d p : ℕ) → Shaped r → Sound r → (step_of r k d p).answer ≡ Done → keeps (get_or r.phase d 0) ≡ true
    → (EndsStay k (step_of r k d p).reason → ⊥) → HeldOn (door_of r d) (door_of (step_of r k d p).next d)
holds_on r k d p sh s e kept on =
    let w = done_did r k d p e in
    let told : (step_of r k d p).reason ≡ reason_in (doing r k d p) = rw w.1 (act_tells r d (doing r k d p)) in
    subst (HeldOn (door_of r d)) (sym (door_after r k d p sh s e))
    (here k p (reason_for r d (get_or r.holder d 0)) (door_of r d) w.0.allowed kept (rw told at on))

-- "so that `lapsed` frees [some]body": after `lapsed` the person whom the door held has no grant
pub lapsed_frees : (r : Record) (d p e : ℕ) → Shaped r → Sound r → (step_of r Lapsed d p).answer ≡ Done
    → GrantAt r.doors (step_of r Lapsed d p).next.phase (step_of r Lapsed d p).next.holder (get_or r.holder d 0) e → ⊥
unfolding allows
lapsed_frees r d p e sh s done g =
    let w = done_did r Lapsed d p done in
    let over = leaves r Lapsed d p (step_of r Lapsed d p).reason sh s done refl lapsing in
    ⊎_elim (λ is. clash (grants_keeps _ (rw is at g.holds)) over.nobody)
    (λ is_not.
    let at = others_stay r Lapsed d p e is_not in
    (s.doors d w.0.a_door).alone (expired_grants (get_or r.phase d 0) (eqb-true _ _ w.0.allowed)) e is_not
    (record {
      exists = g.exists;
      holds = subst (λ (c : Door). grants c.phase ≡ true) at g.holds;
      person = subst (λ (c : Door). c.holder ≡ get_or r.holder d 0) at g.person;
    }))
    (same_or_not e d)

-- ---- lights

-- at a sound record the test for 14 is passed
pub sound_steps : (r : Record) (k : Kind) (d p : ℕ) → Shaped r → Sound r → step_of r k d p ≡ sound_step r k d p
unfolding step_of
sound_steps r k d p sh s = rw ((sound_tells r sh).back s)

-- a step that the door's phase doesn't allow is no change
pub barred_stays : (r : Record) (k : Kind) (d p : ℕ) → allows k (get_or r.phase d 0) ≡ false → (step_of r k d p).next ≡ r
barred_stays r k d p e = refused_stays r k d p (λ done. true≢false (sym (done_did r k d p done).0.allowed ∙ e))

-- a tick is done in every phase
pub tick_done : (r : Record) (d p : ℕ) → Shaped r → Sound r → d < r.doors → (step_of r Tick d p).answer ≡ Done
unfolding sound_step exist_among allows and_also or_else
tick_done r d p sh s h = rw (sound_steps r Tick d p sh s, lt-ltb d r.doors h) (act_done r d (doing r Tick d p))

-- a light's last tick, and each one before it
unfoldable pub burnt : ℕ → ℕ
burnt ph = cond (eqb ph green) expired dimmed

pub tick_last : (ph h n p why : ℕ) → lit ph ≡ true → n ≤ 1 → becomes (door ph h n) (effect Tick p why (door ph h n)) ≡ door (burnt ph) h 0
unfolding effect lit burnt
tick_last ph h n p why lights le = ⊎_elim (λ (q : ph ≡ green). simp (q, le-ltb 1 n le)) (λ (q : ph ≡ red). simp (q, le-ltb 1 n le)) (one_of ph green red lights)

tick_more : (ph h n p why : ℕ) → lit ph ≡ true → 1 < n → becomes (door ph h n) (effect Tick p why (door ph h n)) ≡ door ph h (n - 1)
unfolding effect lit
tick_more ph h n p why lights lt = ⊎_elim (λ (q : ph ≡ green). simp (q, lt-ltb 1 n lt)) (λ (q : ph ≡ red). simp (q, lt-ltb 1 n lt)) (one_of ph green red lights)

-- the door after a tick
pub tick_after : (r : Record) (d p ph h n : ℕ) (c : Door) → Shaped r → Sound r → d < r.doors → door_of r d ≡ door ph h n
    → becomes (door ph h n) (effect Tick p (reason_for r d (get_or r.holder d 0)) (door ph h n)) ≡ c → door_of (step_of r Tick d p).next d ≡ c
tick_after r d p ph h n c sh s hd at to =
    door_after r Tick d p sh s (tick_done r d p sh s hd)
    ∙ (ap (λ (x : Door). becomes x (effect Tick p (reason_for r d (get_or r.holder d 0)) x)) at ∙ to)

-- a step that isn't a tick of door d and that phase ph doesn't allow there
abbrev pub Calm : ℕ → ℕ → StepRow → Type 0
Calm ph d row = row.at ≡ d → is_tick row.kind ≡ false → allows row.kind ph ≡ false

pub is_tick_lem : (k : Kind) → is_tick k ≡ true → k ≡ Tick
unfolding is_tick
is_tick_lem Card e = absurd (false≢true e)
is_tick_lem Decide e = absurd (false≢true e)
is_tick_lem Green e = absurd (false≢true e)
is_tick_lem Red e = absurd (false≢true e)
is_tick_lem Walk e = absurd (false≢true e)
is_tick_lem Tick e = refl
is_tick_lem Passed e = absurd (false≢true e)
is_tick_lem Lapsed e = absurd (false≢true e)
is_tick_lem Dark e = absurd (false≢true e)
is_tick_lem Ack e = absurd (false≢true e)
is_tick_lem Unknown e = absurd (false≢true e)

pub ticks_on : (d : ℕ) (row : StepRow) (rows : List StepRow) → row.at ≡ d → is_tick row.kind ≡ true → ticks d (row ∷ rows) ≡ suc (ticks d rows)
unfolding ticks and_also
ticks_on d row rows at tick = simp (eq-eqb _ _ at, tick)

pub ticks_idle : (d : ℕ) (row : StepRow) (rows : List StepRow) → is_tick row.kind ≡ false → ticks d (row ∷ rows) ≡ ticks d rows
unfolding ticks and_also
ticks_idle d row rows idle = rw idle (go (eqb row.at d))
  where
    go : (b : Bool) → cond (and_also b false) (suc (ticks d rows)) (ticks d rows) ≡ ticks d rows
    go true = refl
    go false = refl

pub ticks_off : (d : ℕ) (row : StepRow) (rows : List StepRow) → (row.at ≡ d → ⊥) → ticks d (row ∷ rows) ≡ ticks d rows
unfolding ticks and_also
ticks_off d row rows away = simp (ne_eqb _ _ away)

-- a light burns at door d with a countdown of n, of which the list takes off fewer
pub record Burning (ph d h : ℕ) (rows : List StepRow) (r : Record) (n : ℕ) : Type 0 where
  pub shaped : Shaped r
  pub sound : Sound r
  pub exists : d < r.doors
  pub burns : lit ph ≡ true
  pub now : door_of r d ≡ door ph h n
  pub more : ticks d rows < n

-- and so it does after a step that leaves it another countdown
pub burns_next : (ph d h : ℕ) (rows : List StepRow) (r : Record) (n : ℕ) → Burning ph d h rows r n → (row : StepRow) (rest : List StepRow) (m : ℕ)
    → door_of (row_of r row).next d ≡ door ph h m → ticks d rest < m → Burning ph d h rest (row_of r row).next m
burns_next ph d h rows r n b row rest m to few =
    let k = row.kind in
    record {
      shaped = shaped_stays r k row.at row.person b.shaped;
      sound = sound_stays r k row.at row.person b.shaped b.sound;
      exists = rw (ap (λ (site : Plan). site.doors) (plan_stays r k row.at row.person)) b.exists;
      burns = b.burns;
      now = to;
      more = few;
    }

-- one step of a calm list: a tick of the door takes one off, all else nothing
pub calm_row : (r : Record) (d ph h n : ℕ) (row : StepRow) (rows : List StepRow) → Burning ph d h (row ∷ rows) r n → Calm ph d row
    → (m : ℕ) × (door_of (row_of r row).next d ≡ door ph h m) × (m + ticks d (row ∷ rows) ≡ n + ticks d rows)
calm_row r d ph h n row rows b calm = ⊎_elim (λ is. ticking is (is_tick row.kind) refl) other (same_or_not row.at d)
  where
    other : (row.at ≡ d → ⊥) → (m : ℕ) × (door_of (row_of r row).next d ≡ door ph h m) × (m + ticks d (row ∷ rows) ≡ n + ticks d rows)
    other away = (n, others_stay r row.kind row.at row.person d (λ e. away (sym e)) ∙ b.now, ap (λ (t : ℕ). n + t) (ticks_off d row rows away))

    ticking : row.at ≡ d → (t : Bool) → is_tick row.kind ≡ t → (m : ℕ) × (door_of (row_of r row).next d ≡ door ph h m) × (m + ticks d (row ∷ rows) ≡ n + ticks d rows)
    ticking is true tick =
        let one = ticks_on d row rows is tick in
        let more = b.more in
        let to = tick_after r d row.person ph h n (door ph h (n - 1)) b.shaped b.sound b.exists b.now (tick_more ph h n row.person (reason_for r d (get_or r.holder d 0)) b.burns (omega arith)) in
        (n - 1, rw (is_tick_lem row.kind tick, is) to, omega arith)
    ticking is false idle =
        let none : (step_of r row.kind row.at row.person).next ≡ r =
        barred_stays r row.kind row.at row.person (rw (is, ap (λ (c : Door). c.phase) b.now) (calm is idle)) in
        (n, rw none b.now, ap (λ (t : ℕ). n + t) (ticks_idle d row rows idle))

-- a light burns on through a calm list that has fewer ticks of its door than its countdown, and has lost just those
calm_burns : (ph d h : ℕ) (rows : List StepRow) → Each (Calm ph d) rows → (r : Record) (n : ℕ) → Burning ph d h rows r n
    → Burning ph d h [] (last_of r rows) (n - ticks d rows)
unfolding last_of ticks
calm_burns ph d h rows end r n b =
    record {
      shaped = b.shaped;
      sound = b.sound;
      exists = b.exists;
      burns = b.burns;
      now = b.now ∙ ap (λ (m : ℕ). door ph h m) (omega arith);
      more = let more = b.more in omega arith;
    }
calm_burns ph d h rows (step {one = row} {more = rest} calm calms) r n b =
    let one = calm_row r d ph h n row rest b calm in
    let sum = one.2 in
    let more = b.more in
    subst (λ (m : ℕ). Burning ph d h [] (last_of (row_of r row).next rest) m) (omega arith)
    (calm_burns ph d h rest calms (row_of r row).next one.0
    (burns_next ph d h (row ∷ rest) r n b row rest one.0 one.1 (omega arith)))

-- and the tick that takes the last one off puts it out
calm_ends : (ph d h : ℕ) (rows : List StepRow) → Each (Calm ph d) rows → (r : Record) (n p : ℕ) → Burning ph d h rows r n → ticks d rows + 1 ≡ n
    → door_of (step_of (last_of r rows) Tick d p).next d ≡ door (burnt ph) h 0
calm_ends ph d h rows calms r n p b last =
    let left = calm_burns ph d h rows calms r n b in
    tick_after (last_of r rows) d p ph h (n - ticks d rows) (door (burnt ph) h 0) left.shaped left.sound left.exists left.now
    (tick_last ph h (n - ticks d rows) p (reason_for (last_of r rows) d (get_or (last_of r rows).holder d 0)) b.burns (omega arith))

each_as : {P Q : StepRow → Type 0} {rows : List StepRow} → ((row : StepRow) → P row → Q row) → Each P rows → Each Q rows
each_as f end = end
each_as f (step {one} p ps) = step (f one p) (each_as f ps)

each_so : {P : StepRow → Type 0} → ((row : StepRow) → P row) → (rows : List StepRow) → Each P rows
each_so f [] = end
each_so f (row ∷ rows) = step (f row) (each_so f rows)

-- but for ticks, a burning light allows a green door's `walk` alone
pub only_walk : (ph : ℕ) → lit ph ≡ true → (k : Kind) → is_tick k ≡ false → allows k ph ≡ true → (k ≡ Walk) × (ph ≡ green)
unfolding allows is_tick lit or_else
only_walk ph on Card t e = out lit ph free refl e on
only_walk ph on Decide t e = out lit ph read refl e on
only_walk ph on Green t e = out lit ph granted refl e on
only_walk ph on Red t e = out lit ph denied refl e on
only_walk ph on Walk t e = (refl, eqb-true ph green e)
only_walk ph on Tick t e = absurd (true≢false t)
only_walk ph on Passed t e = out lit ph walked refl e on
only_walk ph on Lapsed t e = out lit ph expired refl e on
only_walk ph on Dark t e = out lit ph dimmed refl e on
only_walk ph on Ack t e = out lit ph closed refl e on
only_walk ph on Unknown t e = absurd (false≢true e)

calm_else : (ph d : ℕ) → lit ph ≡ true → (row : StepRow) → (row.at ≡ d → row.kind ≡ Walk → ph ≡ green → ⊥) → Calm ph d row
calm_else ph d on row no_Walk is idle = go (allows row.kind ph) refl
  where
    go : (b : Bool) → allows row.kind ph ≡ b → b ≡ false
    go true e = let walks = only_walk ph on row.kind idle e in absurd (no_Walk is walks.0 walks.1)
    go false e = refl

calm_green : (d : ℕ) {rows : List StepRow} → Each (NoWalk d) rows → Each (Calm green d) rows
unfolding lit or_else
calm_green d = each_as (λ row no_Walk. calm_else green d refl row (λ is walks _. no_Walk is walks))

calm_red : (d : ℕ) (rows : List StepRow) → Each (Calm red d) rows
unfolding lit or_else
calm_red d = each_so (λ row. calm_else red d refl row (λ _ _ z. omega arith))

-- A green door that gets no `walk` "is expired after exactly as many of its own ticks as its countdown says", whatever else comes,
-- another `green` too: with fewer ticks it is green, its countdown less the ticks; ..
pub green_burns : (r : Record) (d h n : ℕ) (rows : List StepRow) → Shaped r → Sound r → d < r.doors → door_of r d ≡ door green h n
    → Each (NoWalk d) rows → ticks d rows < n → door_of (last_of r rows) d ≡ door green h (n - ticks d rows)
unfolding lit or_else
green_burns r d h n rows sh s hd at quiet few =
    (calm_burns green d h rows (calm_green d quiet) r n
    (record { shaped = sh; sound = s; exists = hd; burns = refl; now = at; more = few })).now

-- .. and the tick with which they are as many makes it expired, still holding the person
pub green_expires : (r : Record) (d h n p : ℕ) (rows : List StepRow) → Shaped r → Sound r → d < r.doors → door_of r d ≡ door green h n
    → Each (NoWalk d) rows → ticks d rows + 1 ≡ n → door_of (step_of (last_of r rows) Tick d p).next d ≡ door expired h 0
unfolding lit or_else burnt
green_expires r d h n p rows sh s hd at quiet last =
    calm_ends green d h rows (calm_green d quiet) r n p
    (record { shaped = sh; sound = s; exists = hd; burns = refl; now = at; more = omega arith }) last

-- the same of a red door, whatever comes
pub red_burns : (r : Record) (d h n : ℕ) (rows : List StepRow) → Shaped r → Sound r → d < r.doors → door_of r d ≡ door red h n
    → ticks d rows < n → door_of (last_of r rows) d ≡ door red h (n - ticks d rows)
unfolding lit or_else
red_burns r d h n rows sh s hd at few =
    (calm_burns red d h rows (calm_red d rows) r n
    (record { shaped = sh; sound = s; exists = hd; burns = refl; now = at; more = few })).now

pub red_dims : (r : Record) (d h n p : ℕ) (rows : List StepRow) → Shaped r → Sound r → d < r.doors → door_of r d ≡ door red h n
    → ticks d rows + 1 ≡ n → door_of (step_of (last_of r rows) Tick d p).next d ≡ door dimmed h 0
unfolding lit or_else burnt
red_dims r d h n p rows sh s hd at last =
    calm_ends red d h rows (calm_red d rows) r n p
    (record { shaped = sh; sound = s; exists = hd; burns = refl; now = at; more = omega arith }) last

-- ---- a whole list of steps

-- a sound record stays sound over a list of steps
pub run_sound : (r : Record) (rows : List StepRow) → Shaped r → Sound r → Sound (last_of r rows)
unfolding last_of
run_sound r [] sh s = s
run_sound r (row ∷ rows) sh s =
    run_sound (row_of r row).next rows (shaped_stays r row.kind row.at row.person sh)
    (sound_stays r row.kind row.at row.person sh s)

pub run_shaped : (r : Record) (rows : List StepRow) → Shaped r → Shaped (last_of r rows)
unfolding last_of
run_shaped r [] sh = sh
run_shaped r (row ∷ rows) sh = run_shaped (row_of r row).next rows (shaped_stays r row.kind row.at row.person sh)

-- and keeps its plan and its rights
pub run_plan : (r : Record) (rows : List StepRow) → plan_of (last_of r rows) ≡ plan_of r
unfolding last_of
run_plan r [] = refl
run_plan r (row ∷ rows) = run_plan (row_of r row).next rows ∙ plan_stays r row.kind row.at row.person

pub run_rights : (r : Record) (rows : List StepRow) → (last_of r rows).right ≡ r.right
unfolding last_of
run_rights r [] = refl
run_rights r (row ∷ rows) = run_rights (row_of r row).next rows ∙ rights_stay r row.kind row.at row.person
