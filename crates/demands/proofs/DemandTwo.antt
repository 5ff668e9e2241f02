-- The parts of demand 2: the way outside, a step and its event, a decision, what steps alter, and how the lights count down; what they
-- say is in `specs/DemandTwo.antt`. Assumes nothing.
use Prim.Native.Nat.{ℕ, ◌≤◌, ◌<◌}
use mathlib.Core.Path.{◌≡◌, refl, sym, ap, subst, ◌∙◌}
use mathlib.Core.Bool.{Bool, true, false, false≢true}
use mathlib.Core.List.{List, ◌++◌}
use mathlib.Core.Logic.{◌↔◌}
use native.Mathlib.Omega.{arith}
use borrow.Author.Tests.{eqb-true, eqb-false, ltb-true, ne_eqb, lt-ltb, le-leb}
use lib.ListN.{length, get_or, drop}
use lib.Dec.{eqb, ltb}
use Rattle.std.specs.Prelude.{Ok}
use Rattle.tables.specs.Tables.{Plan, and_also}
use Rattle.tables.proofs.Laws.{clash}
use Rattle.tables.specs.Rules.{SafeWay}
use Rattle.tables.specs.Way.{Way, way_of, if_room, way_told_in, way_written_in}
use Rattle.tables.proofs.WayOut.{the_way}
use Rattle.door.specs.declared.Door.{Door}
use Rattle.door.specs.Door.{door}
use Rattle.record.specs.declared.record.Record.{Record}
use Rattle.phases.specs.declared.table.Kind.{Kind}
use Rattle.phases.specs.declared.table.Kind.TheVariants.{Card, Decide, Green, Red, Walk, Tick, Passed, Lapsed, Dark, Ack, Unknown}
use Rattle.phases.specs.declared.answer.Answer.TheVariants.{Done}
use Rattle.record.specs.declared.steps.Step.{Step}
use Rattle.phases.specs.Phase.{free, read, granted, green, walked, expired, denied, red, dimmed, closed, green_span, red_span, grants}
use Rattle.record.specs.Doors.{plan_of, door_of, Shaped}
use Rattle.phases.specs.declared.table.StepRow.{StepRow}
use Rattle.phases.specs.Kinds.{allows, names_person}
use Rattle.phases.specs.Answers.{reason_busy}
use Rattle.granting.specs.Grants.{GrantAt}
use Rattle.record.specs.Sound.{Sound}
use Rattle.door_does.specs.declared.Does.{Does}
use Rattle.door_does.specs.Does.{burns, effect}
use Rattle.record.specs.Steps.{reason_for, Admitted, HeldDoor, the_grant, no_door, act, doing, step_of}
use Rattle.record.specs.Run.{last_of}
use Rattle.record.specs.Lights.{Each, NoWalk}
use Rattle.record.specs.Questions.{way_answer_of, way_written}
use Rattle.tables.proofs.Cases.{either}
use Rattle.record.proofs.Ask.{place_is_location, way_out_safe}
use Rattle.record.proofs.Right.{admitted}
use Rattle.record.proofs.Tells.{sound_tells}
use Rattle.record.proofs.Laws.{done_did, step_done, not_allowed, act_done, becomes, door_after, sound_stays, shaped_stays, plan_stays, rights_stay, run_sound, run_shaped, run_plan, run_rights, denied_first, door_told, granted_exactly, green_burns, green_expires, red_burns, red_dims}
use Rattle.verdict.specs.Verdict.{Accepted}
use Rattle.grammar.specs.Sizes.{limit}
use Rattle.site_lines.specs.Draft.{plan_in}
use Rattle.site_sheet.specs.Site.{site_of}
use Rattle.site_sheet.proofs.Theorems.{accepted_holds}
use Rattle.chapter.proofs.Theorems.{fresh_reads, starts_each, step_acts, step_follows, tick_skips, again_refused, refusal_alters_nothing, stands_for_one, uneventful_stands_for_none, denial_first}
use Rattle.machines.specs.M4 as m4
use Rattle.chapter.specs.Reading.{constants_of, state_of}
use Rattle.chapter.specs.Panel.{StartOfEach}
use Rattle.demands.specs.DemandTwo.{WayAsked, WayOutside, StepIsEvent, Light, Decided, HeldIsTheGrant, SameTables, IdleTick, CountsDown}
use Rattle.record_answers.proofs.Record.{of_record}

-- ---- the way outside

-- the question for the way out of a location, on a list that has room for it
way_told : (r : Record) → Shaped r → Sound r → (l : ℕ) → l < r.locations → (list : List ℕ) → length (way_of r.locations r.exit l) ≤ length list
    → (way_answer_of r l list ≡ Ok (length (way_of r.locations r.exit l)))
    × (way_written r l list ≡ way_of r.locations r.exit l ++ drop (length (way_of r.locations r.exit l)) list)
unfolding way_answer_of way_written way_told_in way_written_in if_room
way_told r sh s l h list room =
    let t = (sound_tells r sh).back s in
    let e = lt-ltb l r.locations h in
    let q = le-leb (length (way_of r.locations r.exit l)) (length list) room in
    (rw (t, e, q), rw (t, e, q))

-- and that way
asks : (r : Record) → Shaped r → Sound r → (l : ℕ) → l < r.locations → WayAsked r.exit r l
asks r sh s l h =
    record {
      way = way_of r.locations r.exit l;
      signed = (the_way s.tables l h).is_way;
      short = (the_way s.tables l h).short;
      told = way_told r sh s l h;
    }

pub way_of_lem : (r : Record) → Shaped r → Sound r → (p : ℕ) → p < r.people → WayOutside r r p
unfolding asks
way_of_lem r sh s p h = record { asked = asks r sh s (get_or r.place p 0) (place_is_location r s p h); usable = way_out_safe r s p h }

-- after any list of steps from an accepted sheet
module _ (s : List ℕ) (e : (site_of s).verdict ≡ Accepted) (rows : List StepRow) where
  abbrev last : Record
  last = last_of (site_of s).«record» rows

  shaped : Shaped last
  shaped = run_shaped (site_of s).«record» rows (accepted_holds limit s e).shaped

  sound : Sound last
  sound = let a = accepted_holds limit s e in run_sound (site_of s).«record» rows a.shaped a.sound

  plan_of_lem : plan_of last ≡ plan_of (site_of s).«record»
  plan_of_lem = run_plan (site_of s).«record» rows

  rights_of : last.right ≡ (site_of s).«record».right
  rights_of = run_rights (site_of s).«record» rows

  -- the way is by the tables of the sheet's own record
  pub after_steps : (p : ℕ) → p < (site_of s).«record».people → WayOutside (site_of s).«record» last p
  after_steps p h =
      let w = way_of_lem last shaped sound p (rw (ap (λ (site : Plan). site.people) plan_of_lem) h) in
      let l = get_or last.place p 0 in
      let way = w.asked.way in
      record {
        asked =
            record {
              way = way;
              signed = subst (λ (site : Plan). Way site.exit l way) plan_of_lem w.asked.signed;
              short = w.asked.short;
              told = w.asked.told;
            };
        usable =
            subst (λ (right : List Bool). SafeWay (plan_of (site_of s).«record») right p l way) rights_of
            (subst (λ (site : Plan). SafeWay site last.right p l way) plan_of_lem w.usable);
      }

  pub asks_after : (l : ℕ) → l < (site_of s).«record».locations → WayAsked (site_of s).«record».exit last l
  asks_after l h =
      subst (λ (site : Plan). WayAsked site.exit last l) plan_of_lem
      (asks last shaped sound l (rw (ap (λ (site : Plan). site.locations) plan_of_lem) h))

-- ---- a step and its event

pub is_event : (r : Record) → Shaped r → Sound r → (k : Kind) (d p : ℕ) → StepIsEvent r k d p
is_event r sh s k d p =
    record {
      acts = step_acts r sh s k d p;
      does = step_follows r sh s k d p;
      one = stands_for_one r k d p;
      ticks_on = tick_skips r sh s k d p;
      no_event = uneventful_stands_for_none r k d p;
      again = again_refused r sh s k d p;
      refused = refusal_alters_nothing r k d p;
      sound_again = (shaped_stays r k d p sh, sound_stays r k d p sh s);
    }

-- the record of an accepted sheet is fresh, and so reads as the initial state of each machine
pub starts : (s : List ℕ) → (site_of s).verdict ≡ Accepted → StartOfEach (site_of s).«record»
starts s e =
    let a = accepted_holds limit s e in
    let t = a.tables in
    starts_each (site_of s).«record» a.sound
    (subst (λ (r : Record). m4.Start (constants_of r) (state_of r)) (sym a.fresh)
    (fresh_reads (plan_in t) t.right))

-- ---- a decision

-- a door of a sound record that is so takes the order for one light and not for the other
module _ (r : Record) (sh : Shaped r) (s : Sound r) (d : ℕ) (h : d < r.doors) where
  lights : (on off : Kind) (burning : ℕ) → names_person on ≡ false → names_person off ≡ false → allows on (get_or r.phase d 0) ≡ true
      → allows off (get_or r.phase d 0) ≡ false → ((p : ℕ) → (act r d (doing r on d p)).phase ≡ burning) → Light r d on off burning
  lights on off burning nobody no_one ok no_way lit =
      let e : (p : ℕ) → step_of r on d p ≡ act r d (doing r on d p) = λ p. step_done r on d p sh s h (λ named. clash named nobody) ok in
      record {
        taken = λ p. ap (λ (x : Step). x.answer) (e p) ∙ act_done r d (doing r on d p);
        burns = λ p. ap (λ (x : Step). x.phase) (e p) ∙ lit p;
        other = λ p. ap (λ (x : Step). x.answer) (not_allowed r off d p sh s h no_one no_way);
      }

  -- a granted door
  green_next : get_or r.phase d 0 ≡ granted → Light r d Green Red green
  unfolding act effect allows
  green_next is = lights Green Red green refl refl (rw is) (rw is) (λ _. refl)

  -- a denied one
  red_next : get_or r.phase d 0 ≡ denied → Light r d Red Green red
  unfolding act effect allows
  red_next is = lights Red Green red refl refl (rw is) (rw is) (λ _. refl)

-- whoever isn't admitted is denied
denies : (r : Record) (d p : ℕ) → (step_of r Decide d p).answer ≡ Done → (Admitted r d (get_or r.holder d 0) → ⊥) → (step_of r Decide d p).phase ≡ denied
unfolding act effect
denies r d p e no_way =
    let h = get_or r.holder d 0 in
    rw (done_did r Decide d p e).1
    (either (λ x. (act r d x).phase ≡ denied) (eqb (reason_for r d h) 0) (λ z. absurd (no_way (admitted r d h (eqb-true _ _ z)))) (λ _. refl))

-- a door that exists does so after any step
door_stays : (r : Record) (k : Kind) (d p : ℕ) → (step_of r k d p).answer ≡ Done → d < (step_of r k d p).next.doors
door_stays r k d p e = rw (ap (λ (site : Plan). site.doors) (plan_stays r k d p)) (done_did r k d p e).0.a_door

pub decided : (r : Record) → Shaped r → Sound r → (d p : ℕ) → (step_of r Decide d p).answer ≡ Done → Decided r d (step_of r Decide d p)
decided r sh s d p e =
    let next = (step_of r Decide d p).next in
    let sh' = shaped_stays r Decide d p sh in
    let s' = sound_stays r Decide d p sh s in
    let there = door_stays r Decide d p e in
    let now = (of_record.step r Decide d p).phase_after sh e in
    record {
      granted_when = granted_exactly r d p e;
      denied_when = (λ is a. let was = (granted_exactly r d p e).1 a in omega arith, denies r d p e);
      green_then = λ a. green_next next sh' s' d there (sym now ∙ (granted_exactly r d p e).1 a);
      red_then = λ no_way. red_next next sh' s' d there (sym now ∙ denies r d p e no_way);
      reason = denied_first r d p e;
      guard = denial_first r s d p e;
    }

-- the door told with reason 3
pub held_grant : (r : Record) → Sound r → (d p : ℕ) → (step_of r Decide d p).answer ≡ Done → HeldIsTheGrant r d (step_of r Decide d p)
unfolding allows grants and_also
held_grant r s d p done =
    let told = door_told r s Decide d p in
    record {
      the_door = the_one told;
      by_dap = the_one told;
      elsewhere = λ is here. clash ((the_one told is d).0 (sym here)).holds (rw (eqb-true (get_or r.phase d 0) read (done_did r Decide d p done).0.allowed));
      else_none = none told;
    }
  where
    the_one : {why held : ℕ} → HeldDoor r (get_or r.holder d 0) why held → why ≡ reason_busy
        → (e : ℕ) → (e ≡ held) ↔ GrantAt r.doors r.phase r.holder (get_or r.holder d 0) e
    the_one (the_grant g only) is e = ((λ same. subst (GrantAt r.doors r.phase r.holder (get_or r.holder d 0)) (sym same) g), only e)
    the_one (no_door other) is e = absurd (other is)

    none : {why held : ℕ} → HeldDoor r (get_or r.holder d 0) why held → (why ≡ reason_busy → ⊥) → held ≡ 0
    none (the_grant g only) other = absurd (other refl)
    none (no_door _) other = refl

-- ---- what steps alter

-- nothing of the tables
pub tables_stay : (r : Record) (k : Kind) (d p : ℕ) → SameTables r (step_of r k d p).next
tables_stay r k d p = record { same_plan = plan_stays r k d p; same_rights = rights_stay r k d p }

pub run_tables_stay : (r : Record) (rows : List StepRow) → SameTables r (last_of r rows)
run_tables_stay r rows = record { same_plan = run_plan r rows; same_rights = run_rights r rows }

-- a step that leaves its door as it is is an idle tick
module _ (r : Record) (d p why : ℕ) where
  abbrev c : Door
  c = door_of r d

  abbrev Same : Kind → Does → Type 0
  Same k x = c ≡ becomes c x → IdleTick r k d

  phase_is : {x : Door} → c ≡ x → c.phase ≡ x.phase
  phase_is e = ap (λ (y : Door). y.phase) e

  count_is : {x : Door} → c ≡ x → c.count ≡ x.count
  count_is e = ap (λ (y : Door). y.count) e

  only_then : (k : Kind) → allows k c.phase ≡ true → Same k (effect k p why c)
  unfolding allows effect
  only_then Card ok e = let a = eqb-true c.phase free ok in let b = phase_is e in absurd (omega arith)
  only_then Decide ok e =
      let a = eqb-true c.phase read ok in
      either (Same Decide) (eqb why 0) (λ _ e. let b = phase_is e in absurd (omega arith)) (λ _ e. let b = phase_is e in absurd (omega arith)) e
  only_then Green ok e = let a = eqb-true c.phase granted ok in let b = phase_is e in absurd (omega arith)
  only_then Red ok e = let a = eqb-true c.phase denied ok in let b = phase_is e in absurd (omega arith)
  only_then Walk ok e = let a = eqb-true c.phase green ok in let b = phase_is e in absurd (omega arith)
  only_then Tick ok e =
      either (Same Tick) (eqb c.phase green) (λ is. lit (eqb-true _ _ is) (λ z. omega arith))
      (λ no_green.
      either (Same Tick) (eqb c.phase red) (λ is. lit (eqb-true _ _ is) (λ z. omega arith)) (λ no_red _. record { tick = refl; no_green = eqb-false _ _ no_green; no_red = eqb-false _ _ no_red })) e
    where
      lit : {ph out : ℕ} → c.phase ≡ ph → (ph ≡ out → ⊥) → Same Tick (burns c out)
      lit {ph} {out} is other =
          either (Same Tick) (ltb 1 c.count) (λ more e. let a = ltb-true 1 c.count more in let b = count_is e in absurd (omega arith))
          (λ _ e. absurd (other (sym is ∙ phase_is e)))
  only_then Passed ok e = let a = eqb-true c.phase walked ok in let b = phase_is e in absurd (omega arith)
  only_then Lapsed ok e = let a = eqb-true c.phase expired ok in let b = phase_is e in absurd (omega arith)
  only_then Dark ok e = let a = eqb-true c.phase dimmed ok in let b = phase_is e in absurd (omega arith)
  only_then Ack ok e = let a = eqb-true c.phase closed ok in let b = phase_is e in absurd (omega arith)
  only_then Unknown ok e = absurd (false≢true ok)

-- and an idle tick alters nothing
untouched : (r : Record) (k : Kind) (d p why : ℕ) → IdleTick r k d → (act r d (effect k p why (door_of r d))).next ≡ r
unfolding act effect
untouched r k d p why idle = rw (idle.tick, ne_eqb (get_or r.phase d 0) green idle.no_green, ne_eqb (get_or r.phase d 0) red idle.no_red)

pub alters : (r : Record) → Shaped r → Sound r → (k : Kind) (d p : ℕ) → (step_of r k d p).answer ≡ Done → ((step_of r k d p).next ≡ r) ↔ IdleTick r k d
alters r sh s k d p e =
    let w = done_did r k d p e in
    let why = reason_for r d (get_or r.holder d 0) in (
      (λ same. only_then r d p why k w.0.allowed (sym (ap (λ (x : Record). door_of x d) same) ∙ door_after r k d p sh s e)),
      (λ none. ap (λ (x : Step). x.next) w.1 ∙ untouched r k d p why none),
    )

-- ---- countdowns

-- the order for a light sets its countdown
module _ (r : Record) (sh : Shaped r) (s : Sound r) (d p : ℕ) where
  pub green_ordered : (step_of r Green d p).answer ≡ Done → door_of (step_of r Green d p).next d ≡ door green (get_or r.holder d 0) green_span
  unfolding effect
  green_ordered e = door_after r Green d p sh s e

  pub red_ordered : (step_of r Red d p).answer ≡ Done → door_of (step_of r Red d p).next d ≡ door red (get_or r.holder d 0) red_span
  unfolding effect
  red_ordered e = door_after r Red d p sh s e

-- and a light that burns counts it down
module _ (r : Record) (sh : Shaped r) (s : Sound r) (d : ℕ) (there : d < r.doors) where
  in_phase : (ph : ℕ) → get_or r.phase d 0 ≡ ph → door_of r d ≡ door ph (get_or r.holder d 0) (get_or r.count d 0)
  in_phase ph is = ap (λ (x : ℕ). door x (get_or r.holder d 0) (get_or r.count d 0)) is

  pub green_counts : get_or r.phase d 0 ≡ green → CountsDown r d (Each (NoWalk d)) green expired
  green_counts is =
      record {
        burns = λ rows quiet few. green_burns r d (get_or r.holder d 0) (get_or r.count d 0) rows sh s there (in_phase green is) quiet few;
        ends = λ rows quiet last q. green_expires r d (get_or r.holder d 0) (get_or r.count d 0) q rows sh s there (in_phase green is) quiet last;
      }

  pub red_counts : get_or r.phase d 0 ≡ red → CountsDown r d (λ rows. Unit {0}) red dimmed
  red_counts is =
      record {
        burns = λ rows _ few. red_burns r d (get_or r.holder d 0) (get_or r.count d 0) rows sh s there (in_phase red is) few;
        ends = λ rows _ last q. red_dims r d (get_or r.holder d 0) (get_or r.count d 0) q rows sh s there (in_phase red is) last;
      }
