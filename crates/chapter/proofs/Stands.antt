-- Which event a step stands for, what a decision tells, the fresh record, and that no door is stuck. Assumes nothing.
use Prim.Native.Nat.{ℕ, ◌<◌}
use mathlib.Core.Path.{◌≡◌, refl, sym, subst, ap, ◌∙◌}
use mathlib.Core.Bool.{Bool, true, false, false≢true}
use mathlib.Core.Logic.{◌⊎◌, inl, inr, ⊎_elim}
use mathlib.Core.List.{List}
use native.Mathlib.Omega.{arith}
use borrow.Author.Tests.{eqb-true, eqb-false, eq-eqb, ltb-true}
use lib.ListN.{get_or}
use lib.Dec.{eqb, ltb}
use Rattle.tables.specs.Tables.{Plan, or_else, and_also}
use Rattle.door.specs.declared.Door.{Door}
use Rattle.record.specs.declared.record.Record.{Record}
use Rattle.phases.specs.declared.table.Kind.{Kind}
use Rattle.phases.specs.declared.table.Kind.TheVariants.{Card, Decide, Green, Red, Walk, Tick, Passed, Lapsed, Dark, Ack}
use Rattle.phases.specs.declared.answer.Answer.TheVariants.{Done}
use Rattle.phases.specs.Phase.{free, read, granted, green, walked, expired, denied, red, dimmed, closed, grants, keeps}
use Rattle.record.specs.Doors.{fresh_record, door_of, Shaped}
use Rattle.phases.specs.Kinds.{allows, number_of_kind}
use Rattle.record.specs.Sound.{Sound}
use Rattle.door_does.specs.declared.Does.{Does}
use Rattle.door_does.specs.Does.{effect}
use Rattle.record.specs.Steps.{First, HeldDoor, the_grant, no_door, doing, reason_for, step_of}
use Rattle.tables.proofs.Cases.{same_or_not, one_of, either}
use Rattle.record.proofs.Laws.{Allowed, done_did, denied_first, door_told, becomes, door_after}
use Rattle.record.proofs.Fresh.{fresh_free, fresh_outside}
use Rattle.machines.specs.Sets.{dom, ◌∪◌}
use Rattle.machines.specs.M3 as m3
use Rattle.machines.specs.M3.{Maps, dap, m_card}
use Rattle.machines.specs.M4 as m4
use Rattle.machines.specs.M4.{Sets, m_ackn, m_accept, m_refuse}
use Rattle.machines.specs.M4.{Event, CARD, pass, ACCEPT, PASS, off_grn, REFUSE, OFF-RED, off_red, ACKN}
use Rattle.chapter.specs.Reading.{constants_of, is_in, DoorIn, CardAt, state_of, state_of3, StandsFor, Enabled, MayAct, Uneventful, FirstFailing}
use Rattle.chapter.specs.Reading.{card, grant, denial, green_order, walk, expiry, passage, lapse, red_order, dimming, darkness, acknowledgement}
use Rattle.chapter.specs.Panel.{door_at, Live}
use Rattle.chapter.proofs.Invariants.{in_BLR, in_grn, grants_of, blocked, one_of_the_four}
use Rattle.chapter.proofs.Turn.{each}
use Rattle.chapter.proofs.Steps.{event_done, enabled}

-- ---- which event a step stands for

-- an enabled event that a step stands for is the only one
pub stands_once : (r : Record) (k : Kind) (d p : ℕ) (e f : Event) → StandsFor r d p k e → m4.Guard (constants_of r) (state_of r) e
    → StandsFor r d p k f → m4.Guard (constants_of r) (state_of r) f → e ≡ f
stands_once r k d p e f card g card h = refl
stands_once r k d p e f grant g grant h = refl
stands_once r k d p e f grant g denial h = absurd (h.1 g.1)
stands_once r k d p e f denial g grant h = absurd (g.1 h.1)
stands_once r k d p e f denial g denial h = refl
stands_once r k d p e f green_order g green_order h = refl
stands_once r k d p e f walk g walk h = refl
stands_once r k d p e f (expiry a b) g (expiry x y) h = refl
stands_once r k d p e f (expiry a b) g (dimming x y) h = absurd (omega arith)
stands_once r k d p e f (dimming a b) g (expiry x y) h = absurd (omega arith)
stands_once r k d p e f (dimming a b) g (dimming x y) h = refl
stands_once r k d p e f passage g passage h = refl
stands_once r k d p e f lapse g lapse h = refl
stands_once r k d p e f red_order g red_order h = refl
stands_once r k d p e f darkness g darkness h = refl
stands_once r k d p e f acknowledgement g acknowledgement h = refl

-- a tick that is uneventful stands for none
pub uneventful_stands : (r : Record) (k : Kind) (d p : ℕ) (e : Event) → Uneventful r k d → StandsFor r d p k e → ⊥
uneventful_stands r k d p e i card = omega (arith, ap number_of_kind i.tick)
uneventful_stands r k d p e i grant = omega (arith, ap number_of_kind i.tick)
uneventful_stands r k d p e i denial = omega (arith, ap number_of_kind i.tick)
uneventful_stands r k d p e i green_order = omega (arith, ap number_of_kind i.tick)
uneventful_stands r k d p e i walk = omega (arith, ap number_of_kind i.tick)
uneventful_stands r k d p e i (expiry at last) = omega (arith, i.green_on at)
uneventful_stands r k d p e i passage = omega (arith, ap number_of_kind i.tick)
uneventful_stands r k d p e i lapse = omega (arith, ap number_of_kind i.tick)
uneventful_stands r k d p e i red_order = omega (arith, ap number_of_kind i.tick)
uneventful_stands r k d p e i (dimming at last) = omega (arith, i.red_on at)
uneventful_stands r k d p e i darkness = omega (arith, ap number_of_kind i.tick)
uneventful_stands r k d p e i acknowledgement = omega (arith, ap number_of_kind i.tick)

-- ---- no door is stuck

module _ (r : Record) (sh : Shaped r) (s : Sound r) (d : ℕ) (h : d < r.doors) where
  -- a step that the door's phase allows, and that leaves it another door
  moves_on : (e : Event) → door_at e ≡ d → m4.Guard (constants_of r) (state_of r) e → (k : Kind) → allows k (get_or r.phase d 0) ≡ true
      → (door_of r d ≡ becomes (door_of r d) (doing r k d 0) → ⊥) → Live r d
  moves_on e here guard k may other =
      let acts = event_done r sh s d 0 k h (λ _. s.tables.in_range.people_from) may in
      record {
        happens = e;
        here = here;
        guard = guard;
        kind = k;
        person = 0;
        acts = acts;
        alters = λ same. other (sym (ap (λ (x : Record). door_of x d) same) ∙ door_after r k d 0 sh s acts);
      }

  -- such as one that leaves it another phase
  phase_moves : (e : Event) → door_at e ≡ d → m4.Guard (constants_of r) (state_of r) e → (k : Kind) (a : ℕ) → get_or r.phase d 0 ≡ a → allows k a ≡ true
      → (a ≡ (becomes (door_of r d) (doing r k d 0)).phase → ⊥) → Live r d
  phase_moves e here guard k a at may other =
      moves_on e here guard k (ap (allows k) at ∙ may) (λ same. other (sym at ∙ ap (λ (x : Door). x.phase) same))

  -- a red light's tick leaves another countdown, or another phase
  tick_moves : get_or r.phase d 0 ≡ red → Live r d
  unfolding is_in effect allows
  tick_moves at =
      moves_on (OFF-RED d) refl (record { exists = h; phase = eq-eqb _ _ at }) Tick refl
      (either Other (eqb (get_or r.phase d 0) green) (λ is _. let lit = eqb-true (get_or r.phase d 0) green is in omega arith)
      (λ _.
      either Other (eqb (get_or r.phase d 0) red)
      (λ _.
      either Other (ltb 1 (get_or r.count d 0)) (λ more e. let a = ltb-true 1 (get_or r.count d 0) more in let b = ap (λ (x : Door). x.count) e in omega arith)
      (λ _ e. let b = ap (λ (x : Door). x.phase) e in omega arith))
      (λ is_not _. eqb-false (get_or r.phase d 0) red is_not at)))
    where
      Other : Does → Type 0
      Other x = door_of r d ≡ becomes (door_of r d) x → ⊥

  -- and a decision another phase, whichever it is
  decision_moves : get_or r.phase d 0 ≡ read → Enabled r Decide d 0 → Live r d
  unfolding effect allows
  decision_moves at e =
      phase_moves e.event (here e.stands) e.guard Decide read at refl
      (either (λ x. read ≡ (becomes (door_of r d) x).phase → ⊥) (eqb (reason_for r d (get_or r.holder d 0)) 0) (λ _ e. omega arith) (λ _ e. omega arith))
    where
      here : {e : Event} → StandsFor r d 0 Decide e → door_at e ≡ d
      here grant = refl
      here denial = refl

  pub live : Live r d
  unfolding is_in allows effect or_else
  live =
      ⊎_elim
      (λ is. phase_moves (CARD 0 d) refl (s.tables.in_range.people_from, h, λ b. in_BLR r d b is) Card free is refl (λ e. omega arith))
      (λ is_not. go (one_of_the_four r d s (blocked r d h is_not)))
      (same_or_not (get_or r.phase d 0) free)
    where
      accepted : DoorIn r m_accept d → (get_or r.phase d 0 ≡ granted) ⊎ (get_or r.phase d 0 ≡ green) → Live r d
      accepted x (inl at) = phase_moves (ACCEPT d) refl x Green granted at refl (λ e. omega arith)
      accepted x (inr at) = phase_moves (PASS d) refl (record { exists = h; phase = eq-eqb _ _ at }) Walk green at refl (λ e. omega arith)

      refused : DoorIn r m_refuse d → (get_or r.phase d 0 ≡ denied) ⊎ (get_or r.phase d 0 ≡ red) → Live r d
      refused x (inl at) = phase_moves (REFUSE d) refl x Red denied at refl (λ e. omega arith)
      refused x (inr at) = tick_moves at

      decides : get_or r.phase d 0 ≡ read → MayAct r Decide d 0 ⊎ Uneventful r Decide d → Live r d
      decides at (inl may) = decision_moves at may.enabled
      decides at (inr i) = absurd (omega (arith, ap number_of_kind i.tick))

      go : (dom (CardAt r) ∪ (state_of3 r).set m3.grn ∪ (state_of3 r).set m3.red ∪ DoorIn r m_ackn) d → Live r d
      go (inl x) = decides x.1.phase (enabled r sh s d 0 Decide (event_done r sh s d 0 Decide h (λ e. absurd (false≢true e)) (eq-eqb _ _ x.1.phase)))
      go (inr (inl (inl x))) = accepted x (one_of _ _ _ x.phase)
      go (inr (inl (inr (inl x)))) =
          let g = grants_of r d (in_grn r d (inr (inl x))) in
          phase_moves (pass (get_or r.holder d 0) d) refl (x, record { exists = h; holds = g; person = refl }) Passed walked (eqb-true _ _ x.phase) refl (λ e. omega arith)
      go (inr (inl (inr (inr x)))) = phase_moves (off_grn d) refl x Lapsed expired (eqb-true _ _ x.phase) refl (λ e. omega arith)
      go (inr (inr (inl (inl x)))) = refused x (one_of _ _ _ x.phase)
      go (inr (inr (inl (inr x)))) = phase_moves (off_red d) refl x Dark dimmed (eqb-true _ _ x.phase) refl (λ e. omega arith)
      go (inr (inr (inr x))) = phase_moves (ACKN d) refl x Ack closed (eqb-true _ _ x.phase) refl (λ e. omega arith)

-- ---- the fresh record

module _ (site : Plan) (right : List Bool) where
  none_in : (X : Sets) → is_in X free ≡ false
  unfolding is_in or_else
  none_in = each _ refl refl refl refl refl refl refl refl refl

  pub fresh_starts : m4.Start (constants_of (fresh_record site right)) (state_of (fresh_record site right))
  unfolding grants and_also
  fresh_starts =
      record {
        sit = λ p _. fresh_outside site right p;
        sets = λ X d i. false≢true (sym (none_in X) ∙ subst (λ (x : ℕ). is_in X x ≡ true) (at d) i.phase);
        maps = maps;
      }
    where
      at : (d : ℕ) → get_or (fresh_record site right).phase d 0 ≡ free
      at d = ap (λ (x : Door). x.phase) (fresh_free site right d)

      maps : (f : Maps) (x y : ℕ) → (state_of (fresh_record site right)).map f x y → ⊥
      maps dap x y g = false≢true (subst (λ (z : ℕ). grants z ≡ true) (at y) g.holds)
      maps m_card x y g = omega (arith, sym (at x) ∙ g.phase)

-- ---- what a decision tells

pub first_failing : (r : Record) → Sound r → (d p : ℕ) → (step_of r Decide d p).answer ≡ Done
    → FirstFailing (constants_of r) (state_of r) (get_or r.holder d 0) d (step_of r Decide d p).reason (step_of r Decide d p).held
unfolding allows keeps and_also
first_failing r s d p done = go (denied_first r d p done) (door_told r s Decide d p)
  where
    w : Allowed r Decide d p
    w = (done_did r Decide d p done).0

    person : get_or r.holder d 0 < r.people
    person = (s.doors d w.a_door).held (rw (eqb-true (get_or r.phase d 0) read w.allowed))

    inside : get_or r.destination d 0 < r.locations
    inside = s.tables.in_range.destinations d w.a_door

    go : {n e : ℕ} → First r d (get_or r.holder d 0) n → HeldDoor r (get_or r.holder d 0) n e
        → FirstFailing (constants_of r) (state_of r) (get_or r.holder d 0) d n e
    go (First.none a) (no_door _) =
        FirstFailing.none (record { situated = a.at_origin; authorized = (person, inside, a.has_right); uninvolved = λ g. a.no_grant g.0 g.1 })
    go (First.away ne) (no_door _) = FirstFailing.situated ne
    go (First.barred at no_right) (no_door _) = FirstFailing.authorized at (λ a. false≢true (sym no_right ∙ a.2))
    go (First.busy at may e g) (the_grant h only) = FirstFailing.uninvolved at (person, inside, may) h only
    go (First.busy at may e g) (no_door other) = absurd (other refl)
