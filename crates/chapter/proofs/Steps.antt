-- Each step of the panel is an event of the fourth refinement, or a tick that alters nothing of the reading. Assumes nothing.
use Prim.Native.Nat.{ℕ, ◌≤◌, ◌<◌, ◌-◌}
use mathlib.Core.Path.{◌≡◌, refl, sym, subst, ap, ◌∙◌}
use mathlib.Core.Bool.{Bool, true, false, cond, false≢true}
use mathlib.Core.Logic.{◌⊎◌, inl, inr, ⊎_elim, ◌↔◌}
use native.Mathlib.Omega.{arith}
use borrow.Author.Tests.{eqb-true, eqb-false, eq-eqb, ne_eqb, ltb-true, ltb-false, lt-ltb, le-ltb}
use lib.ListN.{get_or}
use lib.Dec.{eqb, ltb}
use Rattle.tables.specs.Tables.{or_else, and_also}
use Rattle.door.specs.declared.Door.{Door}
use Rattle.record.specs.declared.record.Record.{Record}
use Rattle.phases.specs.declared.table.Kind.{Kind}
use Rattle.phases.specs.declared.table.Kind.TheVariants.{Card, Decide, Green, Red, Walk, Tick, Passed, Lapsed, Dark, Ack, Unknown}
use Rattle.phases.specs.declared.answer.Answer.TheVariants.{Done}
use Rattle.phases.specs.Phase.{free, read, granted, green, walked, expired, denied, red, dimmed, closed, green_span, red_span, grants, keeps}
use Rattle.door.specs.Door.{door, free_door}
use Rattle.record.specs.Doors.{door_of, Shaped}
use Rattle.phases.specs.Kinds.{allows, names_person, number_of_kind}
use Rattle.granting.specs.Grants.{GrantAt}
use Rattle.record.specs.Sound.{Sound}
use Rattle.door_does.specs.Does.{effect}
use Rattle.record.specs.declared.steps.Step.{Step}
use Rattle.record.specs.Steps.{reason_for, Admitted, doing, step_of}
use Rattle.tables.proofs.Cases.{same_or_not, one_of}
use Rattle.record.proofs.Right.{admitted, admits}
use Rattle.record.proofs.Laws.{Allowed, step_done, not_allowed, barred_stays, act_done, done_did, plan_stays, others_stay, places_stay, passed_moves, becomes, door_after, tick_done}
use Rattle.machines.specs.Sets.{Set, only, ◌∪◌}
use Rattle.machines.specs.Machines.{State, Same}
use Rattle.machines.specs.M2.{Acceptable}
use Rattle.machines.specs.M3.{Maps, dap, m_card}
use Rattle.machines.specs.M4 as m4
use Rattle.machines.specs.M4.{Sets, set_no, BLR, m_ackn, m_accept, GRN, m_pass, m_off_grn, m_refuse, RED, m_off_red}
use Rattle.machines.specs.M4.{Event, CARD, accept, refuse, pass, ACCEPT, PASS, OFF-GRN, off_grn, REFUSE, OFF-RED, off_red, ACKN}
use Rattle.chapter.specs.Reading.{constants_of, is_in, DoorIn, CardAt, state_of, StandsFor, Enabled, LitAlready, green_lit, red_lit, MayAct, Uneventful}
use Rattle.chapter.specs.Reading.{card, grant, denial, green_order, walk, expiry, passage, lapse, red_order, dimming, darkness, acknowledgement}
use Rattle.chapter.specs.Panel.{OrderedAgain}
use Rattle.chapter.proofs.Invariants.{in_BLR}
use Rattle.chapter.proofs.Turn.{At, comes, goes, each, sets_same, MapAt, takes, frees, holds, drops, maps_same, Turned, unturned, read_sets, read_dap, read_card}

-- ---- what door d says before and after

-- a door whose phase is a: what the record says of it
module _ (r : Record) (d a : ℕ) (h : d < r.doors) (at : get_or r.phase d 0 ≡ a) where
  was_sets : At (DoorIn r) d (λ X. is_in X a) (DoorIn r)
  was_sets = read_sets r r d (door_of r d) (unturned r d) h a at

  was_dap : MapAt (GrantAt r.doors r.phase r.holder) d (grants a) (get_or r.holder d 0) (GrantAt r.doors r.phase r.holder)
  was_dap = read_dap r r d (door_of r d) (unturned r d) h (grants a) (get_or r.holder d 0) (ap grants at) refl

  was_card : MapAt (λ q e. CardAt r e q) d (eqb a read) (get_or r.holder d 0) (λ q e. CardAt r e q)
  was_card = read_card r r d (door_of r d) (unturned r d) h (eqb a read) (get_or r.holder d 0) (ap (λ (x : ℕ). eqb x read) at) refl

-- the record whose door is c now reads as the state u
reads_as : (r next : Record) (d : ℕ) (c : Door) → Turned r next d c → d < r.doors → (u : State m4.names)
    → ((q : ℕ) → get_or next.place q 0 ≡ u.sit q)
    → {b : Sets → Bool} → At (DoorIn r) d b u.set → ((X : Sets) → is_in X c.phase ≡ b X)
    → {bd : Bool} {hd : ℕ} → MapAt (GrantAt r.doors r.phase r.holder) d bd hd (u.map dap) → grants c.phase ≡ bd → (grants c.phase ≡ true → c.holder ≡ hd)
    → {bc : Bool} {hc : ℕ} → MapAt (λ q e. CardAt r e q) d bc hc (λ q e. u.map m_card e q) → eqb c.phase read ≡ bc → (eqb c.phase read ≡ true → c.holder ≡ hc)
    → Same (state_of next) u
reads_as r next d c t h u sit sets sets_are da da_is da_who mc mc_is mc_who =
    record { sit = sit; set = sets_same (read_sets r next d c t h c.phase refl) sets sets_are; map = maps }
  where
    maps : (f : Maps) (x y : ℕ) → (state_of next).map f x y ↔ u.map f x y
    maps dap x y = maps_same (read_dap r next d c t h (grants c.phase) c.holder refl refl) da da_is da_who x y
    maps m_card x y = maps_same (read_card r next d c t h (eqb c.phase read) c.holder refl refl) mc mc_is mc_who y x

no_way : {A : Type 0} → false ≡ true → A
no_way e = absurd (false≢true e)

module _ (r : Record) (sh : Shaped r) (s : Sound r) (d p : ℕ) where
  -- a step that may be done is done
  pub event_done : (k : Kind) → d < r.doors → (names_person k ≡ true → p < r.people) → allows k (get_or r.phase d 0) ≡ true → (step_of r k d p).answer ≡ Done
  event_done k h person may =
      rw (step_done r k d p sh s h person may) (act_done r d (doing r k d p))

  turned : (k : Kind) → (step_of r k d p).answer ≡ Done → (c : Door) → becomes (door_of r d) (doing r k d p) ≡ c → Turned r (step_of r k d p).next d c
  turned k done c to =
      record { plan = plan_stays r k d p; there = door_after r k d p sh s done ∙ to; others = λ e ne. others_stay r k d p e ne }

  -- nobody moves but at `passed`
  still : (k : Kind) → eqb (number_of_kind k) (number_of_kind Passed) ≡ false → (q : ℕ) → get_or (step_of r k d p).next.place q 0 ≡ get_or r.place q 0
  still k other q = ap (λ l. get_or l q 0) (places_stay r k d p (λ e. eqb-false _ _ other (ap number_of_kind e)))

  -- the step is done, and the next record reads as the event's after-state
  Follows : Kind → Event → Type 0
  Follows k e = ((step_of r k d p).answer ≡ Done) × Same (state_of (step_of r k d p).next) (m4.action (constants_of r) (state_of r) e)

  -- a step from phase a, which isn't 1, to a door that has the same grant or as little a grant: only sets of doors change
  sets_only : (k : Kind) (a : ℕ) (c : Door) (v : Sets → Set) {b : Sets → Bool} → (step_of r k d p).answer ≡ Done → eqb (number_of_kind k) (number_of_kind Passed) ≡ false → d < r.doors
      → becomes (door_of r d) (doing r k d p) ≡ c → At (DoorIn r) d b v → ((X : Sets) → is_in X c.phase ≡ b X)
      → get_or r.phase d 0 ≡ a → grants c.phase ≡ grants a → (grants c.phase ≡ true → c.holder ≡ get_or r.holder d 0)
      → eqb c.phase read ≡ false → eqb a read ≡ false
      → Same (state_of (step_of r k d p).next) (record { sit = (state_of r).sit; set = v; map = (state_of r).map })
  sets_only k a c v done other h to sets sets_are at grants_as who unread was_unread =
      reads_as r _ d c (turned k done c to) h _ (still k other) sets sets_are
      (was_dap r d a h at) grants_as who
      (was_card r d a h at) (unread ∙ sym was_unread) (λ e. no_way (sym unread ∙ e))

  by_card : p < r.people → d < r.doors → (DoorIn r BLR d → ⊥) → Follows Card (CARD p d)
  unfolding Follows effect is_in allows grants and_also or_else
  by_card person h slot =
      let at : get_or r.phase d 0 ≡ free = unblocked (eqb (get_or r.phase d 0) free) refl slot in
      let done = event_done Card h (λ _. person) (eq-eqb _ _ at) in (
        done,
        reads_as r _ d (door read p 0) (turned Card done _ refl) h _ (still Card refl)
            (comes BLR (was_sets r d free h at)) (each _ refl refl refl refl refl refl refl refl refl)
            (was_dap r d free h at) refl no_way
            (holds p (was_card r d free h at)) refl (λ _. refl),
      )
    where
      unblocked : (b : Bool) → eqb (get_or r.phase d 0) free ≡ b → (DoorIn r BLR d → ⊥) → get_or r.phase d 0 ≡ free
      unblocked true e slot = eqb-true _ _ e
      unblocked false e slot = absurd (slot (record { exists = h; phase = rw e }))

  -- the door's person is admitted exactly when the chapter's three guards hold
  acceptable : (q : ℕ) → q < r.people → d < r.doors → Admitted r d q → Acceptable (constants_of r) (state_of r).sit ((state_of r).map dap) q d
  acceptable q person h a =
      record {
        situated = a.at_origin;
        authorized = (person, s.tables.in_range.destinations d h, a.has_right);
        uninvolved = λ g. a.no_grant g.0 g.1;
      }

  admitted_by : (q : ℕ) → Acceptable (constants_of r) (state_of r).sit ((state_of r).map dap) q d → Admitted r d q
  admitted_by q a = record { at_origin = a.situated; has_right = a.authorized.2; no_grant = λ e g. a.uninvolved (e, g) }

  by_grant : CardAt r d (get_or r.holder d 0) → Acceptable (constants_of r) (state_of r).sit ((state_of r).map dap) (get_or r.holder d 0) d
      → Follows Decide (accept (get_or r.holder d 0) d)
  unfolding Follows effect is_in allows grants and_also or_else
  by_grant g a =
      let at = g.phase in
      let done = event_done Decide g.exists no_way (eq-eqb _ _ at) in
      let none = admits r d (get_or r.holder d 0) (admitted_by _ a) in (
        done,
        reads_as r _ d (door granted (get_or r.holder d 0) 0) (turned Decide done _ (rw none)) g.exists _ (still Decide refl)
            (comes m_accept (was_sets r d read g.exists at)) (each _ refl refl refl refl refl refl refl refl refl)
            (takes (get_or r.holder d 0) (was_dap r d read g.exists at) (λ e x. a.uninvolved (e, x))) refl (λ _. refl)
            (drops (was_card r d read g.exists at)) refl no_way,
      )

  by_denial : CardAt r d (get_or r.holder d 0) → (Acceptable (constants_of r) (state_of r).sit ((state_of r).map dap) (get_or r.holder d 0) d → ⊥)
      → Follows Decide (refuse (get_or r.holder d 0) d)
  unfolding Follows effect is_in allows grants keeps and_also or_else
  by_denial g a =
      let at = g.phase in
      let done = event_done Decide g.exists no_way (eq-eqb _ _ at) in
      let person = (s.doors d g.exists).held (rw at) in
      let some : eqb (reason_for r d (get_or r.holder d 0)) 0 ≡ false =
      ne_eqb _ _ (λ e. a (acceptable _ person g.exists (admitted r d (get_or r.holder d 0) e))) in (
        done,
        reads_as r _ d (door denied 0 0) (turned Decide done _ (rw some)) g.exists _ (still Decide refl)
            (comes m_refuse (was_sets r d read g.exists at)) (each _ refl refl refl refl refl refl refl refl refl)
            (was_dap r d read g.exists at) refl no_way
            (drops (was_card r d read g.exists at)) refl no_way,
      )

  by_green : DoorIn r m_accept d → (DoorIn r GRN d → ⊥) → Follows Green (ACCEPT d)
  unfolding Follows effect is_in allows grants and_also or_else
  by_green g dark =
      let h = g.exists in
      let done = event_done Green h no_way (eq-eqb _ _ at) in (
        done,
        sets_only Green granted (door green (get_or r.holder d 0) green_span) _ done refl h refl
            (comes GRN (was_sets r d granted h at)) (each _ refl refl refl refl refl refl refl refl refl) at refl (λ _. refl) refl refl,
      )
    where
      at : get_or r.phase d 0 ≡ granted
      at = ⊎_elim (λ is. is) (λ is. absurd (dark (record { exists = g.exists; phase = eq-eqb _ _ is }))) (one_of (get_or r.phase d 0) granted green g.phase)

  by_red : DoorIn r m_refuse d → (DoorIn r RED d → ⊥) → Follows Red (REFUSE d)
  unfolding Follows effect is_in allows grants and_also or_else
  by_red g dark =
      let h = g.exists in
      let done = event_done Red h no_way (eq-eqb _ _ at) in (
        done,
        sets_only Red denied (door red (get_or r.holder d 0) red_span) _ done refl h refl
            (comes RED (was_sets r d denied h at)) (each _ refl refl refl refl refl refl refl refl refl) at refl (λ _. refl) refl refl,
      )
    where
      at : get_or r.phase d 0 ≡ denied
      at = ⊎_elim (λ is. is) (λ is. absurd (dark (record { exists = g.exists; phase = eq-eqb _ _ is }))) (one_of (get_or r.phase d 0) denied red g.phase)

  by_walk : DoorIn r GRN d → Follows Walk (PASS d)
  unfolding Follows effect is_in allows grants and_also or_else
  by_walk g =
      let h = g.exists in
      let at = eqb-true (get_or r.phase d 0) green g.phase in
      let done = event_done Walk h no_way g.phase in (
        done,
        sets_only Walk green (door walked (get_or r.holder d 0) 0) _ done refl h refl
            (goes m_accept (comes m_pass (goes GRN (was_sets r d green h at)))) (each _ refl refl refl refl refl refl refl refl refl) at refl (λ _. refl) refl refl,
      )

  by_dark : DoorIn r m_off_red d → Follows Dark (off_red d)
  unfolding Follows effect is_in allows grants and_also or_else
  by_dark g =
      let h = g.exists in
      let at = eqb-true (get_or r.phase d 0) dimmed g.phase in
      let done = event_done Dark h no_way g.phase in (
        done,
        sets_only Dark dimmed (door closed (get_or r.holder d 0) 0) _ done refl h refl
            (goes m_off_red (comes m_ackn (was_sets r d dimmed h at))) (each _ refl refl refl refl refl refl refl refl refl) at refl no_way refl refl,
      )

  by_ack : DoorIn r m_ackn d → Follows Ack (ACKN d)
  unfolding Follows effect is_in allows grants and_also or_else
  by_ack g =
      let h = g.exists in
      let at = eqb-true (get_or r.phase d 0) closed g.phase in
      let done = event_done Ack h no_way g.phase in (
        done,
        sets_only Ack closed free_door _ done refl h refl
            (goes m_ackn (goes BLR (was_sets r d closed h at))) (each _ refl refl refl refl refl refl refl refl refl) at refl no_way refl refl,
      )

  by_lapse : DoorIn r m_off_grn d → Follows Lapsed (off_grn d)
  unfolding Follows effect is_in allows grants and_also or_else
  by_lapse g =
      let h = g.exists in
      let at = eqb-true (get_or r.phase d 0) expired g.phase in
      let done = event_done Lapsed h no_way g.phase in (
        done,
        reads_as r _ d (door closed 0 0) (turned Lapsed done _ refl) h _ (still Lapsed refl)
            (goes m_off_grn (comes m_ackn (was_sets r d expired h at))) (each _ refl refl refl refl refl refl refl refl refl)
            (frees (was_dap r d expired h at)) refl no_way
            (was_card r d expired h at) refl no_way,
      )

  by_passage : DoorIn r m_pass d → Follows Passed (pass (get_or r.holder d 0) d)
  unfolding Follows effect is_in allows grants and_also or_else
  by_passage g =
      let h = g.exists in
      let at = eqb-true (get_or r.phase d 0) walked g.phase in
      let done = event_done Passed h no_way g.phase in (
        done,
        reads_as r _ d (door closed 0 0) (turned Passed done _ refl) h _ (moved done)
            (goes m_pass (comes m_ackn (was_sets r d walked h at))) (each _ refl refl refl refl refl refl refl refl refl)
            (frees (was_dap r d walked h at)) refl no_way
            (was_card r d walked h at) refl no_way,
      )
    where
      moved : (step_of r Passed d p).answer ≡ Done → (q : ℕ)
          → get_or (step_of r Passed d p).next.place q 0 ≡ cond (eqb q (get_or r.holder d 0)) (get_or r.destination d 0) (get_or r.place q 0)
      moved done q =
          let m = passed_moves r d p sh s done in
          ⊎_elim (λ (is : q ≡ get_or r.holder d 0). rw (is, eq-eqb (get_or r.holder d 0) _ refl) m.mover) (λ is_not. rw (ne_eqb q (get_or r.holder d 0) is_not) (m.others q is_not)) (same_or_not q (get_or r.holder d 0))

  -- a tick that takes the last off puts the light out
  by_expiry : get_or r.phase d 0 ≡ green → get_or r.count d 0 ≤ 1 → DoorIn r GRN d → Follows Tick (OFF-GRN d)
  unfolding Follows effect is_in allows grants and_also or_else
  by_expiry at last g =
      let h = g.exists in
      let done = event_done Tick h no_way refl in (
        done,
        sets_only Tick green (door expired (get_or r.holder d 0) 0) _ done refl h (simp (at, le-ltb 1 _ last))
            (goes m_accept (comes m_off_grn (goes GRN (was_sets r d green h at)))) (each _ refl refl refl refl refl refl refl refl refl) at refl (λ _. refl) refl refl,
      )

  by_dimming : get_or r.phase d 0 ≡ red → get_or r.count d 0 ≤ 1 → DoorIn r RED d → Follows Tick (OFF-RED d)
  unfolding Follows effect is_in allows grants and_also or_else
  by_dimming at last g =
      let h = g.exists in
      let done = event_done Tick h no_way refl in (
        done,
        sets_only Tick red (door dimmed (get_or r.holder d 0) 0) _ done refl h (simp (at, le-ltb 1 _ last))
            (goes m_refuse (comes m_off_red (goes RED (was_sets r d red h at)))) (each _ refl refl refl refl refl refl refl refl refl) at refl no_way refl refl,
      )

  -- any other tick alters at most a countdown, which is nothing of the reading
  tick_on : (ph h n why : ℕ) → (ph ≡ green → 1 < n) → (ph ≡ red → 1 < n) → (m : ℕ) × (becomes (door ph h n) (effect Tick p why (door ph h n)) ≡ door ph h m)
  unfolding effect
  tick_on ph h n why on_green on_red = go (eqb ph green) refl (eqb ph red) refl
    where
      go : (a : Bool) → eqb ph green ≡ a → (b : Bool) → eqb ph red ≡ b → (m : ℕ) × (becomes (door ph h n) (effect Tick p why (door ph h n)) ≡ door ph h m)
      go true e b f = (n - 1, simp (e, lt-ltb 1 n (on_green (eqb-true ph green e))))
      go false e true f = (n - 1, simp (e, f, lt-ltb 1 n (on_red (eqb-true ph red f))))
      go false e false f = (n, simp (e, f))

  pub by_tick : d < r.doors → (get_or r.phase d 0 ≡ green → 1 < get_or r.count d 0) → (get_or r.phase d 0 ≡ red → 1 < get_or r.count d 0)
      → Same (state_of (step_of r Tick d p).next) (state_of r)
  unfolding allows
  by_tick h on_green on_red =
      let ph = get_or r.phase d 0 in
      let done = event_done Tick h no_way refl in
      let to = tick_on ph (get_or r.holder d 0) (get_or r.count d 0) (reason_for r d (get_or r.holder d 0)) on_green on_red in
      reads_as r _ d (door ph (get_or r.holder d 0) to.0) (turned Tick done _ to.1) h _ (still Tick refl)
      (was_sets r d ph h refl) (λ X. refl) (was_dap r d ph h refl) refl (λ _. refl) (was_card r d ph h refl) refl (λ _. refl)

  -- where a step may act it is done, and the next record reads as its event's after-state
  pub follows : (k : Kind) (e : Event) → StandsFor r d p k e → m4.Guard (constants_of r) (state_of r) e → (LitAlready (state_of r) d k → ⊥)
      → ((step_of r k d p).answer ≡ Done) × Same (state_of (step_of r k d p).next) (m4.action (constants_of r) (state_of r) e)
  unfolding Follows
  follows k e card g dark = by_card g.0 g.1 g.2
  follows k e grant g dark = by_grant g.0 g.1
  follows k e denial g dark = by_denial g.0 g.1
  follows k e green_order g dark = by_green g (λ on. dark (green_lit on))
  follows k e walk g dark = by_walk g
  follows k e (expiry at last) g dark = by_expiry at last g
  follows k e passage g dark = by_passage g.0
  follows k e lapse g dark = by_lapse g
  follows k e red_order g dark = by_red g (λ on. dark (red_lit on))
  follows k e (dimming at last) g dark = by_dimming at last g
  follows k e darkness g dark = by_dark g
  follows k e acknowledgement g dark = by_ack g

  -- an order for a light that is burning already is refused, though its event is enabled; the event would alter nothing
  module _ (k : Kind) (h : d < r.doors) (nobody : names_person k ≡ false) (barred : allows k (get_or r.phase d 0) ≡ false) where
    again : (e : Enabled r k d p) → Same (m4.action (constants_of r) (state_of r) e.event) (state_of r) → OrderedAgain r k d p
    again e same =
        record {
          enabled = e;
          no_change = same;
          refused = ap (λ (x : Step). x.answer) (not_allowed r k d p sh s h nobody barred);
          skips = barred_stays r k d p barred;
        }

  lit_same : (X : Sets) (a : ℕ) → d < r.doors → get_or r.phase d 0 ≡ a → ((Y : Sets) → cond (eqb (set_no X) (set_no Y)) true (is_in Y a) ≡ is_in Y a)
      → Same (record { sit = (state_of r).sit; set = λ Y. cond (eqb (set_no X) (set_no Y)) (DoorIn r Y ∪ only d) (DoorIn r Y); map = (state_of r).map }) (state_of r)
  lit_same X a h at as_it_was =
      record { sit = λ _. refl; set = sets_same (comes X (was_sets r d a h at)) (was_sets r d a h at) as_it_was; map = λ f x y. (λ z. z, λ z. z) }

  pub ordered_again : (k : Kind) → LitAlready (state_of r) d k → OrderedAgain r k d p
  unfolding allows is_in or_else
  ordered_again k (green_lit g) =
      let at = eqb-true (get_or r.phase d 0) green g.phase in
      again Green g.exists refl (rw at) (record { event = ACCEPT d; stands = green_order; guard = record { exists = g.exists; phase = rw at } })
      (lit_same GRN green g.exists at (each _ refl refl refl refl refl refl refl refl refl))
  ordered_again k (red_lit g) =
      let at = eqb-true (get_or r.phase d 0) red g.phase in
      again Red g.exists refl (rw at) (record { event = REFUSE d; stands = red_order; guard = record { exists = g.exists; phase = rw at } })
      (lit_same RED red g.exists at (each _ refl refl refl refl refl refl refl refl refl))

  -- no step that the door's phase allows orders a light that is burning already
  allowed_unlit : (k : Kind) → allows k (get_or r.phase d 0) ≡ true → LitAlready (state_of r) d k → ⊥
  unfolding allows is_in
  allowed_unlit k ok (green_lit g) = let a = eqb-true (get_or r.phase d 0) granted ok in let b = eqb-true (get_or r.phase d 0) green g.phase in omega arith
  allowed_unlit k ok (red_lit g) = let a = eqb-true (get_or r.phase d 0) denied ok in let b = eqb-true (get_or r.phase d 0) red g.phase in omega arith

  -- a step that is done may act, or is a tick that is no event
  pub enabled : (k : Kind) → (step_of r k d p).answer ≡ Done → MayAct r k d p ⊎ Uneventful r k d
  unfolding allows is_in keeps grants and_also or_else
  enabled k done =
      let w = (done_did r k d p done).0 in
      ⊎_elim (λ e. inl (record { enabled = e; unlit = allowed_unlit k w.allowed })) inr (go k w)
    where
      decide : d < r.doors → get_or r.phase d 0 ≡ read → (b : Bool) → eqb (reason_for r d (get_or r.holder d 0)) 0 ≡ b → Enabled r Decide d p
      decide h at true e =
          record {
            event = accept (get_or r.holder d 0) d;
            stands = grant;
            guard = (
              record { exists = h; phase = at; person = refl },
              acceptable _ ((s.doors d h).held (rw at)) h (admitted r d (get_or r.holder d 0) (eqb-true _ _ e)),
            );
          }
      decide h at false e =
          record {
            event = refuse (get_or r.holder d 0) d;
            stands = denial;
            guard = (record { exists = h; phase = at; person = refl }, λ a. eqb-false _ _ e (admits r d (get_or r.holder d 0) (admitted_by _ a)));
          }

      tick : d < r.doors → (a : Bool) → eqb (get_or r.phase d 0) green ≡ a → (b : Bool) → eqb (get_or r.phase d 0) red ≡ b → (c : Bool) → ltb 1 (get_or r.count d 0) ≡ c
          → Enabled r Tick d p ⊎ Uneventful r Tick d
      tick h a e b f true g = inr (record { tick = refl; exists = h; green_on = λ _. ltb-true _ _ g; red_on = λ _. ltb-true _ _ g })
      tick h true e b f false g =
          inl (record { event = OFF-GRN d; stands = expiry (eqb-true _ _ e) (ltb-false _ _ g); guard = record { exists = h; phase = e } })
      tick h false e true f false g =
          inl (record { event = OFF-RED d; stands = dimming (eqb-true _ _ f) (ltb-false _ _ g); guard = record { exists = h; phase = f } })
      tick h false e false f false g =
          inr (record { tick = refl; exists = h; green_on = λ is. absurd (eqb-false _ _ e is); red_on = λ is. absurd (eqb-false _ _ f is) })

      go : (k : Kind) → Allowed r k d p → Enabled r k d p ⊎ Uneventful r k d
      go Card w =
          inl (record { event = CARD p d; stands = card; guard = (w.a_person refl, w.a_door, λ b. in_BLR r d b (eqb-true (get_or r.phase d 0) free w.allowed)) })
      go Decide w = inl (decide w.a_door (eqb-true _ _ w.allowed) (eqb (reason_for r d (get_or r.holder d 0)) 0) refl)
      go Green w = inl (record { event = ACCEPT d; stands = green_order; guard = record { exists = w.a_door; phase = rw (eqb-true (get_or r.phase d 0) granted w.allowed) } })
      go Red w = inl (record { event = REFUSE d; stands = red_order; guard = record { exists = w.a_door; phase = rw (eqb-true (get_or r.phase d 0) denied w.allowed) } })
      go Walk w = inl (record { event = PASS d; stands = walk; guard = record { exists = w.a_door; phase = w.allowed } })
      go Tick w = tick w.a_door (eqb (get_or r.phase d 0) green) refl (eqb (get_or r.phase d 0) red) refl (ltb 1 (get_or r.count d 0)) refl
      go Passed w =
          inl
          (record {
            event = pass (get_or r.holder d 0) d;
            stands = passage;
            guard = (
              record { exists = w.a_door; phase = w.allowed },
              record { exists = w.a_door; holds = rw (eqb-true (get_or r.phase d 0) walked w.allowed); person = refl },
            );
          })
      go Lapsed w = inl (record { event = off_grn d; stands = lapse; guard = record { exists = w.a_door; phase = w.allowed } })
      go Dark w = inl (record { event = off_red d; stands = darkness; guard = record { exists = w.a_door; phase = w.allowed } })
      go Ack w = inl (record { event = ACKN d; stands = acknowledgement; guard = record { exists = w.a_door; phase = w.allowed } })
      go Unknown w = no_way w.allowed

-- an uneventful tick is done
pub uneventful_done : (r : Record) → Shaped r → Sound r → (d p : ℕ) (k : Kind) → Uneventful r k d → (step_of r k d p).answer ≡ Done
uneventful_done r sh s d p k i = subst (λ (x : Kind). (step_of r x d p).answer ≡ Done) (sym i.tick) (tick_done r d p sh s i.exists)
