-- What each step makes of a sound record is sound: what it puts at its door is right for that door. Assumes nothing.
use Prim.Native.Nat.{ℕ, ◌≤◌, ◌<◌, ◌-◌}
use mathlib.Core.Path.{◌≡◌, refl, sym, subst, ◌∙◌}
use mathlib.Core.Bool.{true, false, true≢false, false≢true}
use mathlib.Core.Logic.{⊎_elim}
use native.Mathlib.Omega.{arith}
use borrow.Author.Tests.{eqb-true, eqb-false, ltb-true, eq-eqb, ne_eqb, le-leb, leb-true}
use lib.ListN.{get_or}
use lib.Dec.{eqb, ltb, lit≤}
use Rattle.tables.specs.Tables.{may_be, or_else, and_also}
use Rattle.tables.proofs.Laws.{and_left, and_right, and_both, clash}
use Rattle.door.specs.declared.Door.{Door}
use Rattle.record.specs.declared.record.Record.{Record}
use Rattle.phases.specs.declared.table.Kind.{Kind}
use Rattle.phases.specs.declared.table.Kind.TheVariants.{Card, Decide, Green, Red, Walk, Tick, Passed, Lapsed, Dark, Ack, Unknown}
use Rattle.phases.specs.Phase.{free, read, granted, green, walked, expired, denied, red, dimmed, closed, green_span, red_span, keeps, grants, lit, least_count, most_count}
use Rattle.door.specs.Door.{door}
use Rattle.record.specs.Doors.{door_of, put_door, Shaped}
use Rattle.record.specs.Sound.{DoorOk, Sound}
use Rattle.phases.specs.Kinds.{allows, names_person}
use Rattle.phases.specs.Answers.{reason_none, reason_away, reason_barred, reason_busy}
use Rattle.granting.specs.Grants.{GrantAt, has_grant}
use Rattle.door_does.specs.declared.Does.{Does}
use Rattle.door_does.specs.declared.Does.TheVariants.{Stays, Turns, Moves}
use Rattle.door_does.specs.Does.{burns, effect}
use Rattle.granting.specs.Reasons.{first_reason, held_with}
use Rattle.record.specs.Steps.{reason_for, Admitted, First, none, away, barred, busy, held_for, HeldDoor, the_grant, no_door, act}
use Rattle.tables.proofs.Cases.{either, same_or_not}
use Rattle.granting.proofs.Granting.{no_grant, has_grant_lem, none_found, one_found, grant_is}
use Rattle.record.proofs.Keep.{put_same, put_grant, put_sound, put_shaped, at_sound, at_shaped}

-- ---- a denial's reason

-- the reason is the first that applies, and none where the person is admitted
pub reason_first : (r : Record) (d p : ℕ) → First r d p (reason_for r d p)
unfolding first_reason
reason_first r d p =
    either (First r d p) (eqb (get_or r.place p 0) (get_or r.origin d 0))
    (λ at.
    either (First r d p) (may_be r.right p (get_or r.destination d 0))
    (λ may.
    either (First r d p) (has_grant r.doors r.phase r.holder p)
    (λ has. let g = has_grant_lem r.doors r.phase r.holder p has in busy (eqb-true _ _ at) may g.0 g.1)
    (λ lacks. none (record { at_origin = eqb-true _ _ at; has_right = may; no_grant = no_grant r.doors r.phase r.holder p lacks })))
    (λ no_right. barred (eqb-true _ _ at) no_right))
    (λ not_there. away (eqb-false _ _ not_there))

-- and it is no other
pub reason_only : (r : Record) (d p n : ℕ) → First r d p n → reason_for r d p ≡ n
unfolding first_reason
reason_only r d p n (none a) = simp (eq-eqb _ _ a.at_origin, a.has_right, none_found r.doors r.phase r.holder p a.no_grant)
reason_only r d p n (away a) = simp (ne_eqb _ _ a)
reason_only r d p n (barred a b) = simp (eq-eqb _ _ a, b)
reason_only r d p n (busy a b e g) = simp (eq-eqb _ _ a, b, one_found r.doors r.phase r.holder p e g)

-- no reason is given exactly when the person is admitted
pub admitted : (r : Record) (d p : ℕ) → reason_for r d p ≡ 0 → Admitted r d p
admitted r d p e = go (reason_for r d p) e (reason_first r d p)
  where
    go : (n : ℕ) → n ≡ 0 → First r d p n → Admitted r d p
    go n z (none a) = a
    go n z (away a) = absurd (omega arith)
    go n z (barred a b) = absurd (omega arith)
    go n z (busy a b e g) = absurd (omega arith)

pub admits : (r : Record) (d p : ℕ) → Admitted r d p → reason_for r d p ≡ 0
admits r d p a = reason_only r d p 0 (none a)

-- in a sound record "no person has two" grants
pub one_grant : (r : Record) → Sound r → (p d e : ℕ) → GrantAt r.doors r.phase r.holder p d → GrantAt r.doors r.phase r.holder p e → e ≡ d
one_grant r s p d e g h =
    ⊎_elim (λ same. same)
    (λ ne. absurd ((s.doors d g.exists).alone g.holds e ne (record { exists = h.exists; holds = h.holds; person = h.person ∙ sym g.person })))
    (same_or_not e d)

-- the door that is told with the first reason is that of the person's grant, and 0 with any other reason
pub held_first : (r : Record) → Sound r → (d p n : ℕ) → First r d p n → HeldDoor r p n (held_for r p n)
unfolding held_with
held_first r s d p n (none a) = no_door (λ (z : reason_none ≡ reason_busy). omega arith)
held_first r s d p n (away a) = no_door (λ (z : reason_away ≡ reason_busy). omega arith)
held_first r s d p n (barred a b) = no_door (λ (z : reason_barred ≡ reason_busy). omega arith)
held_first r s d p n (busy a b e g) =
    rw (grant_is r.doors r.phase r.holder p e g (λ f h ne. ne (one_grant r s p e f g h))) (the_grant g (λ f. one_grant r s p e f g))

-- ---- doors that are right

-- a door that keeps nobody, with a countdown within the bounds of its phase
vacant : (r : Record) (d ph h n : ℕ) → ph ≤ closed → keeps ph ≡ false → grants ph ≡ false → h ≡ 0 → least_count ph ≤ n → n ≤ most_count ph
    → DoorOk r d (door ph h n)
vacant r d ph h n known k g z low high =
    record {
      known = known;
      held = λ e. clash e k;
      nobody = λ _. z;
      least = low;
      most = high;
      alone = λ e. clash e g;
      starts = λ e. clash e g;
      may = λ e. clash e g;
    }

-- person h exists and is admitted at door d but for a grant that this very door holds
record Granted (r : Record) (d h : ℕ) : Type 0 where
  exists : h < r.people
  alone : (e : ℕ) → (e ≡ d → ⊥) → GrantAt r.doors r.phase r.holder h e → ⊥
  starts : get_or r.place h 0 ≡ get_or r.origin d 0
  may : may_be r.right h (get_or r.destination d 0) ≡ true

-- a door that holds a grant of such a person, with a countdown within the bounds of its phase
holding : (r : Record) (d ph h n : ℕ) → ph ≤ closed → keeps ph ≡ true → least_count ph ≤ n → n ≤ most_count ph → Granted r d h → DoorOk r d (door ph h n)
holding r d ph h n known k low high g =
    record {
      known = known;
      held = λ _. g.exists;
      nobody = λ e. clash k e;
      least = low;
      most = high;
      alone = λ _. g.alone;
      starts = λ _. g.starts;
      may = λ _. g.may;
    }

-- the phases that hold a grant keep a person
pub grants_keeps : (ph : ℕ) → grants ph ≡ true → keeps ph ≡ true
unfolding grants keeps
grants_keeps ph g = and_both _ _ (le-leb 1 ph (omega (arith, leb-true 2 ph (and_left _ _ g)))) (and_right _ _ g)

grant_of_lem : (r : Record) (d : ℕ) (c : Door) → DoorOk r d c → grants c.phase ≡ true → Granted r d c.holder
grant_of_lem r d c ok g =
    record { exists = ok.held (grants_keeps c.phase g); alone = ok.alone g; starts = ok.starts g; may = ok.may g }

-- ---- what a step does is right

abbrev Right : Record → ℕ → Does → Type 0
Right r d Stays = Unit {0}
Right r d (Turns c why) = DoorOk r d c
Right r d (Moves c) = DoorOk r d c × (grants c.phase ≡ false) × (grants (get_or r.phase d 0) ≡ true)

module _ (r : Record) (d : ℕ) (ok : DoorOk r d (door_of r d)) where
  right_card : (p why : ℕ) → p < r.people → Right r d (effect Card p why (door_of r d))
  unfolding effect keeps grants least_count most_count lit and_also or_else
  right_card p why e =
      record {
        known = lit≤ tt;
        held = λ _. e;
        nobody = λ z. absurd (true≢false z);
        least = lit≤ tt;
        most = lit≤ tt;
        alone = λ z. absurd (false≢true z);
        starts = λ z. absurd (false≢true z);
        may = λ z. absurd (false≢true z);
      }

  right_decide : (p why : ℕ) → get_or r.phase d 0 ≡ read → (why ≡ 0 → Admitted r d (get_or r.holder d 0)) → Right r d (effect Decide p why (door_of r d))
  unfolding effect keeps grants least_count most_count lit and_also or_else
  right_decide p why e reason =
      either (λ x. Right r d x) (eqb why 0)
      (λ z.
      let a = reason (eqb-true why 0 z) in
      holding r d granted (get_or r.holder d 0) 0 (lit≤ tt) refl (lit≤ tt) (lit≤ tt)
      (record { exists = ok.held (rw e); alone = λ f _. a.no_grant f; starts = a.at_origin; may = a.has_right }))
      (λ _. vacant r d denied 0 0 (lit≤ tt) refl refl refl (lit≤ tt) (lit≤ tt))

  -- the steps that only hand a grant on from a phase that holds one to another
  right_on : (ph' n : ℕ) → ph' ≤ closed → keeps ph' ≡ true → least_count ph' ≤ n → n ≤ most_count ph' → grants (get_or r.phase d 0) ≡ true → DoorOk r d (door ph' (get_or r.holder d 0) n)
  right_on ph' n known k low high g = holding r d ph' (get_or r.holder d 0) n known k low high (grant_of_lem r d (door_of r d) ok g)

  -- and those that go from a phase that keeps nobody to another
  right_off : (ph' n : ℕ) → ph' ≤ closed → keeps ph' ≡ false → grants ph' ≡ false → least_count ph' ≤ n → n ≤ most_count ph' → keeps (get_or r.phase d 0) ≡ false → DoorOk r d (door ph' (get_or r.holder d 0) n)
  right_off ph' n known k g low high z = vacant r d ph' (get_or r.holder d 0) n known k g (ok.nobody z) low high

  -- a light's countdown falls
  falls : lit (get_or r.phase d 0) ≡ true → 1 < get_or r.count d 0 → DoorOk r d (door (get_or r.phase d 0) (get_or r.holder d 0) (get_or r.count d 0 - 1))
  unfolding least_count
  falls burns more =
      record {
        known = ok.known;
        held = ok.held;
        nobody = ok.nobody;
        least = rw burns (omega arith);
        most = let high = ok.most in omega arith;
        alone = ok.alone;
        starts = ok.starts;
        may = ok.may;
      }

  -- a light burns down, to a phase that is right once its countdown is 0
  right_burns : (out : ℕ) → lit (get_or r.phase d 0) ≡ true → DoorOk r d (door out (get_or r.holder d 0) 0) → Right r d (burns (door_of r d) out)
  right_burns out lights after =
      either (Right r d) (ltb 1 (get_or r.count d 0)) (λ more. falls lights (ltb-true 1 (get_or r.count d 0) more)) (λ _. after)

  right_tick : (p why : ℕ) → Right r d (effect Tick p why (door_of r d))
  unfolding effect keeps grants least_count most_count lit and_also or_else
  right_tick p why =
      either (Right r d) (eqb (get_or r.phase d 0) green)
      (λ e.
      let is : get_or r.phase d 0 ≡ green = eqb-true (get_or r.phase d 0) green e in
      right_burns expired (rw is) (right_on expired 0 (lit≤ tt) refl (lit≤ tt) (lit≤ tt) (rw is)))
      (λ _.
      either (Right r d) (eqb (get_or r.phase d 0) red)
      (λ e.
      let is : get_or r.phase d 0 ≡ red = eqb-true (get_or r.phase d 0) red e in
      right_burns dimmed (rw is) (right_off dimmed 0 (lit≤ tt) refl refl (lit≤ tt) (lit≤ tt) (rw is)))
      (λ _. tt))

  -- the ten steps, each where its door's phase allows it
  pub right : (k : Kind) (p why : ℕ) → allows k (get_or r.phase d 0) ≡ true → (names_person k ≡ true → p < r.people)
      → (k ≡ Decide → why ≡ 0 → Admitted r d (get_or r.holder d 0)) → Right r d (effect k p why (door_of r d))
  unfolding allows effect keeps grants least_count most_count lit and_also or_else
  right Card p why e exists reason = right_card p why (exists refl)
  right Decide p why e exists reason = right_decide p why (eqb-true _ _ e) (reason refl)
  right Green p why e exists reason = right_on green green_span (lit≤ tt) refl (lit≤ tt) (lit≤ tt) (rw (eqb-true (get_or r.phase d 0) granted e))
  right Red p why e exists reason = right_off red red_span (lit≤ tt) refl refl (lit≤ tt) (lit≤ tt) (rw (eqb-true (get_or r.phase d 0) denied e))
  right Walk p why e exists reason = right_on walked 0 (lit≤ tt) refl (lit≤ tt) (lit≤ tt) (rw (eqb-true (get_or r.phase d 0) green e))
  right Tick p why e exists reason = right_tick p why
  right Passed p why e exists reason =
      (vacant r d closed 0 0 (lit≤ tt) refl refl refl (lit≤ tt) (lit≤ tt), refl, rw (eqb-true (get_or r.phase d 0) walked e))
  right Lapsed p why e exists reason = vacant r d closed 0 0 (lit≤ tt) refl refl refl (lit≤ tt) (lit≤ tt)
  right Dark p why e exists reason = right_off closed 0 (lit≤ tt) refl refl (lit≤ tt) (lit≤ tt) (rw (eqb-true (get_or r.phase d 0) dimmed e))
  right Ack p why e exists reason = vacant r d free 0 0 (lit≤ tt) refl refl refl (lit≤ tt) (lit≤ tt)
  right Unknown p why e exists reason = tt

-- doing what is right keeps a sound record sound
pub act_sound : (r : Record) → Shaped r → Sound r → (d : ℕ) → d < r.doors → (x : Does) → Right r d x → Sound (act r d x).next
unfolding act
act_sound r sh s d hd Stays ok = s
act_sound r sh s d hd (Turns c why) ok = put_sound r sh s d c hd ok
act_sound r sh s d hd (Moves c) ok =
    let was = grant_of_lem r d (door_of r d) (s.doors d hd) ok.2 in
    at_sound (put_door r d c) (put_shaped r sh d c) (put_sound r sh s d c hd ok.0) (get_or r.holder d 0) (get_or r.destination d 0) was.exists was.may
    (λ e g.
    ⊎_elim
    (λ is.
    clash (subst (λ (x : Door). grants x.phase ≡ true) (put_same r sh d c (let most = s.tables.in_range.doors_to in omega arith)) (rw is at g.holds)) ok.1)
    (λ is_not. was.alone e is_not (put_grant r d c (get_or r.holder d 0) e is_not g))
    (same_or_not e d))

pub act_shaped : (r : Record) → Shaped r → (d : ℕ) (x : Does) → Shaped (act r d x).next
unfolding act
act_shaped r sh d Stays = sh
act_shaped r sh d (Turns c why) = put_shaped r sh d c
act_shaped r sh d (Moves c) = at_shaped (put_door r d c) (put_shaped r sh d c) (get_or r.holder d 0) (get_or r.destination d 0)
