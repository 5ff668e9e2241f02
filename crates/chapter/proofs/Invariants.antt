-- Every invariant of the chapter holds of every sound record's reading. Assumes nothing.
use Prim.Native.Nat.{ℕ, suc, ◌≤◌, ◌<◌}
use mathlib.Core.Path.{◌≡◌, refl, sym, subst, ◌∙◌}
use mathlib.Core.Bool.{true}
use mathlib.Core.Logic.Iff
use mathlib.Core.Logic.{◌⊎◌, inl, inr, ⊎_elim}
use native.Mathlib.Nat.{eq-or-lt_of_le, pos_of_ne-zero}
use native.Mathlib.Omega.{arith}
use borrow.Author.Tests.{eqb-true, eqb-false, ne_eqb, leb-true, le-leb, not-true}
use lib.ListN.{get_or}
use lib.Dec.{eqb, lit≤}
use Rattle.tables.specs.Tables.{may_be, or_else, and_also}
use Rattle.tables.proofs.Laws.{and_left, and_right, and_both}
use Rattle.record.specs.declared.record.Record.{Record}
use Rattle.phases.specs.Phase.{free, read, granted, green, walked, expired, denied, red, dimmed, closed, keeps, grants}
use Rattle.granting.specs.Grants.{GrantAt}
use Rattle.record.specs.Sound.{Sound}
use Rattle.tables.proofs.Cases.{same_or_not, below_or_not, one_of}
use Rattle.record.proofs.Right.{grants_keeps}
use Rattle.machines.specs.Sets.{dom, ◌∪◌}
use Rattle.chapter.specs.Reading.{constants_of, is_in, DoorIn, CardAt, state_of, state_of3, state_of2, state_of1}
use Rattle.machines.specs.M0 as m0
use Rattle.machines.specs.M2 as m2
use Rattle.machines.specs.M3 as m3
use Rattle.machines.specs.M4.{BLR, m_ackn, m_accept, GRN, m_pass, m_off_grn, m_refuse, RED, m_off_red}
use Rattle.machines.specs.M4 as m4
use Rattle.chapter.proofs.Site.{may_exists}

-- ---- the phases of each set

-- door d exists and its phase is from a to b
pub record PhaseWithin (r : Record) (d a b : ℕ) : Type 0 where
  pub exists : d < r.doors
  pub low : a ≤ get_or r.phase d 0
  pub high : get_or r.phase d 0 ≤ b

-- the first phase of a span, or the others
first : {r : Record} {d a b : ℕ} → PhaseWithin r d a b → (get_or r.phase d 0 ≡ a) ⊎ PhaseWithin r d (suc a) b
first s = ⊎_elim (λ e. inl (sym e)) (λ h. inr (record { exists = s.exists; low = h; high = s.high })) (eq-or-lt_of_le s.low)

-- one of two phases, both from lo to hi
one_within : (r : Record) (d lo hi a b : ℕ) → d < r.doors → or_else (eqb (get_or r.phase d 0) a) (eqb (get_or r.phase d 0) b) ≡ true
    → lo ≤ a → a ≤ hi → lo ≤ b → b ≤ hi → PhaseWithin r d lo hi
one_within r d lo hi a b h test la ha lb hb =
    ⊎_elim (λ (e : get_or r.phase d 0 ≡ a). record { exists = h; low = omega arith; high = omega arith })
    (λ (e : get_or r.phase d 0 ≡ b). record { exists = h; low = omega arith; high = omega arith }) (one_of (get_or r.phase d 0) a b test)

module _ (r : Record) (d : ℕ) where
  in_GRN : DoorIn r GRN d → get_or r.phase d 0 ≡ green
  unfolding is_in
  in_GRN i = eqb-true _ _ i.phase

  in_m_pass : DoorIn r m_pass d → get_or r.phase d 0 ≡ walked
  unfolding is_in
  in_m_pass i = eqb-true _ _ i.phase

  in_m_off_grn : DoorIn r m_off_grn d → get_or r.phase d 0 ≡ expired
  unfolding is_in
  in_m_off_grn i = eqb-true _ _ i.phase

  in_RED : DoorIn r RED d → get_or r.phase d 0 ≡ red
  unfolding is_in
  in_RED i = eqb-true _ _ i.phase

  in_m_off_red : DoorIn r m_off_red d → get_or r.phase d 0 ≡ dimmed
  unfolding is_in
  in_m_off_red i = eqb-true _ _ i.phase

  in_m_ackn : DoorIn r m_ackn d → get_or r.phase d 0 ≡ closed
  unfolding is_in
  in_m_ackn i = eqb-true _ _ i.phase

  in_m_accept : DoorIn r m_accept d → PhaseWithin r d granted green
  unfolding is_in
  in_m_accept i = one_within r d granted green _ _ i.exists i.phase (lit≤ tt) (lit≤ tt) (lit≤ tt) (lit≤ tt)

  in_m_refuse : DoorIn r m_refuse d → PhaseWithin r d denied red
  unfolding is_in
  in_m_refuse i = one_within r d denied red _ _ i.exists i.phase (lit≤ tt) (lit≤ tt) (lit≤ tt) (lit≤ tt)

  pub in_BLR : DoorIn r BLR d → get_or r.phase d 0 ≡ free → ⊥
  unfolding is_in
  in_BLR i = eqb-false _ _ (not-true _ i.phase)

  -- grn is the phases 2 to 5
  pub in_grn : (state_of3 r).set m3.grn d → PhaseWithin r d granted expired
  in_grn (inl a) = let s = in_m_accept a in record { exists = a.exists; low = s.low; high = omega (arith, s.high) }
  in_grn (inr (inl a)) = let e = in_m_pass a in record { exists = a.exists; low = omega arith; high = omega arith }
  in_grn (inr (inr a)) = let e = in_m_off_grn a in record { exists = a.exists; low = omega arith; high = omega arith }

  -- red is the phases 6 to 8
  in_red : (state_of3 r).set m3.red d → PhaseWithin r d denied dimmed
  in_red (inl a) = let s = in_m_refuse a in record { exists = a.exists; low = s.low; high = omega (arith, s.high) }
  in_red (inr a) = let e = in_m_off_red a in record { exists = a.exists; low = omega arith; high = omega arith }

  -- and back
  grn_of : PhaseWithin r d granted expired → (state_of3 r).set m3.grn d
  unfolding is_in or_else
  grn_of s =
      ⊎_elim (λ (e : get_or r.phase d 0 ≡ granted). inl (record { exists = s.exists; phase = rw e }))
      (λ s3. ⊎_elim (λ (e : get_or r.phase d 0 ≡ green). inl (record { exists = s.exists; phase = rw e }))
      (λ s4. ⊎_elim (λ (e : get_or r.phase d 0 ≡ walked). inr (inl (record { exists = s.exists; phase = rw e })))
      (λ s5. let e : get_or r.phase d 0 ≡ expired = omega (arith, s5.low, s5.high) in inr (inr (record { exists = s.exists; phase = rw e })))
      (first s4)) (first s3)) (first s)

  red_of : PhaseWithin r d denied dimmed → (state_of3 r).set m3.red d
  unfolding is_in or_else
  red_of s =
      ⊎_elim (λ (e : get_or r.phase d 0 ≡ denied). inl (record { exists = s.exists; phase = rw e }))
      (λ s7. ⊎_elim (λ (e : get_or r.phase d 0 ≡ red). inl (record { exists = s.exists; phase = rw e }))
      (λ s8. let e : get_or r.phase d 0 ≡ dimmed = omega (arith, s8.low, s8.high) in inr (record { exists = s.exists; phase = rw e }))
      (first s7)) (first s)

  pub grants_of : PhaseWithin r d granted expired → grants (get_or r.phase d 0) ≡ true
  unfolding grants
  grants_of s = and_both _ _ (le-leb 2 _ s.low) (le-leb _ 5 s.high)

  of_grants : d < r.doors → grants (get_or r.phase d 0) ≡ true → PhaseWithin r d granted expired
  unfolding grants
  of_grants h g = record { exists = h; low = leb-true 2 _ (and_left _ _ g); high = leb-true _ 5 (and_right _ _ g) }

  pub blocked : d < r.doors → (get_or r.phase d 0 ≡ free → ⊥) → DoorIn r BLR d
  unfolding is_in
  blocked h ne = record { exists = h; phase = rw (ne_eqb (get_or r.phase d 0) free ne) }

  -- a blocked reader is in one of the four situations
  pub one_of_the_four : Sound r → DoorIn r BLR d → (dom (CardAt r) ∪ (state_of3 r).set m3.grn ∪ (state_of3 r).set m3.red ∪ DoorIn r m_ackn) d
  unfolding is_in
  one_of_the_four s b =
      let all : PhaseWithin r d read closed = record { exists = b.exists; low = pos_of_ne-zero (in_BLR b); high = (s.doors d b.exists).known } in
      ⊎_elim (λ e. inl (get_or r.holder d 0, record { exists = b.exists; phase = e; person = refl }))
      (λ rest.
      ⊎_elim (λ h. inr (inl (grn_of (record { exists = b.exists; low = rest.low; high = omega arith }))))
      (λ low.
      ⊎_elim (λ h. inr (inr (inl (red_of (record { exists = b.exists; low = low; high = omega arith })))))
      (λ h. let e : get_or r.phase d 0 ≡ closed = omega (arith, rest.high) in inr (inr (inr (record { exists = b.exists; phase = rw e }))))
      (below_or_not (get_or r.phase d 0) closed))
      (below_or_not (get_or r.phase d 0) denied))
      (first all)

  -- and whatever is in one of them is blocked
  one_of_four : (dom (CardAt r) ∪ (state_of3 r).set m3.grn ∪ (state_of3 r).set m3.red ∪ DoorIn r m_ackn) d → DoorIn r BLR d
  one_of_four (inl card) = let e = card.1.phase in blocked card.1.exists (λ z. omega arith)
  one_of_four (inr (inl g)) = let s = in_grn g in blocked s.exists (λ z. omega (arith, s.low))
  one_of_four (inr (inr (inl g))) = let s = in_red g in blocked s.exists (λ z. omega (arith, s.low))
  one_of_four (inr (inr (inr g))) = let e = in_m_ackn g in blocked g.exists (λ z. omega arith)

-- ---- the invariants

module _ (r : Record) (s : Sound r) where
  -- a grant's door exists and keeps a person who exists
  held : (p d : ℕ) → GrantAt r.doors r.phase r.holder p d → p < r.people
  held p d g = subst (λ (q : ℕ). q < r.people) g.person ((s.doors d g.exists).held (grants_keeps _ g.holds))

  right : (p d : ℕ) → GrantAt r.doors r.phase r.holder p d → may_be r.right p (get_or r.destination d 0) ≡ true
  right p d g = subst (λ (q : ℕ). may_be r.right q (get_or r.destination d 0) ≡ true) g.person ((s.doors d g.exists).may g.holds)

  one_door : (p d e : ℕ) → GrantAt r.doors r.phase r.holder p d → GrantAt r.doors r.phase r.holder p e → d ≡ e
  one_door p d e g h =
      ⊎_elim (λ is. is)
      (λ is_not.
      absurd ((s.doors d g.exists).alone g.holds e (λ is. is_not (sym is)) (record { exists = h.exists; holds = h.holds; person = h.person ∙ sym g.person })))
      (same_or_not d e)

  pub inv0 : m0.Inv (constants_of r) (state_of1 r)
  inv0 =
      record {
        inv0_1 = λ p h. may_exists r s p _ (s.placed p h);
        inv0_2 = λ p h. (h, may_exists r s p _ (s.placed p h), s.placed p h);
      }

  pub inv2 : m2.Inv (constants_of r) (state_of2 r)
  inv2 =
      record {
        inv2_1 = record {
          «function» = record { between = λ p d g. (held p d g, g.exists); one = one_door };
          back = λ p q d g h. sym g.person ∙ h.person;
        };
        inv2_2 = λ p d g. subst (λ (q : ℕ). get_or r.place q 0 ≡ get_or r.origin d 0) g.person ((s.doors d g.exists).starts g.holds);
        inv2_3 = λ p d g. (held p d g, s.tables.in_range.destinations d g.exists, right p d g);
        inv2_4 = λ d g. (in_grn r d g).exists;
        inv2_5 = λ d g. (in_red r d g).exists;
        inv2_6 = λ d. (
          λ g. (get_or r.holder d 0, record { exists = (in_grn r d g).exists; holds = grants_of r d (in_grn r d g); person = refl }),
          λ g. grn_of r d (of_grants r d g.1.exists g.1.holds),
        );
        inv2_7 = λ d g. omega (arith, (in_grn r d g.0).high, (in_red r d g.1).low);
      }

  pub inv3 : m3.Inv (constants_of r) (state_of3 r)
  unfolding keeps and_also
  inv3 =
      record {
        inv3_1 = λ d b. b.exists;
        inv3_2 = record {
          between = λ d p card. (card.exists, subst (λ (q : ℕ). q < r.people) card.person ((s.doors d card.exists).held (rw card.phase)));
          one = λ d p q x y. sym x.person ∙ y.person;
        };
        inv3_3 = λ d b. b.exists;
        inv3_4 = λ d. (one_of_four r d, one_of_the_four r d s);
        inv3_5 = λ d x. apart d x.0 x.1;
        inv3_6 = λ d x. unlit d (in_m_ackn r d x.0) x.1;
      }
    where
      apart : (d : ℕ) → dom (CardAt r) d → ((state_of3 r).set m3.grn ∪ (state_of3 r).set m3.red ∪ DoorIn r m_ackn) d → ⊥
      apart d card (inl g) = omega (arith, card.1.phase, (in_grn r d g).low)
      apart d card (inr (inl g)) = omega (arith, card.1.phase, (in_red r d g).low)
      apart d card (inr (inr g)) = omega (arith, card.1.phase, in_m_ackn r d g)

      unlit : (d : ℕ) → get_or r.phase d 0 ≡ closed → ((state_of3 r).set m3.grn ∪ (state_of3 r).set m3.red) d → ⊥
      unlit d e (inl g) = omega (arith, (in_grn r d g).high)
      unlit d e (inr g) = omega (arith, (in_red r d g).high)

-- these hold of any record's reading
pub inv4 : (r : Record) → m4.Inv (state_of3 r) (state_of r)
unfolding is_in or_else
inv4 r =
    record {
      inv4_1 = λ d. Iff.rfl;
      inv4_2 = λ d x. apart d (in_m_accept r d x.0) x.1;
      inv4_3 = λ d x. omega (arith, in_m_pass r d x.0, in_m_off_grn r d x.1);
      inv4_4 = λ d g. record { exists = g.exists; phase = rw (in_GRN r d g) };
      inv4_5 = λ d. Iff.rfl;
      inv4_6 = λ d x. omega (arith, (in_m_refuse r d x.0).high, in_m_off_red r d x.1);
      inv4_7 = λ d g. record { exists = g.exists; phase = rw (in_RED r d g) };
    }
  where
    apart : (d : ℕ) → PhaseWithin r d granted green → (DoorIn r m_pass ∪ DoorIn r m_off_grn) d → ⊥
    apart d s (inl g) = omega (arith, s.high, in_m_pass r d g)
    apart d s (inr g) = omega (arith, s.high, in_m_off_grn r d g)
