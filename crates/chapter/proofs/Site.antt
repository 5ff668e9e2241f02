-- The tables of a sound record are constants that obey the chapter's axioms, and their signed way leads everybody outside.
-- Assumes nothing.
use Prim.Native.Nat.{ℕ, ◌<◌}
use mathlib.Core.Path.{◌≡◌, refl, sym, subst, ◌∙◌}
use mathlib.Core.Bool.{Bool, true, false}
use mathlib.Core.Logic.{⊎_elim}
use mathlib.Core.List.{List}
use native.Mathlib.Nat.{pos_of_ne-zero}
use native.Mathlib.Omega.{arith}
use borrow.Author.Tests.{eqb-true, ltb-true}
use lib.ListN.{get_or}
use lib.Dec.{eqb, ltb}
use Rattle.tables.specs.Tables.{right_at, may_be, or_else, and_also, most_locations}
use Rattle.tables.specs.Way.{Way, outside, onward, way_of}
use Rattle.tables.specs.Rules.{SafeWay}
use Rattle.tables.proofs.Laws.{and_left, and_right, clash, may_be_outside}
use Rattle.tables.proofs.WayOut.{way_is_safe}
use Rattle.record.specs.declared.record.Record.{Record}
use Rattle.record.specs.Doors.{plan_of}
use Rattle.record.specs.Sound.{Sound}
use Rattle.tables.proofs.Cases.{same_or_not, below_or_not}
use Rattle.machines.specs.Sets.{Set, only, ◌∖◌, ◌⊆◌}
use Rattle.machines.specs.Context.{Axioms, SAF-3, Leads}
use Rattle.chapter.specs.Reading.{constants_of}

-- whoever may be in a location may be in one that exists
pub may_exists : (r : Record) → Sound r → (p l : ℕ) → may_be r.right p l ≡ true → l < r.locations
unfolding may_be or_else
may_exists r s p l may = ⊎_elim (λ is. let low = s.tables.in_range.locations_from in omega arith) other (same_or_not l 0)
  where
    right : (b : Bool) → eqb l 0 ≡ b → (l ≡ 0 → ⊥) → or_else b (and_also (ltb l most_locations) (right_at r.right p l)) ≡ true → and_also (ltb l most_locations) (right_at r.right p l) ≡ true
    right true e ne h = absurd (ne (eqb-true l 0 e))
    right false e ne h = h

    other : (l ≡ 0 → ⊥) → l < r.locations
    other ne =
        let both = right (eqb l 0) refl ne may in
        ⊎_elim (λ h. h)
        (λ h. clash (and_right (ltb l most_locations) _ both) (s.zero_tables.rights_to p l h (ltb-true l most_locations (and_left _ _ both))))
        (below_or_not l r.locations)

pub axioms : (r : Record) → Sound r → Axioms (constants_of r)
axioms r s =
    record {
      some_p = (0, s.tables.in_range.people_from);
      some_l = (0, some);
      some_d = let f = s.tables.first 0 s.tables.in_range.people_from in (f.door.door, f.door.exists);
      axm0_1 = λ p l a. (a.0, a.1);
      axm0_2 = some;
      axm0_3 = λ p h. (h, some, may_be_outside r.right p);
      axm1_1 = λ l m d. (
        subst (λ (x : ℕ). x < r.locations) d.starts (s.tables.in_range.origins d.door d.exists),
        subst (λ (x : ℕ). x < r.locations) d.ends (s.tables.in_range.destinations d.door d.exists),
      );
      axm1_2 = λ l m d is. s.tables.in_range.no_loop d.door d.exists (d.starts ∙ is ∙ sym d.ends);
      axm1_3 = λ l h. s.tables.in_range.exits l h.0;
      axm1_4 = no_circle;
      axm1_5 = λ l h. s.tables.exit_door l h.0 (pos_of_ne-zero h.1);
      axm1_6 = λ p l a ne.
          (a.0, s.tables.in_range.exits l a.1, s.tables.exit_right p a.0 l a.1 (pos_of_ne-zero ne) a.2);
      axm1_7 = λ p h. let f = s.tables.first p h in (f.location, (h, may_exists r s p f.location f.may, f.may), f.door);
      axm2_1 = s.tables.in_range.origins;
      axm2_2 = s.tables.in_range.destinations;
      axm2_3 = λ l m.
          (λ d. (d.door, d.exists, d.starts, d.ends), λ d. record { door = d.0; exists = d.1; starts = d.2; ends = d.3 });
    }
  where
    some : 0 < r.locations
    some = let low = s.tables.in_range.locations_from in omega arith

    no_circle : (A : Set) → A ⊆ (λ l. ((λ x. x < r.locations) ∖ only 0) l × A (get_or r.exit l 0)) → (l : ℕ) → A l → ⊥
    no_circle A on l a = go (s.tables.leads_out l (on l a).0.0).is_way a
      where
        go : {l : ℕ} {way : List ℕ} → Way r.exit l way → A l → ⊥
        go outside a = (on 0 a).0.1 refl
        go (onward {l} {m} ne e way) a = go way (subst A (sym e) (on l a).1)

-- ---- safety

leads : (r : Record) → Sound r → (p : ℕ) → p < r.people → {l : ℕ} {way : List ℕ} → SafeWay (plan_of r) r.right p l way
    → Leads (constants_of r) p l way
leads r s p h SafeWay.outside = Leads.outside
leads r s p h (SafeWay.onward {l} {m} door may rest) = Leads.onward (h, may_exists r s p m may, may) door (leads r s p h rest)

-- whoever may be in a location is led outside, by the way of the signs
pub way_leads : (r : Record) → Sound r → (p l : ℕ) → p < r.people → may_be r.right p l ≡ true
    → Leads (constants_of r) p l (way_of r.locations r.exit l)
way_leads r s p l h may = leads r s p h (way_is_safe s.tables p l h (may_exists r s p l may) may)

pub saf_3 : (r : Record) → Sound r → SAF-3 (constants_of r)
saf_3 r s p l a ne =
    let ax = axioms r s in
    let next = ax.axm1_6 p l a ne in
    (get_or r.exit l 0, next, ax.axm1_5 l (a.1, ne), (way_of r.locations r.exit (get_or r.exit l 0), way_leads r s p (get_or r.exit l 0) a.0 next.2))
