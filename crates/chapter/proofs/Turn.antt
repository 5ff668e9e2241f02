-- The reading of a record before and after one door was put anew, and the assignments that make the one of the other. What a
-- state says of door d is a Boolean for each set, and for each partial function a Boolean and a person. Assumes nothing.
use Prim.Native.Nat.{ℕ, ◌<◌}
use mathlib.Core.Path.{◌≡◌, refl, sym, subst, ap, ◌∙◌}
use mathlib.Core.Bool.{Bool, true, false, cond, false≢true}
use mathlib.Core.Logic.Iff
use mathlib.Core.Logic.{◌⊎◌, inl, inr, ⊎_elim, ◌↔◌}
use borrow.Author.Tests.{eqb-true, eq-eqb}
use lib.Dec.{eqb}
use Rattle.door.specs.declared.Door.{Door}
use Rattle.record.specs.declared.record.Record.{Record}
use Rattle.phases.specs.Phase.{read, grants}
use Rattle.tables.specs.Tables.{Plan}
use Rattle.record.specs.Doors.{plan_of, door_of}
use Rattle.granting.specs.Grants.{GrantAt}
use Rattle.tables.proofs.Cases.{same_or_not}
use Rattle.machines.specs.Sets.{Set, Relation, only, ◌∪◌, ◌∖◌, ◌≐◌}
use Rattle.chapter.specs.Reading.{is_in, DoorIn, CardAt}
use Rattle.machines.specs.M4.{Sets, set_no, BLR, m_ackn, m_accept, GRN, m_pass, m_off_grn, m_refuse, RED, m_off_red}

-- ---- sets of doors

-- the sets u say b of door d, and of any other door what `base` says
pub record At (base : Sets → Set) (d : ℕ) (b : Sets → Bool) (u : Sets → Set) : Type 0 where
  pub here : (X : Sets) → u X d ↔ (b X ≡ true)
  pub other : (X : Sets) (e : ℕ) → (e ≡ d → ⊥) → u X e ↔ base X e

module _ {base : Sets → Set} {d : ℕ} {b : Sets → Bool} {u : Sets → Set} (X : Sets) (at : At base d b u) where
  -- X := X ∪ {d}
  pub comes : At base d (λ Y. cond (eqb (set_no X) (set_no Y)) true (b Y)) (λ Y. cond (eqb (set_no X) (set_no Y)) (u Y ∪ only d) (u Y))
  comes = record { here = λ Y. here Y (eqb (set_no X) (set_no Y)); other = λ Y e ne. other Y e ne (eqb (set_no X) (set_no Y)) }
    where
      here : (Y : Sets) (t : Bool) → cond t (u Y ∪ only d) (u Y) d ↔ (cond t true (b Y) ≡ true)
      here Y true = (λ _. refl, λ _. inr refl)
      here Y false = at.here Y

      from : (Y : Sets) (e : ℕ) → (e ≡ d → ⊥) → (u Y ∪ only d) e → base Y e
      from Y e ne (inl h) = (at.other Y e ne).0 h
      from Y e ne (inr is) = absurd (ne is)

      other : (Y : Sets) (e : ℕ) → (e ≡ d → ⊥) → (t : Bool) → cond t (u Y ∪ only d) (u Y) e ↔ base Y e
      other Y e ne true = (from Y e ne, λ h. inl ((at.other Y e ne).1 h))
      other Y e ne false = at.other Y e ne

  -- X := X \ {d}
  pub goes : At base d (λ Y. cond (eqb (set_no X) (set_no Y)) false (b Y)) (λ Y. cond (eqb (set_no X) (set_no Y)) (u Y ∖ only d) (u Y))
  goes = record { here = λ Y. here Y (eqb (set_no X) (set_no Y)); other = λ Y e ne. other Y e ne (eqb (set_no X) (set_no Y)) }
    where
      here : (Y : Sets) (t : Bool) → cond t (u Y ∖ only d) (u Y) d ↔ (cond t false (b Y) ≡ true)
      here Y true = (λ h. absurd (h.1 refl), λ h. absurd (false≢true h))
      here Y false = at.here Y

      other : (Y : Sets) (e : ℕ) → (e ≡ d → ⊥) → (t : Bool) → cond t (u Y ∖ only d) (u Y) e ↔ base Y e
      other Y e ne true = (λ h. (at.other Y e ne).0 h.0, λ h. ((at.other Y e ne).1 h, ne))
      other Y e ne false = at.other Y e ne

-- what holds of the nine sets holds of each
pub each : (P : Sets → Type 0) → P BLR → P m_ackn → P m_accept → P GRN → P m_pass → P m_off_grn → P m_refuse → P RED → P m_off_red → (X : Sets) → P X
each P a b c d e f g h i BLR = a
each P a b c d e f g h i m_ackn = b
each P a b c d e f g h i m_accept = c
each P a b c d e f g h i GRN = d
each P a b c d e f g h i m_pass = e
each P a b c d e f g h i m_off_grn = f
each P a b c d e f g h i m_refuse = g
each P a b c d e f g h i RED = h
each P a b c d e f g h i m_off_red = i

-- two lots of sets that say the same of d, and of the others what `base` says, are the same
pub sets_same : {base : Sets → Set} {d : ℕ} {b c : Sets → Bool} {u v : Sets → Set} → At base d b u → At base d c v → ((X : Sets) → b X ≡ c X)
    → (X : Sets) → u X ≐ v X
sets_same {d} {b} {c} {u} {v} s t e X x =
    ⊎_elim (λ is. subst (λ (y : ℕ). u X y ↔ v X y) (sym is) (Iff.trans (s.here X) (Iff.trans same (Iff.symm (t.here X)))))
    (λ is_not. Iff.trans (s.other X x is_not) (Iff.symm (t.other X x is_not))) (same_or_not x d)
  where
    same : (b X ≡ true) ↔ (c X ≡ true)
    same = (λ q. sym (e X) ∙ q, λ q. e X ∙ q)

-- ---- partial functions

-- the relation u (of persons and doors) gives door d the person h, if b, and is at any other door what `base` is
pub record MapAt (base : Relation) (d : ℕ) (b : Bool) (h : ℕ) (u : Relation) : Type 0 where
  pub here : (q : ℕ) → u q d ↔ ((b ≡ true) × (h ≡ q))
  pub other : (q e : ℕ) → (e ≡ d → ⊥) → u q e ↔ base q e

module _ {base : Relation} {d : ℕ} {h : ℕ} {u : Relation} where
  -- u(p) := d, of a person who has no door and a door that has no person
  pub takes : (p : ℕ) → MapAt base d false h u → ((e : ℕ) → u p e → ⊥)
      → MapAt base d true p (λ q e. ((q ≡ p) × (e ≡ d)) ⊎ ((q ≡ p → ⊥) × u q e))
  takes p at none = record { here = λ q. (to q, λ x. inl (sym x.1, refl)); other = λ q e ne. (from q e ne, λ x. back q e ne ((at.other q e ne).1 x)) }
    where
      to : (q : ℕ) → ((q ≡ p) × (d ≡ d)) ⊎ ((q ≡ p → ⊥) × u q d) → (true ≡ true) × (p ≡ q)
      to q (inl x) = (refl, sym x.0)
      to q (inr x) = absurd (false≢true ((at.here q).0 x.1).0)

      from : (q e : ℕ) → (e ≡ d → ⊥) → ((q ≡ p) × (e ≡ d)) ⊎ ((q ≡ p → ⊥) × u q e) → base q e
      from q e ne (inl x) = absurd (ne x.1)
      from q e ne (inr x) = (at.other q e ne).0 x.1

      back : (q e : ℕ) → (e ≡ d → ⊥) → u q e → ((q ≡ p) × (e ≡ d)) ⊎ ((q ≡ p → ⊥) × u q e)
      back q e ne x = inr (λ is. none e (subst (λ (y : ℕ). u y e) is x), x)

  -- u := u ⩥ {d}
  pub frees : {b : Bool} → MapAt base d b h u → MapAt base d false h (λ q e. u q e × (e ≡ d → ⊥))
  frees at =
      record {
        here = λ q. (λ x. absurd (x.1 refl), λ x. absurd (false≢true x.0));
        other = λ q e ne. (λ x. (at.other q e ne).0 x.0, λ x. ((at.other q e ne).1 x, ne));
      }

  -- u := u ∪ {d ↦ p}, of a door that has no person
  pub holds : (p : ℕ) → MapAt base d false h u → MapAt base d true p (λ q e. u q e ⊎ ((e ≡ d) × (q ≡ p)))
  holds p at = record { here = λ q. (to q, λ x. inr (refl, sym x.1)); other = λ q e ne. (from q e ne, λ x. inl ((at.other q e ne).1 x)) }
    where
      to : (q : ℕ) → u q d ⊎ ((d ≡ d) × (q ≡ p)) → (true ≡ true) × (p ≡ q)
      to q (inl x) = absurd (false≢true ((at.here q).0 x).0)
      to q (inr x) = (refl, sym x.1)

      from : (q e : ℕ) → (e ≡ d → ⊥) → u q e ⊎ ((e ≡ d) × (q ≡ p)) → base q e
      from q e ne (inl x) = (at.other q e ne).0 x
      from q e ne (inr x) = absurd (ne x.0)

  -- u := u \ {d ↦ h}, of a door whose person is h
  pub drops : {b : Bool} → MapAt base d b h u → MapAt base d false h (λ q e. u q e × ((e ≡ d) × (q ≡ h) → ⊥))
  drops at =
      record {
        here = λ q. (λ x. absurd (x.1 (refl, sym ((at.here q).0 x.0).1)), λ x. absurd (false≢true x.0));
        other = λ q e ne. (λ x. (at.other q e ne).0 x.0, λ x. ((at.other q e ne).1 x, λ y. ne y.0));
      }

pub maps_same : {base : Relation} {d : ℕ} {b c : Bool} {h k : ℕ} {u v : Relation} → MapAt base d b h u → MapAt base d c k v → b ≡ c → (b ≡ true → h ≡ k)
    → (q e : ℕ) → u q e ↔ v q e
maps_same {d} {b} {c} {h} {k} {u} {v} s t bs hs q e =
    ⊎_elim (λ is. subst (λ (y : ℕ). u q y ↔ v q y) (sym is) (Iff.trans (s.here q) (Iff.trans same (Iff.symm (t.here q)))))
    (λ is_not. Iff.trans (s.other q e is_not) (Iff.symm (t.other q e is_not))) (same_or_not e d)
  where
    same : ((b ≡ true) × (h ≡ q)) ↔ ((c ≡ true) × (k ≡ q))
    same =
        (λ x. (sym bs ∙ x.0, sym (hs x.0) ∙ x.1), λ x. let on : b ≡ true = bs ∙ x.0 in (on, hs on ∙ x.1))

-- ---- a record, one of whose doors was put anew

-- next is r but for door d, which is c now, and for people's places
pub record Turned (r next : Record) (d : ℕ) (c : Door) : Type 0 where
  pub plan : plan_of next ≡ plan_of r
  pub there : door_of next d ≡ c
  pub others : (e : ℕ) → (e ≡ d → ⊥) → door_of next e ≡ door_of r e

pub unturned : (r : Record) (d : ℕ) → Turned r r d (door_of r d)
unturned r d = record { plan = refl; there = refl; others = λ e ne. refl }

-- the doors of a record by their cells alone
cell_in : (r : Record) (X : Sets) (e : ℕ) (c : Door) → door_of r e ≡ c → DoorIn r X e ↔ ((e < r.doors) × (is_in X c.phase ≡ true))
cell_in r X e c is =
    subst (λ (x : Door). DoorIn r X e ↔ ((e < r.doors) × (is_in X x.phase ≡ true))) is
    (λ i. (i.exists, i.phase), λ i. record { exists = i.0; phase = i.1 })

-- a relation between persons and doors that goes by the doors' cells: by a test of the phase, and the person held
abbrev Cells : (ℕ → Bool) → Record → Relation → Type 0
Cells test r u = (q e : ℕ) (c : Door) → door_of r e ≡ c → u q e ↔ ((e < r.doors) × (test c.phase ≡ true) × (c.holder ≡ q))

cells_dap : (r : Record) → Cells grants r (GrantAt r.doors r.phase r.holder)
cells_dap r q e c is =
    subst (λ (x : Door). GrantAt r.doors r.phase r.holder q e ↔ ((e < r.doors) × (grants x.phase ≡ true) × (x.holder ≡ q))) is
    (λ i. (i.exists, i.holds, i.person), λ i. record { exists = i.0; holds = i.1; person = i.2 })

cells_card : (r : Record) → Cells (λ ph. eqb ph read) r (λ q e. CardAt r e q)
cells_card r q e c is =
    subst (λ (x : Door). CardAt r e q ↔ ((e < r.doors) × (eqb x.phase read ≡ true) × (x.holder ≡ q))) is
    (λ i. (i.exists, eq-eqb _ _ i.phase, i.person), λ i. record { exists = i.0; phase = eqb-true _ _ i.1; person = i.2 })

module _ (r next : Record) (d : ℕ) (c : Door) (t : Turned r next d c) (h : d < r.doors) where
  as_many : next.doors ≡ r.doors
  as_many = ap (λ (site : Plan). site.doors) t.plan

  pub read_sets : (ph : ℕ) → c.phase ≡ ph → At (DoorIn r) d (λ X. is_in X ph) (DoorIn next)
  read_sets ph is =
      subst (λ (x : ℕ). At (DoorIn r) d (λ X. is_in X x) (DoorIn next)) is
      (record {
        here = λ X. let i = cell_in next X d c t.there in (λ x. (i.0 x).1, λ x. i.1 (rw as_many h, x));
        other = λ X e ne.
            let i = cell_in next X e (door_of r e) (t.others e ne) in
            let j = cell_in r X e (door_of r e) refl in
            (λ x. j.1 (rw as_many at (i.0 x)), λ x. i.1 (rw as_many (j.0 x)));
      })

  read_map : (test : ℕ → Bool) (u v : Relation) → Cells test r u → Cells test next v → (b : Bool) (p : ℕ) → test c.phase ≡ b → c.holder ≡ p → MapAt u d b p v
  read_map test u v before after b p bs ps =
      subst (λ (x : ℕ). MapAt u d b x v) ps
      (subst (λ (x : Bool). MapAt u d x c.holder v) bs
      (record {
        here = λ q. let i = after q d c t.there in (λ x. let y = i.0 x in (y.1, y.2), λ x. i.1 (rw as_many h, x.0, x.1));
        other = λ q e ne.
            let i = after q e (door_of r e) (t.others e ne) in
            let j = before q e (door_of r e) refl in
            (λ x. j.1 (rw as_many at (i.0 x)), λ x. i.1 (rw as_many (j.0 x)));
      }))

  pub read_dap : (b : Bool) (p : ℕ) → grants c.phase ≡ b → c.holder ≡ p
      → MapAt (GrantAt r.doors r.phase r.holder) d b p (GrantAt next.doors next.phase next.holder)
  read_dap = read_map grants _ _ (cells_dap r) (cells_dap next)

  pub read_card : (b : Bool) (p : ℕ) → eqb c.phase read ≡ b → c.holder ≡ p → MapAt (λ q e. CardAt r e q) d b p (λ q e. CardAt next e q)
  read_card = read_map (λ ph. eqb ph read) _ _ (cells_card r) (cells_card next)
