-- Each machine of the chapter refines the one before, and so a step of it is a step of that one, and it keeps the invariants of all
-- before. Assumes nothing.
use Prim.Native.Nat.{ℕ}
use mathlib.Core.Path.{◌≡◌, refl, sym, subst, ◌∙◌}
use mathlib.Core.Logic.Iff
use mathlib.Core.Logic.{inl, inr, ⊎_map, ⊎_elim, ◌↔◌}
use Rattle.machines.specs.Sets.{Set, Relation, ◌∪◌, ◌≐◌}
use Rattle.machines.specs.Context.{Constants, Axioms}
use Rattle.machines.specs.Machines.{Names, State, Same, Machine, Move, event, skip, seen, MachineStep, Keeps, Refines}
use Rattle.machines.specs.M0 as m0
use Rattle.machines.specs.M1 as m1
use Rattle.machines.specs.M2 as m2
use Rattle.machines.specs.M3 as m3
use Rattle.machines.specs.M3.{dap, m_card}
use Rattle.machines.specs.M4 as m4
use Rattle.machines.proofs.Kept.{same0, same2, same3, same4, begins0, begins2, begins3, begins4, keeps0, keeps2, keeps3, keeps4}
use Rattle.machines.proofs.Algebra.{comes_left, comes_right, goes_left, goes_right, goes_over}

-- every state is the same as itself
pub same_refl : {n : Names} (s : State n) → Same s s
same_refl s = record { sit = λ p. refl; set = λ X x. Iff.rfl; map = λ f x y. Iff.rfl }

-- ---- states that are the same, variable by variable

kept : (A : Set) → A ≐ A
kept A x = Iff.rfl

kept2 : (f : Relation) (x y : ℕ) → f x y ↔ f x y
kept2 f x y = Iff.rfl

still : (f : ℕ → ℕ) (q : ℕ) → f q ≡ f q
still f q = refl

alike2 : (s t : State m2.names) → ((q : ℕ) → s.sit q ≡ t.sit q) → (s.set m2.grn) ≐ (t.set m2.grn) → (s.set m2.red) ≐ (t.set m2.red)
    → ((x y : ℕ) → s.map m2.dap x y ↔ t.map m2.dap x y) → Same s t
alike2 s t sit grn red da = record { sit = sit; set = sets; map = maps }
  where
    sets : (X : m2.Sets) → (s.set X) ≐ (t.set X)
    sets m2.grn = grn
    sets m2.red = red

    maps : (f : m2.Maps) (x y : ℕ) → s.map f x y ↔ t.map f x y
    maps m2.dap = da

alike3 : (s t : State m3.names) → ((q : ℕ) → s.sit q ≡ t.sit q) → (s.set m3.grn) ≐ (t.set m3.grn) → (s.set m3.red) ≐ (t.set m3.red)
    → (s.set m3.BLR) ≐ (t.set m3.BLR) → (s.set m3.m_ackn) ≐ (t.set m3.m_ackn)
    → ((x y : ℕ) → s.map dap x y ↔ t.map dap x y) → ((x y : ℕ) → s.map m_card x y ↔ t.map m_card x y) → Same s t
alike3 s t sit grn red BLR m_ackn da mc = record { sit = sit; set = sets; map = maps }
  where
    sets : (X : m3.Sets) → (s.set X) ≐ (t.set X)
    sets m3.grn = grn
    sets m3.red = red
    sets m3.BLR = BLR
    sets m3.m_ackn = m_ackn

    maps : (f : m3.Maps) (x y : ℕ) → s.map f x y ↔ t.map f x y
    maps m3.dap = da
    maps m3.m_card = mc

-- ---- the refinements

module _ (c : Constants) (ax : Axioms c) where
  pub M0-keeps : Keeps (m0.machine c) (m0.Inv c)
  M0-keeps = record { starts = begins0 c ax; keeps = keeps; same = same0 c }
    where
      keeps : (s : State m0.names) (e : m0.Event) → m0.Inv c s → m0.Guard c s e → m0.Inv c (m0.action c s e)
      keeps s (m0.pass p l) i g = keeps0 c ax s p l g.0 i

  -- the first refinement adds no invariant
  pub M1-keeps : Keeps (m1.machine c) (m0.Inv c)
  M1-keeps = record { starts = begins0 c ax; keeps = keeps; same = same0 c }
    where
      keeps : (s : State m0.names) (e : m1.Event) → m0.Inv c s → m1.Guard c s e → m0.Inv c (m1.action c s e)
      keeps s (m1.pass p l) i g = keeps0 c ax s p l g.0 i

  -- "sit(p) ↦ l ∈ com ⇒ sit(p) ≠ l since a location can't communicate with itself according to axm1_2"
  pub M1-refines-M0 : Refines (m0.machine c) (m1.machine c) m1.see m1.from (m0.Inv c) (λ s. Unit {0})
  M1-refines-M0 =
      record {
        starts = λ s h. h;
        simulates = simulates;
        begins = λ s h. tt;
        keeps = λ s e b i g. tt;
        see_same = λ s t m. m;
        inv_same = λ s t m i. tt;
      }
    where
      simulates : (s : State m0.names) (e : m1.Event) → m0.Inv c s → Unit {0} → m1.Guard c s e → MachineStep (m0.machine c) s (m1.from e) (m1.action c s e)
      simulates s (m1.pass p l) b i g = ((g.0, λ is. ax.axm1_2 (s.sit p) l g.1 is), same_refl _)

  pub M2-refines-M1 : Refines (m1.machine c) (m2.machine c) m2.see (m2.from c) (m0.Inv c) (m2.Inv c)
  M2-refines-M1 =
      record {
        starts = λ s h. h.sit;
        simulates = simulates;
        begins = begins2 c ax;
        keeps = λ s e b i g. keeps2 c ax s e i g;
        see_same = λ s t m. record { sit = m.sit; set = λ x. absurd x; map = λ x. absurd x };
        inv_same = same2 c;
      }
    where
      simulates : (s : State m2.names) (e : m2.Event) → m0.Inv c (m2.see s) → m2.Inv c s → m2.Guard c s e
          → MachineStep (m1.machine c) (m2.see s) (m2.from c e) (m2.see (m2.action c s e))
      simulates s (m2.accept p d) b inv g = same_refl _
      simulates s (m2.refuse p d) b inv g = same_refl _
      simulates s (m2.pass p d) b inv g =
          let door : c.D d = (inv.inv2_1.«function».between p d g.1).1 in
          ((inv.inv2_3 p d g.1, (ax.axm2_3 (s.sit p) (c.dst d)).1 (d, door, sym (inv.inv2_2 p d g.1), refl)), same_refl _)
      simulates s (m2.off_grn d) b inv g = same_refl _
      simulates s (m2.off_red d) b inv g = same_refl _

  pub M3-refines-M2 : Refines (m2.machine c) (m3.machine c) m3.see m3.from (m2.All c) (m3.Inv c)
  M3-refines-M2 =
      record {
        starts = λ s h. record { sit = h.sit; sets = λ X. h.sets (m3.set_named X); maps = λ f. h.maps (m3.map_named f) };
        simulates = simulates;
        begins = begins3 c;
        keeps = λ s e b i g. keeps3 c s e b.1 i g;
        see_same = λ s t m. record { sit = m.sit; set = λ X. m.set (m3.set_named X); map = λ f. m.map (m3.map_named f) };
        inv_same = same3 c;
      }
    where
      -- a door whose reader has sent a card is a door of a person, and neither of its lights is lit
      unlit : (s : State m3.names) → m3.Inv c s → (p d : ℕ) → s.map m_card d p → (s.set m3.grn ∪ s.set m3.red) d → ⊥
      unlit s inv p d card (inl g) = inv.inv3_5 d ((p, card), inl g)
      unlit s inv p d card (inr g) = inv.inv3_5 d ((p, card), inr (inl g))

      simulates : (s : State m3.names) (e : m3.Event) → m2.All c (m3.see s) → m3.Inv c s → m3.Guard c s e
          → MachineStep (m2.machine c) (m3.see s) (m3.from e) (m3.see (m3.action c s e))
      simulates s (m3.CARD p d) b inv g = alike2 _ _ (still _) (kept _) (kept _) (kept2 _)
      simulates s (m3.accept p d) b inv g =
          let at = inv.inv3_2.between d p g.0 in
          ((at.1, at.0, unlit s inv p d g.0, g.1), alike2 _ _ (still _) (kept _) (kept _) (kept2 _))
      simulates s (m3.refuse p d) b inv g =
          let at = inv.inv3_2.between d p g.0 in
          ((at.1, at.0, unlit s inv p d g.0, g.1), alike2 _ _ (still _) (kept _) (kept _) (kept2 _))
      simulates s (m3.pass p d) b inv g = (g, alike2 _ _ (still _) (kept _) (kept _) (kept2 _))
      simulates s (m3.off_grn d) b inv g = (g, alike2 _ _ (still _) (kept _) (kept _) (kept2 _))
      simulates s (m3.off_red d) b inv g = (g, alike2 _ _ (still _) (kept _) (kept _) (kept2 _))
      simulates s (m3.ACKN d) b inv g = alike2 _ _ (still _) (kept _) (kept _) (kept2 _)

  pub M4-refines-M3 : Refines (m3.machine c) (m4.machine c) m4.see m4.from (m3.All c) (λ s. m4.Inv (m4.see s) s)
  M4-refines-M3 =
      record {
        starts = λ s h. record { sit = h.sit; sets = starts s h; maps = h.maps };
        simulates = simulates;
        begins = begins4 c;
        keeps = λ s e b i g. keeps4 c s e b.1 i g;
        see_same = λ s t m. alike3 _ _ m.sit (λ x. (⊎_map (m.set m4.m_accept x).0 (⊎_map (m.set m4.m_pass x).0 (m.set m4.m_off_grn x).0), ⊎_map (m.set m4.m_accept x).1 (⊎_map (m.set m4.m_pass x).1 (m.set m4.m_off_grn x).1)))
            (λ x. (⊎_map (m.set m4.m_refuse x).0 (m.set m4.m_off_red x).0, ⊎_map (m.set m4.m_refuse x).1 (m.set m4.m_off_red x).1))
            (m.set m4.BLR) (m.set m4.m_ackn) (m.map dap) (m.map m_card);
        inv_same = same4;
      }
    where
      starts : (s : State m4.names) → m4.Start c s → (X : m3.Sets) (x : ℕ) → (m4.see s).set X x → ⊥
      starts s h m3.grn x (inl a) = h.sets m4.m_accept x a
      starts s h m3.grn x (inr (inl a)) = h.sets m4.m_pass x a
      starts s h m3.grn x (inr (inr a)) = h.sets m4.m_off_grn x a
      starts s h m3.red x (inl a) = h.sets m4.m_refuse x a
      starts s h m3.red x (inr a) = h.sets m4.m_off_red x a
      starts s h m3.BLR x a = h.sets m4.BLR x a
      starts s h m3.m_ackn x a = h.sets m4.m_ackn x a

      simulates : (s : State m4.names) (e : m4.Event) → m3.All c (m4.see s) → m4.Inv (m4.see s) s → m4.Guard c s e
          → MachineStep (m3.machine c) (m4.see s) (m4.from e) (m4.see (m4.action c s e))
      simulates s (m4.CARD p d) b inv g = (g, alike3 _ _ (still _) (kept _) (kept _) (kept _) (kept _) (kept2 _) (kept2 _))
      simulates s (m4.accept p d) b inv g = (
        g,
        alike3 _ _ (still _) (comes_left (s.set m4.m_accept) (s.set m4.m_pass ∪ s.set m4.m_off_grn) d) (kept _)
            (kept _) (kept _) (kept2 _) (kept2 _),
      )
      simulates s (m4.refuse p d) b inv g = (
        g,
        alike3 _ _ (still _) (kept _) (comes_left (s.set m4.m_refuse) (s.set m4.m_off_red) d)
            (kept _) (kept _) (kept2 _) (kept2 _),
      )
      simulates s (m4.pass p d) b inv g = (
        (inr (inl g.0), g.1),
        alike3 _ _ (still _)
            (goes_right (s.set m4.m_accept) (s.set m4.m_pass ∪ s.set m4.m_off_grn) d _
            (goes_left (s.set m4.m_pass) (s.set m4.m_off_grn) d (λ o. inv.inv4_3 d (g.0, o))) (λ a. inv.inv4_2 d (a, inl g.0)))
            (kept _) (kept _) (kept _) (kept2 _) (kept2 _),
      )
      simulates s (m4.ACCEPT d) b inv g = alike3 _ _ (still _) (kept _) (kept _) (kept _) (kept _) (kept2 _) (kept2 _)
      simulates s (m4.PASS d) b inv g =
          alike3 _ _ (still _)
          (goes_over (s.set m4.m_accept) (s.set m4.m_pass ∪ s.set m4.m_off_grn) d _ (comes_left (s.set m4.m_pass) (s.set m4.m_off_grn) d) (inv.inv4_4 d g))
          (kept _) (kept _) (kept _) (kept2 _) (kept2 _)
      simulates s (m4.OFF-GRN d) b inv g =
          alike3 _ _ (still _)
          (goes_over (s.set m4.m_accept) (s.set m4.m_pass ∪ s.set m4.m_off_grn) d _ (comes_right (s.set m4.m_pass) (s.set m4.m_off_grn) d) (inv.inv4_4 d g))
          (kept _) (kept _) (kept _) (kept2 _) (kept2 _)
      simulates s (m4.off_grn d) b inv g = (
        inr (inr g),
        alike3 _ _ (still _)
            (goes_right (s.set m4.m_accept) (s.set m4.m_pass ∪ s.set m4.m_off_grn) d _
            (goes_right (s.set m4.m_pass) (s.set m4.m_off_grn) d _ (kept _) (λ o. inv.inv4_3 d (o, g))) (λ a. inv.inv4_2 d (a, inr g)))
            (kept _) (kept _) (kept _) (kept2 _) (kept2 _),
      )
      simulates s (m4.REFUSE d) b inv g = alike3 _ _ (still _) (kept _) (kept _) (kept _) (kept _) (kept2 _) (kept2 _)
      simulates s (m4.OFF-RED d) b inv g =
          alike3 _ _ (still _) (kept _)
          (goes_over (s.set m4.m_refuse) (s.set m4.m_off_red) d _ (kept _) (inv.inv4_7 d g))
          (kept _) (kept _) (kept2 _) (kept2 _)
      simulates s (m4.off_red d) b inv g = (
        inr g,
        alike3 _ _ (still _) (kept _)
            (goes_right (s.set m4.m_refuse) (s.set m4.m_off_red) d _ (kept _) (λ a. inv.inv4_6 d (a, g)))
            (kept _) (kept _) (kept2 _) (kept2 _),
      )
      simulates s (m4.ACKN d) b inv g = (g, alike3 _ _ (still _) (kept _) (kept _) (kept _) (kept _) (kept2 _) (kept2 _))

  -- whoever could pass in the first refinement has a grant, or is accepted at a door that leads there, unless a light is on there
  pub pass_not_less_often : (s : State m2.names) → m2.Inv c s → ((p d : ℕ) → m2.Guard c s (m2.accept p d) → ⊥) → ((p d : ℕ) → m2.Guard c s (m2.pass p d) → ⊥)
      → ((d : ℕ) → m2.Guard c s (m2.off_red d) → ⊥) → (p l : ℕ) → m1.Guard c (m2.see s) (m1.pass p l) → ⊥
  pass_not_less_often s inv no_accept no_pass no_off p l g =
      let way = (ax.axm2_3 (s.sit p) l).0 g.1 in
      let d = way.0 in
      let granted : (q e : ℕ) → s.map m2.dap q e → ⊥ = λ q e has. no_pass q e ((inv.inv2_6 e).1 (q, has), has) in
      let unlit : (s.set m2.grn ∪ s.set m2.red) d → ⊥ = ⊎_elim (λ lit. let who = (inv.inv2_6 d).0 lit in granted who.0 d who.1) (no_off d) in
      let may : c.aut p (c.dst d) = subst (c.aut p) (sym way.3) g.0 in
      no_accept p d
      ((ax.axm0_1 p l g.0).0, way.1, unlit, record { situated = sym way.2; authorized = may; uninvolved = λ has. granted p has.0 has.1 })

-- ---- what a refinement gives

same_trans : {n : Names} {s t u : State n} → Same s t → Same t u → Same s u
same_trans a b =
    record {
      sit = λ p. a.sit p ∙ b.sit p;
      set = λ X x. Iff.trans (a.set X x) (b.set X x);
      map = λ f x y. Iff.trans (a.map f x y) (b.map f x y);
    }

after_same : (m : Machine) (s t u : State m.names) (o : Move m.Event) → MachineStep m s o u → Same t u → MachineStep m s o t
after_same m s t u (event e) by same = (by.0, same_trans same by.1)
after_same m s t u skip by same = same_trans same by

step_keeps : (m : Machine) (Inv : State m.names → Type 0) → Keeps m Inv → (s u : State m.names) (o : Move m.Event) → MachineStep m s o u → Inv s → Inv u
step_keeps m Inv k s u (event e) by i = k.same (m.action s e) u by.1 (k.keeps s e i by.0)
step_keeps m Inv k s u skip by i = k.same s u by i

module _ {a c : Machine} {see : State c.names → State a.names} {from : c.Event → Move a.Event} {Before : State a.names → Type 0}
    {Inv : State c.names → Type 0} (r : Refines a c see from Before Inv) where
  -- the invariants of both machines hold in every state of the refined one
  pub keeps_on : Keeps a Before → Keeps c (λ s. Before (see s) × Inv s)
  keeps_on k =
      record {
        starts = λ s h. (k.starts (see s) (r.starts s h), r.begins s h);
        keeps = λ s e i g. (step_keeps a Before k (see s) (see (c.action s e)) (from e) (r.simulates s e i.0 i.1 g) i.0, r.keeps s e i.0 i.1 g);
        same = λ s t m i. (k.same (see s) (see t) (r.see_same s t m) i.0, r.inv_same s t m i.1);
      }

  -- a step of the refined machine, seen through `see`, is a step of the one before
  pub step_seen : (s t : State c.names) (o : Move c.Event) → Before (see s) × Inv s → MachineStep c s o t → MachineStep a (see s) (seen from o) (see t)
  step_seen s t (event e) i by =
      after_same a (see s) (see t) (see (c.action s e)) (from e) (r.simulates s e i.0 i.1 by.0) (r.see_same (c.action s e) t by.1)
  step_seen s t skip i by = r.see_same s t by

-- ---- the invariants of each refinement, with those of the machines before

module _ (c : Constants) (ax : Axioms c) where
  pub M2-keeps : Keeps (m2.machine c) (m2.All c)
  M2-keeps = keeps_on (M2-refines-M1 c ax) (M1-keeps c ax)

  pub M3-keeps : Keeps (m3.machine c) (m3.All c)
  M3-keeps = keeps_on (M3-refines-M2 c ax) M2-keeps

  pub M4-keeps : Keeps (m4.machine c) (m4.All c)
  M4-keeps = keeps_on (M4-refines-M3 c ax) M3-keeps
