-- The events of each machine keep its invariants. Assumes nothing.
use Prim.Native.Nat.{ℕ}
use mathlib.Core.Path.{◌≡◌, refl, sym, subst, ap, ◌∙◌}
use mathlib.Core.Bool.{Bool, true, false, cond}
use mathlib.Core.Logic.Iff
use mathlib.Core.Logic.{◌⊎◌, inl, inr, ⊎_elim, ⊎_map}
use borrow.Author.Tests.{eqb-true, ne_eqb}
use lib.Dec.{eqb}
use Rattle.machines.specs.Sets.{Set, Relation, Partial, Empty, only, dom, ran, ◌∪◌, ◌∩◌, ◌∖◌, ◌⊆◌, ◌≐◌}
use Rattle.machines.specs.Context.{Constants, Axioms}
use Rattle.machines.specs.Machines.{State, Same, ◌▹◌, ◌∪=◌, ◌∖=◌, ◌⩥=◌}
use Rattle.machines.specs.M0 as m0
use Rattle.machines.specs.M2 as m2
use Rattle.machines.specs.M3 as m3
use Rattle.machines.specs.M3.{dap, m_card}
use Rattle.machines.specs.M4 as m4
use Rattle.machines.proofs.Algebra.{comes_left, comes_right, goes_left, goes_right, Parts, comes_first, first_to_second, second_to_last, leaves_last, parts_same}

-- ---- states that are the same have the same invariants

module _ (c : Constants) where
  pub same0 : (s t : State m0.names) → Same t s → m0.Inv c s → m0.Inv c t
  same0 s t m i =
      record {
        inv0_1 = λ p h. subst c.L (sym (m.sit p)) (i.inv0_1 p h);
        inv0_2 = λ p h. subst (c.aut p) (sym (m.sit p)) (i.inv0_2 p h);
      }

  pub same2 : (s t : State m2.names) → Same t s → m2.Inv c s → m2.Inv c t
  same2 s t m i =
      record {
        inv2_1 = record {
          «function» = record {
            between = λ p d g. i.inv2_1.«function».between p d ((m.map m2.dap p d).0 g);
            one = λ p d e g h. i.inv2_1.«function».one p d e ((m.map m2.dap p d).0 g) ((m.map m2.dap p e).0 h);
          };
          back = λ p q d g h. i.inv2_1.back p q d ((m.map m2.dap p d).0 g) ((m.map m2.dap q d).0 h);
        };
        inv2_2 = λ p d g. m.sit p ∙ i.inv2_2 p d ((m.map m2.dap p d).0 g);
        inv2_3 = λ p d g. i.inv2_3 p d ((m.map m2.dap p d).0 g);
        inv2_4 = λ d g. i.inv2_4 d ((m.set m2.grn d).0 g);
        inv2_5 = λ d g. i.inv2_5 d ((m.set m2.red d).0 g);
        inv2_6 = λ d. (
          λ g. let q = (i.inv2_6 d).0 ((m.set m2.grn d).0 g) in (q.0, (m.map m2.dap q.0 d).1 q.1),
          λ g. (m.set m2.grn d).1 ((i.inv2_6 d).1 (g.0, (m.map m2.dap g.0 d).0 g.1)),
        );
        inv2_7 = λ d g. i.inv2_7 d ((m.set m2.grn d).0 g.0, (m.set m2.red d).0 g.1);
      }

-- ---- the initial model and the first refinement

-- what holds of l, if q is p, and of where q was holds of where q is once p went to l
gone : (P : ℕ → Type 0) (p l q was : ℕ) → (q ≡ p → P l) → P was → P (cond (eqb q p) l was)
gone P p l q was new old = go (eqb q p) refl
  where
    go : (t : Bool) → eqb q p ≡ t → P (cond t l was)
    go true e = new (eqb-true q p e)
    go false e = old

module _ (c : Constants) (ax : Axioms c) where
  pub begins0 : (s : State m0.names) → m0.Start c s → m0.Inv c s
  begins0 s h =
      record {
        inv0_1 = λ p x. subst c.L (sym (h p x)) ax.axm0_2;
        inv0_2 = λ p x. subst (c.aut p) (sym (h p x)) (ax.axm0_3 p x);
      }

  -- a person who goes where they are authorized to be
  pub keeps0 : (s : State m0.names) (p l : ℕ) → c.aut p l → m0.Inv c s → m0.Inv c (m0.action c s (m0.pass p l))
  keeps0 s p l a i =
      record {
        inv0_1 = λ q h. gone c.L p l q (s.sit q) (λ _. (ax.axm0_1 p l a).1) (i.inv0_1 q h);
        inv0_2 = λ q h. gone (c.aut q) p l q (s.sit q) (λ is. subst (λ (x : ℕ). c.aut x l) (sym is) a) (i.inv0_2 q h);
      }

  -- ---- the second refinement

  pub begins2 : (s : State m2.names) → m2.Start c s → m2.Inv c s
  begins2 s h =
      record {
        inv2_1 = record {
          «function» = record { between = λ p d g. absurd (h.maps m2.dap p d g); one = λ p d e g. absurd (h.maps m2.dap p d g) };
          back = λ p q d g. absurd (h.maps m2.dap p d g);
        };
        inv2_2 = λ p d g. absurd (h.maps m2.dap p d g);
        inv2_3 = λ p d g. absurd (h.maps m2.dap p d g);
        inv2_4 = λ d g. absurd (h.sets m2.grn d g);
        inv2_5 = λ d g. absurd (h.sets m2.red d g);
        inv2_6 = λ d. (λ g. absurd (h.sets m2.grn d g), λ g. absurd (h.maps m2.dap g.0 d g.1));
        inv2_7 = λ d g. h.sets m2.grn d g.0;
      }

  -- door d lets go of its person, and everybody who has another door stays where they are
  module _ (s : State m2.names) (i : m2.Inv c s) (d : ℕ) where
    frees2 : (sit : ℕ → ℕ) → ((q e : ℕ) → s.map m2.dap q e → (e ≡ d → ⊥) → sit q ≡ s.sit q)
        → m2.Inv c (record { sit = sit; set = s.set; map = s.map } ▹ m2.dap ⩥= d ▹ m2.grn ∖= d)
    frees2 sit stay =
        record {
          inv2_1 = record {
            «function» = record {
              between = λ p e g. i.inv2_1.«function».between p e g.0;
              one = λ p e f g h. i.inv2_1.«function».one p e f g.0 h.0;
            };
            back = λ p q e g h. i.inv2_1.back p q e g.0 h.0;
          };
          inv2_2 = λ p e g. stay p e g.0 g.1 ∙ i.inv2_2 p e g.0;
          inv2_3 = λ p e g. i.inv2_3 p e g.0;
          inv2_4 = λ e g. i.inv2_4 e g.0;
          inv2_5 = i.inv2_5;
          inv2_6 = λ e. (
            λ g. let q = (i.inv2_6 e).0 g.0 in (q.0, (q.1, g.1)),
            λ g. ((i.inv2_6 e).1 (g.0, g.1.0), g.1.1),
          );
          inv2_7 = λ e g. i.inv2_7 e (g.0.0, g.1);
        }

    accepts2 : (p : ℕ) → m2.Guard c s (m2.accept p d) → m2.Inv c (m2.action c s (m2.accept p d))
    accepts2 p g =
        record {
          inv2_1 = record { «function» = record { between = between; one = one }; back = back };
          inv2_2 = origin;
          inv2_3 = right;
          inv2_4 = doors;
          inv2_5 = i.inv2_5;
          inv2_6 = λ e. (to e, λ x. from e x.0 x.1);
          inv2_7 = λ e x. apart e x.0 x.1;
        }
      where
        Dap : Relation
        Dap q e = ((q ≡ p) × (e ≡ d)) ⊎ ((q ≡ p → ⊥) × s.map m2.dap q e)

        -- nobody else has this door
        untaken : (q e : ℕ) → e ≡ d → s.map m2.dap q e → ⊥
        untaken q e is m = g.2 (inl ((i.inv2_6 d).1 (q, subst (s.map m2.dap q) is m)))

        between : (q e : ℕ) → Dap q e → c.P q × c.D e
        between q e (inl m) = (subst c.P (sym m.0) g.0, subst c.D (sym m.1) g.1)
        between q e (inr m) = i.inv2_1.«function».between q e m.1

        one : (q e f : ℕ) → Dap q e → Dap q f → e ≡ f
        one q e f (inl m) (inl n) = m.1 ∙ sym n.1
        one q e f (inl m) (inr n) = absurd (n.0 m.0)
        one q e f (inr m) (inl n) = absurd (m.0 n.0)
        one q e f (inr m) (inr n) = i.inv2_1.«function».one q e f m.1 n.1

        back : (q o e : ℕ) → Dap q e → Dap o e → q ≡ o
        back q o e (inl m) (inl n) = m.0 ∙ sym n.0
        back q o e (inl m) (inr n) = absurd (untaken o e m.1 n.1)
        back q o e (inr m) (inl n) = absurd (untaken q e n.1 m.1)
        back q o e (inr m) (inr n) = i.inv2_1.back q o e m.1 n.1

        origin : (q e : ℕ) → Dap q e → s.sit q ≡ c.org e
        origin q e (inl m) = ap s.sit m.0 ∙ g.3.situated ∙ sym (ap c.org m.1)
        origin q e (inr m) = i.inv2_2 q e m.1

        right : (q e : ℕ) → Dap q e → c.aut q (c.dst e)
        right q e (inl m) = subst (λ (x : ℕ). c.aut q (c.dst x)) (sym m.1) (subst (λ (x : ℕ). c.aut x (c.dst d)) (sym m.0) g.3.authorized)
        right q e (inr m) = i.inv2_3 q e m.1

        doors : (e : ℕ) → (s.set m2.grn ∪ only d) e → c.D e
        doors e (inl x) = i.inv2_4 e x
        doors e (inr is) = subst c.D (sym is) g.1

        to : (e : ℕ) → (s.set m2.grn ∪ only d) e → ran Dap e
        to e (inl x) = let q = (i.inv2_6 e).0 x in (q.0, inr (λ is. g.3.uninvolved (e, subst (λ (y : ℕ). s.map m2.dap y e) is q.1), q.1))
        to e (inr is) = (p, inl (refl, is))

        from : (e q : ℕ) → Dap q e → (s.set m2.grn ∪ only d) e
        from e q (inl m) = inr m.1
        from e q (inr m) = inl ((i.inv2_6 e).1 (q, m.1))

        apart : (e : ℕ) → (s.set m2.grn ∪ only d) e → s.set m2.red e → ⊥
        apart e (inl x) y = i.inv2_7 e (x, y)
        apart e (inr is) y = g.2 (inr (subst (s.set m2.red) is y))

    refuses2 : c.D d → (s.set m2.grn d → ⊥) → m2.Inv c (s ▹ m2.red ∪= d)
    refuses2 h unlit =
        record {
          inv2_1 = i.inv2_1;
          inv2_2 = i.inv2_2;
          inv2_3 = i.inv2_3;
          inv2_4 = i.inv2_4;
          inv2_5 = doors;
          inv2_6 = i.inv2_6;
          inv2_7 = λ e x. apart e x.0 x.1;
        }
      where
        doors : (e : ℕ) → (s.set m2.red ∪ only d) e → c.D e
        doors e (inl x) = i.inv2_5 e x
        doors e (inr is) = subst c.D (sym is) h

        apart : (e : ℕ) → s.set m2.grn e → (s.set m2.red ∪ only d) e → ⊥
        apart e x (inl y) = i.inv2_7 e (x, y)
        apart e x (inr is) = unlit (subst (s.set m2.grn) is x)

    dims2 : m2.Inv c (s ▹ m2.red ∖= d)
    dims2 =
        record {
          inv2_1 = i.inv2_1;
          inv2_2 = i.inv2_2;
          inv2_3 = i.inv2_3;
          inv2_4 = i.inv2_4;
          inv2_5 = λ e x. i.inv2_5 e x.0;
          inv2_6 = i.inv2_6;
          inv2_7 = λ e x. i.inv2_7 e (x.0, x.1.0);
        }

  pub keeps2 : (s : State m2.names) (e : m2.Event) → m2.Inv c s → m2.Guard c s e → m2.Inv c (m2.action c s e)
  keeps2 s (m2.accept p d) i g = accepts2 s i d p g
  keeps2 s (m2.refuse p d) i g = refuses2 s i d g.1 (λ x. g.2 (inl x))
  keeps2 s (m2.pass p d) i g =
      frees2 s i d _
      (λ q e m ne.
      let other : q ≡ p → ⊥ = λ is. ne (i.inv2_1.«function».one p e d (subst (λ (x : ℕ). s.map m2.dap x e) is m) g.1) in
      rw (ne_eqb q p other))
  keeps2 s (m2.off_grn d) i g = frees2 s i d s.sit (λ q e m ne. refl)
  keeps2 s (m2.off_red d) i g = dims2 s i d

-- ---- the third refinement

-- dom(m_card), the doors that are lit, and m_ackn
abbrev Situations : State m3.names → Type 0
Situations s = Parts (dom (s.map m_card)) (s.set m3.grn ∪ s.set m3.red) (s.set m3.m_ackn) (s.set m3.BLR)

-- one of four, or one of three with two of them as one
module _ {K G R A : Type 0} where
  three : K ⊎ G ⊎ R ⊎ A → K ⊎ (G ⊎ R) ⊎ A
  three (inl k) = inl k
  three (inr (inl g)) = inr (inl (inl g))
  three (inr (inr (inl r))) = inr (inl (inr r))
  three (inr (inr (inr a))) = inr (inr a)

  four : K ⊎ (G ⊎ R) ⊎ A → K ⊎ G ⊎ R ⊎ A
  four (inl k) = inl k
  four (inr (inl (inl g))) = inr (inl g)
  four (inr (inl (inr r))) = inr (inr (inl r))
  four (inr (inr a)) = inr (inr (inr a))

module _ {G R A : Type 0} where
  lit : G ⊎ R ⊎ A → (G ⊎ R) ⊎ A
  lit (inl g) = inl (inl g)
  lit (inr (inl r)) = inl (inr r)
  lit (inr (inr a)) = inr a

  unlit : (G ⊎ R) ⊎ A → G ⊎ R ⊎ A
  unlit (inl (inl g)) = inl g
  unlit (inl (inr r)) = inr (inl r)
  unlit (inr a) = inr (inr a)

module _ (c : Constants) (s : State m3.names) where
  situations : m3.Inv c s → Situations s
  situations i =
      record {
        all = λ x. (λ y. (i.inv3_4 x).0 (four y), λ y. three ((i.inv3_4 x).1 y));
        first = λ x y. i.inv3_5 x (y.0, unlit y.1);
        last = i.inv3_6;
      }

  by_situations : (s.set m3.BLR) ⊆ c.D → Partial c.D c.P (s.map m_card) → Situations s → m3.Inv c s
  by_situations doors cards p =
      record {
        inv3_1 = doors;
        inv3_2 = cards;
        inv3_3 = λ x a. doors x ((p.all x).0 (inr (inr a)));
        inv3_4 = λ x. (λ y. (p.all x).0 (three y), λ y. four ((p.all x).1 y));
        inv3_5 = λ x y. p.first x (y.0, lit y.1);
        inv3_6 = p.last;
      }

module _ (c : Constants) where
  pub same3 : (s t : State m3.names) → Same t s → m3.Inv c s → m3.Inv c t
  same3 s t m i =
      by_situations c t (λ d x. i.inv3_1 d ((m.set m3.BLR d).0 x))
      (record {
        between = λ d p x. i.inv3_2.between d p ((m.map m_card d p).0 x);
        one = λ d p q x y. i.inv3_2.one d p q ((m.map m_card d p).0 x) ((m.map m_card d q).0 y);
      })
      (parts_same _ _ _ _ (λ d. (λ x. (x.0, (m.map m_card d x.0).0 x.1), λ x. (x.0, (m.map m_card d x.0).1 x.1)))
      (λ d. (⊎_map (m.set m3.grn d).0 (m.set m3.red d).0, ⊎_map (m.set m3.grn d).1 (m.set m3.red d).1))
      (m.set m3.m_ackn) (m.set m3.BLR) (situations c s i))

  pub begins3 : (s : State m3.names) → m3.Start c s → m3.Inv c s
  begins3 s h =
      by_situations c s (λ d x. absurd (h.sets m3.BLR d x))
      (record { between = λ d p x. absurd (h.maps m_card d p x); one = λ d p q x. absurd (h.maps m_card d p x) })
      (record {
        all = λ d. (λ x. absurd (none d x), λ x. absurd (h.sets m3.BLR d x));
        first = λ d x. h.maps m_card d x.0.0 x.0.1;
        last = λ d x. h.sets m3.m_ackn d x.0;
      })
    where
      none : (d : ℕ) → (dom (s.map m_card) ∪ (s.set m3.grn ∪ s.set m3.red) ∪ s.set m3.m_ackn) d → ⊥
      none d (inl x) = h.maps m_card d x.0 x.1
      none d (inr (inl (inl x))) = h.sets m3.grn d x
      none d (inr (inl (inr x))) = h.sets m3.red d x
      none d (inr (inr x)) = h.sets m3.m_ackn d x

  module _ (s : State m3.names) (i : m3.Inv c s) (d : ℕ) where
    -- a card is taken from a reader that isn't blocked
    cards3 : (p : ℕ) → m3.Guard c s (m3.CARD p d) → m3.Inv c (m3.action c s (m3.CARD p d))
    cards3 p g =
        by_situations c _ doors (record { between = between; one = one })
        (comes_first (situations c s i) d _ (λ e. (λ x. came e x.0 x.1, λ x. had e x)) g.2)
      where
        Card : Relation
        Card e q = s.map m_card e q ⊎ ((e ≡ d) × (q ≡ p))

        unread : (e q : ℕ) → e ≡ d → s.map m_card e q → ⊥
        unread e q is x = g.2 (subst (s.set m3.BLR) is ((i.inv3_4 e).0 (inl (q, x))))

        doors : (e : ℕ) → (s.set m3.BLR ∪ only d) e → c.D e
        doors e (inl x) = i.inv3_1 e x
        doors e (inr is) = subst c.D (sym is) g.1

        between : (e q : ℕ) → Card e q → c.D e × c.P q
        between e q (inl x) = i.inv3_2.between e q x
        between e q (inr x) = (subst c.D (sym x.0) g.1, subst c.P (sym x.1) g.0)

        one : (e q o : ℕ) → Card e q → Card e o → q ≡ o
        one e q o (inl x) (inl y) = i.inv3_2.one e q o x y
        one e q o (inl x) (inr y) = absurd (unread e q y.0 x)
        one e q o (inr x) (inl y) = absurd (unread e o x.0 y)
        one e q o (inr x) (inr y) = x.1 ∙ sym y.1

        came : (e q : ℕ) → Card e q → (dom (s.map m_card) ∪ only d) e
        came e q (inl x) = inl (q, x)
        came e q (inr x) = inr x.0

        had : (e : ℕ) → (dom (s.map m_card) ∪ only d) e → dom Card e
        had e (inl x) = (x.0, inl x.1)
        had e (inr is) = (p, inr (is, refl))

    -- what is left of m_card when the card at door d is decided
    module _ (p : ℕ) (card : s.map m_card d p) where
      fewer : Partial c.D c.P (λ e q. s.map m_card e q × ((e ≡ d) × (q ≡ p) → ⊥))
      fewer = record { between = λ e q x. i.inv3_2.between e q x.0; one = λ e q o x y. i.inv3_2.one e q o x.0 y.0 }

      decided : dom (λ e q. s.map m_card e q × ((e ≡ d) × (q ≡ p) → ⊥)) ≐ (dom (s.map m_card) ∖ only d)
      decided e = (
        λ x. ((x.0, x.1.0), λ is. x.1.1 (is, i.inv3_2.one d x.0 p (subst (λ (y : ℕ). s.map m_card y x.0) is x.1.0) card)),
        λ x. (x.0.0, (x.0.1, λ y. x.1 y.0)),
      )

  pub keeps3 : (s : State m3.names) (e : m3.Event) → m2.Inv c (m3.see s) → m3.Inv c s → m3.Guard c s e → m3.Inv c (m3.action c s e)
  keeps3 s (m3.CARD p d) b i g = cards3 s i d p g
  keeps3 s (m3.accept p d) b i g =
      by_situations c _ i.inv3_1 (fewer s i d p g.0)
      (first_to_second (situations c s i) d _ _ (decided s i d p g.0) (comes_left (s.set m3.grn) (s.set m3.red) d) (p, g.0))
  keeps3 s (m3.refuse p d) b i g =
      by_situations c _ i.inv3_1 (fewer s i d p g.0)
      (first_to_second (situations c s i) d _ _ (decided s i d p g.0) (comes_right (s.set m3.grn) (s.set m3.red) d) (p, g.0))
  keeps3 s (m3.pass p d) b i g =
      by_situations c _ i.inv3_1 i.inv3_2
      (second_to_last (situations c s i) d _ (goes_left (s.set m3.grn) (s.set m3.red) d (λ x. b.inv2_7 d (g.0, x))) (inl g.0))
  keeps3 s (m3.off_grn d) b i g =
      by_situations c _ i.inv3_1 i.inv3_2
      (second_to_last (situations c s i) d _ (goes_left (s.set m3.grn) (s.set m3.red) d (λ x. b.inv2_7 d (g, x))) (inl g))
  keeps3 s (m3.off_red d) b i g =
      by_situations c _ i.inv3_1 i.inv3_2
      (second_to_last (situations c s i) d _ (goes_right (s.set m3.grn) (s.set m3.red) d _ (λ x. Iff.rfl) (λ x. b.inv2_7 d (x, g))) (inr g))
  keeps3 s (m3.ACKN d) b i g = by_situations c _ (λ e x. i.inv3_1 e x.0) i.inv3_2 (leaves_last (situations c s i) d g)

-- ---- the fourth refinement

pub same4 : (s t : State m4.names) → Same t s → m4.Inv (m4.see s) s → m4.Inv (m4.see t) t
same4 s t m i =
    record {
      inv4_1 = λ d. Iff.rfl;
      inv4_2 = λ d x. i.inv4_2 d ((m.set m4.m_accept d).0 x.0, ⊎_map (m.set m4.m_pass d).0 (m.set m4.m_off_grn d).0 x.1);
      inv4_3 = λ d x. i.inv4_3 d ((m.set m4.m_pass d).0 x.0, (m.set m4.m_off_grn d).0 x.1);
      inv4_4 = λ d x. (m.set m4.m_accept d).1 (i.inv4_4 d ((m.set m4.GRN d).0 x));
      inv4_5 = λ d. Iff.rfl;
      inv4_6 = λ d x. i.inv4_6 d ((m.set m4.m_refuse d).0 x.0, (m.set m4.m_off_red d).0 x.1);
      inv4_7 = λ d x. (m.set m4.m_refuse d).1 (i.inv4_7 d ((m.set m4.RED d).0 x));
    }

pub begins4 : (c : Constants) (s : State m4.names) → m4.Start c s → m4.Inv (m4.see s) s
begins4 c s h =
    record {
      inv4_1 = λ d. Iff.rfl;
      inv4_2 = λ d x. h.sets m4.m_accept d x.0;
      inv4_3 = λ d x. h.sets m4.m_pass d x.0;
      inv4_4 = λ d x. absurd (h.sets m4.GRN d x);
      inv4_5 = λ d. Iff.rfl;
      inv4_6 = λ d x. h.sets m4.m_refuse d x.0;
      inv4_7 = λ d x. absurd (h.sets m4.RED d x);
    }

-- A chain by itself: doors that have their order, among them those whose light burns, then those that were walked through and
-- those whose time is over. Nobody walks through a red one.
record Chain (A G P O : Set) : Type 0 where
  apart : Empty (A ∩ (P ∪ O))
  ends : Empty (P ∩ O)
  burns : G ⊆ A

module _ {A G P O : Set} (h : Chain A G P O) (d : ℕ) where
  ordered : ((P ∪ O) d → ⊥) → Chain (A ∪ only d) G P O
  ordered lacks = record { apart = λ x y. apart x y.0 y.1; ends = h.ends; burns = λ x g. inl (h.burns x g) }
    where
      apart : (x : ℕ) → (A ∪ only d) x → (P ∪ O) x → ⊥
      apart x (inl a) y = h.apart x (a, y)
      apart x (inr e) y = lacks (subst (P ∪ O) e y)

  lights : A d → Chain A (G ∪ only d) P O
  lights a = record { apart = h.apart; ends = h.ends; burns = λ x. ⊎_elim (h.burns x) (λ e. subst A (sym e) a) }

  walks : G d → Chain (A ∖ only d) (G ∖ only d) (P ∪ only d) O
  walks g =
      record {
        apart = λ x y. apart x y.0 y.1;
        ends = λ x y. ends x y.0 y.1;
        burns = λ x y. (h.burns x y.0, y.1);
      }
    where
      apart : (x : ℕ) → (A ∖ only d) x → ((P ∪ only d) ∪ O) x → ⊥
      apart x a (inl (inl y)) = h.apart x (a.0, inl y)
      apart x a (inl (inr e)) = a.1 e
      apart x a (inr y) = h.apart x (a.0, inr y)

      ends : (x : ℕ) → (P ∪ only d) x → O x → ⊥
      ends x (inl y) o = h.ends x (y, o)
      ends x (inr e) o = h.apart x (subst A (sym e) (h.burns d g), inr o)

  expires : G d → Chain (A ∖ only d) (G ∖ only d) P (O ∪ only d)
  expires g =
      record {
        apart = λ x y. apart x y.0 y.1;
        ends = λ x y. ends x y.0 y.1;
        burns = λ x y. (h.burns x y.0, y.1);
      }
    where
      apart : (x : ℕ) → (A ∖ only d) x → (P ∪ (O ∪ only d)) x → ⊥
      apart x a (inl y) = h.apart x (a.0, inl y)
      apart x a (inr (inl y)) = h.apart x (a.0, inr y)
      apart x a (inr (inr e)) = a.1 e

      ends : (x : ℕ) → P x → (O ∪ only d) x → ⊥
      ends x y (inl o) = h.ends x (y, o)
      ends x y (inr e) = h.apart x (subst A (sym e) (h.burns d g), inl y)

  passes : Chain A G (P ∖ only d) O
  passes =
      record {
        apart = λ x y. h.apart x (y.0, ⊎_map (λ z. z.0) (λ z. z) y.1);
        ends = λ x y. h.ends x (y.0.0, y.1);
        burns = h.burns;
      }

  lapses : Chain A G P (O ∖ only d)
  lapses =
      record {
        apart = λ x y. h.apart x (y.0, ⊎_map (λ z. z) (λ z. z.0) y.1);
        ends = λ x y. h.ends x (y.0, y.1.0);
        burns = h.burns;
      }

Green : State m4.names → Type 0
Green s = Chain (s.set m4.m_accept) (s.set m4.GRN) (s.set m4.m_pass) (s.set m4.m_off_grn)

Red : State m4.names → Type 0
Red s = Chain (s.set m4.m_refuse) (s.set m4.RED) (λ x. ⊥) (s.set m4.m_off_red)

by_chains : (s : State m4.names) → Green s → Red s → m4.Inv (m4.see s) s
unfolding Green Red
by_chains s g r =
    record {
      inv4_1 = λ d. Iff.rfl;
      inv4_2 = g.apart;
      inv4_3 = g.ends;
      inv4_4 = g.burns;
      inv4_5 = λ d. Iff.rfl;
      inv4_6 = λ d x. r.apart d (x.0, inr x.1);
      inv4_7 = r.burns;
    }

green : (s : State m4.names) → m4.Inv (m4.see s) s → Green s
unfolding Green
green s i = record { apart = i.inv4_2; ends = i.inv4_3; burns = i.inv4_4 }

red : (s : State m4.names) → m4.Inv (m4.see s) s → Red s
unfolding Red
red s i = record { apart = λ x y. ⊎_elim (λ z. z) (λ o. i.inv4_6 x (y.0, o)) y.1; ends = λ x y. y.0; burns = i.inv4_7 }

pub keeps4 : (c : Constants) (s : State m4.names) (e : m4.Event) → m3.Inv c (m4.see s) → m4.Inv (m4.see s) s → m4.Guard c s e
    → m4.Inv (m4.see (m4.action c s e)) (m4.action c s e)
unfolding Green Red
keeps4 c s (m4.CARD p d) b i g = by_chains _ (green s i) (red s i)
keeps4 c s (m4.accept p d) b i g = by_chains _ (ordered (green s i) d (λ x. b.inv3_5 d ((p, g.0), inl (inr x)))) (red s i)
keeps4 c s (m4.refuse p d) b i g = by_chains _ (green s i) (ordered (red s i) d (⊎_elim (λ z. z) (λ x. b.inv3_5 d ((p, g.0), inr (inl (inr x))))))
keeps4 c s (m4.pass p d) b i g = by_chains _ (passes (green s i) d) (red s i)
keeps4 c s (m4.ACCEPT d) b i g = by_chains _ (lights (green s i) d g) (red s i)
keeps4 c s (m4.PASS d) b i g = by_chains _ (walks (green s i) d g) (red s i)
keeps4 c s (m4.OFF-GRN d) b i g = by_chains _ (expires (green s i) d g) (red s i)
keeps4 c s (m4.off_grn d) b i g = by_chains _ (lapses (green s i) d) (red s i)
keeps4 c s (m4.REFUSE d) b i g = by_chains _ (green s i) (lights (red s i) d g)
keeps4 c s (m4.OFF-RED d) b i g = by_chains _ (green s i) (expires (red s i) d g)
keeps4 c s (m4.off_red d) b i g = by_chains _ (green s i) (lapses (red s i) d)
keeps4 c s (m4.ACKN d) b i g = by_chains _ (green s i) (red s i)
