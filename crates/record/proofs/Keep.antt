-- Which changes keep a record sound: a door put anew so that its fields fit, and a person without a grant put where they
-- may be. Assumes nothing.
use Prim.Native.Nat.{ℕ, ◌<◌}
use mathlib.Core.Path.{◌≡◌, refl, sym, subst, ◌∙◌}
use mathlib.Core.Bool.{true}
use mathlib.Core.Logic.{⊎_elim}
use native.Mathlib.Omega.{arith}
use lib.ListN.{length, get_or, set, length-set}
use lib.Seq.{get_or-set_same, get_or-set_other}
use Rattle.tables.specs.Tables.{may_be, most_doors}
use Rattle.door.specs.declared.Door.{Door}
use Rattle.record.specs.declared.record.Record.{Record}
use Rattle.phases.specs.Phase.{grants}
use Rattle.record.specs.Doors.{door_of, put_door, put_at, Shaped}
use Rattle.granting.specs.Grants.{GrantAt}
use Rattle.record.specs.Sound.{DoorOk, Sound}
use Rattle.tables.proofs.Cases.{same_or_not}

-- ---- what is read after a put

pub put_same : (r : Record) → Shaped r → (d : ℕ) (c : Door) → d < most_doors → door_of (put_door r d c) d ≡ c
put_same r sh d c h =
    let p : get_or (set r.phase d c.phase) d 0 ≡ c.phase = get_or-set_same r.phase d c.phase 0 (rw sh.phases h) in
    let q : get_or (set r.holder d c.holder) d 0 ≡ c.holder = get_or-set_same r.holder d c.holder 0 (rw sh.holders h) in
    let n : get_or (set r.count d c.count) d 0 ≡ c.count = get_or-set_same r.count d c.count 0 (rw sh.counts h) in
    λ i. record { phase = p i; holder = q i; count = n i }

pub put_other : (r : Record) (d : ℕ) (c : Door) (e : ℕ) → (e ≡ d → ⊥) → door_of (put_door r d c) e ≡ door_of r e
put_other r d c e ne =
    let p : get_or (set r.phase d c.phase) e 0 ≡ get_or r.phase e 0 = get_or-set_other r.phase d e c.phase 0 ne in
    let q : get_or (set r.holder d c.holder) e 0 ≡ get_or r.holder e 0 = get_or-set_other r.holder d e c.holder 0 ne in
    let n : get_or (set r.count d c.count) e 0 ≡ get_or r.count e 0 = get_or-set_other r.count d e c.count 0 ne in
    λ i. record { phase = p i; holder = q i; count = n i }

pub put_shaped : (r : Record) → Shaped r → (d : ℕ) (c : Door) → Shaped (put_door r d c)
put_shaped r sh d c =
    record {
      origins = sh.origins;
      destinations = sh.destinations;
      exits = sh.exits;
      phases = length-set r.phase d c.phase ∙ sh.phases;
      holders = length-set r.holder d c.holder ∙ sh.holders;
      counts = length-set r.count d c.count ∙ sh.counts;
    }

pub at_shaped : (r : Record) → Shaped r → (p l : ℕ) → Shaped (put_at r p l)
at_shaped r sh p l =
    record {
      origins = sh.origins;
      destinations = sh.destinations;
      exits = sh.exits;
      phases = sh.phases;
      holders = sh.holders;
      counts = sh.counts;
    }

-- a grant that another door holds after a put was held before
pub put_grant : (r : Record) (d : ℕ) (c : Door) (p e : ℕ) → (e ≡ d → ⊥)
    → GrantAt r.doors (set r.phase d c.phase) (set r.holder d c.holder) p e → GrantAt r.doors r.phase r.holder p e
put_grant r d c p e ne g =
    let at : door_of (put_door r d c) e ≡ door_of r e = put_other r d c e ne in
    record {
      exists = g.exists;
      holds = subst (λ (y : Door). grants y.phase ≡ true) at g.holds;
      person = subst (λ (y : Door). y.holder ≡ p) at g.person;
    }

-- ---- a door put anew

-- x stays right for door e when door d is put, unless d is another door and takes a second grant of x's person
carried : (r : Record) → Shaped r → (d : ℕ) (c : Door) → d < most_doors → (e : ℕ) (x : Door)
    → ((e ≡ d → ⊥) → grants x.phase ≡ true → grants c.phase ≡ true → c.holder ≡ x.holder → ⊥)
    → DoorOk r e x → DoorOk (put_door r d c) e x
carried r sh d c h e x apart ok =
    record {
      known = ok.known;
      held = ok.held;
      nobody = ok.nobody;
      least = ok.least;
      most = ok.most;
      alone = alone;
      starts = ok.starts;
      may = ok.may;
    }
  where
    alone : grants x.phase ≡ true → (f : ℕ) → (f ≡ e → ⊥) → GrantAt r.doors (set r.phase d c.phase) (set r.holder d c.holder) x.holder f → ⊥
    alone g f ne other =
        ⊎_elim
        (λ is.
        let at : door_of (put_door r d c) f ≡ c = subst (λ (k : ℕ). door_of (put_door r d c) k ≡ c) (sym is) (put_same r sh d c h) in
        apart (λ ed. ne (is ∙ sym ed)) g (subst (λ (y : Door). grants y.phase ≡ true) at other.holds) (subst (λ (y : Door). y.holder ≡ x.holder) at other.person))
        (λ is_not.
        ok.alone g f ne (put_grant r d c x.holder f is_not other))
        (same_or_not f d)

-- a door put so that its fields fit
pub put_sound : (r : Record) → Shaped r → Sound r → (d : ℕ) (c : Door) → d < r.doors → DoorOk r d c → Sound (put_door r d c)
put_sound r sh s d c h ok =
    record {
      tables = s.tables;
      zero_tables = s.zero_tables;
      zero_places = s.zero_places;
      zero_doors = λ e he. put_other r d c e (λ is. omega arith) ∙ s.zero_doors e he;
      placed = s.placed;
      doors = doors;
    }
  where
    within : d < most_doors
    within = let most = s.tables.in_range.doors_to in omega arith

    doors : (e : ℕ) → e < r.doors → DoorOk (put_door r d c) e (door_of (put_door r d c) e)
    doors e he =
        ⊎_elim
        (λ is.
        subst (λ (k : ℕ). DoorOk (put_door r d c) k (door_of (put_door r d c) k)) (sym is)
        (subst (λ (x : Door). DoorOk (put_door r d c) d x) (sym (put_same r sh d c within)) (carried r sh d c within d c (λ ne. absurd (ne refl)) ok)))
        (λ is_not.
        subst (λ (x : Door). DoorOk (put_door r d c) e x) (sym (put_other r d c e is_not))
        (carried r sh d c within e (door_of r e) (λ ne g gc same. ok.alone gc e is_not (record { exists = he; holds = g; person = sym same })) (s.doors e he)))
        (same_or_not e d)

-- ---- a person put elsewhere

-- a person whom no door has granted, put where they may be
pub at_sound : (r : Record) → Shaped r → Sound r → (p l : ℕ) → p < r.people → may_be r.right p l ≡ true
    → ((e : ℕ) → GrantAt r.doors r.phase r.holder p e → ⊥) → Sound (put_at r p l)
at_sound r sh s p l h may none =
    record {
      tables = rw (length-set r.place p l) s.tables;
      zero_tables = s.zero_tables;
      zero_places = λ q hq. get_or-set_other r.place p q l 0 (λ is. omega arith) ∙ s.zero_places q hq;
      zero_doors = s.zero_doors;
      placed = placed;
      doors = doors;
    }
  where
    within : p < length r.place
    within = let most = s.tables.in_range.people_to in omega arith

    placed : (q : ℕ) → q < r.people → may_be r.right q (get_or (set r.place p l) q 0) ≡ true
    placed q hq =
        ⊎_elim (λ is. subst (λ (k : ℕ). may_be r.right k (get_or (set r.place p l) k 0) ≡ true) (sym is) (rw (get_or-set_same r.place p l 0 within) may))
        (λ is_not. rw (get_or-set_other r.place p q l 0 is_not) (s.placed q hq)) (same_or_not q p)

    doors : (e : ℕ) → e < r.doors → DoorOk (put_at r p l) e (door_of r e)
    doors e he =
        let ok = s.doors e he in
        record {
          known = ok.known;
          held = ok.held;
          nobody = ok.nobody;
          least = ok.least;
          most = ok.most;
          alone = ok.alone;
          starts = λ g. get_or-set_other r.place p (get_or r.holder e 0) l 0 (λ is. none e (record { exists = he; holds = g; person = is })) ∙ ok.starts g;
          may = ok.may;
        }
