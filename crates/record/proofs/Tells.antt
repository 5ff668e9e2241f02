-- The test that the code computes tells soundness exactly: `sound_tells`. Assumes nothing.
use Prim.Native.Nat.{ℕ, ◌+◌, ◌*◌, ◌/◌, ◌%◌, ◌≤◌, ◌<◌}
use mathlib.Core.Path.{◌≡◌, refl, sym, ap, subst, ◌∙◌}
use mathlib.Core.Bool.{Bool, true, false, false≢true}
use mathlib.Core.List.{List}
use mathlib.Core.Logic.{⊎_elim}
use native.Mathlib.Nat.{div-add-mod'}
use native.Mathlib.Omega.{arith}
use borrow.Author.Tests.{ltb-true, ltb-false, lt-ltb, le-ltb}
use lib.ListN.{length, get_or, get_or-eq_default}
use lib.Dec.{ltb, lit≤}
use Rattle.tables.specs.Tables.{Plan, right_at, may_be, or_else, and_also, most_locations, most_doors}
use Rattle.tables.specs.Below.{all_below, Tells}
use Rattle.tables.specs.Rules.{Lawful}
use Rattle.tables.proofs.Answers.{lawful_tells}
use Rattle.tables.proofs.Laws.{clash, not_so as untrue, tell_eq, tell_itself, tell_and, tell_cond, tell_all, tell_as, tell_unless, tell_when}
use Rattle.door_fits.proofs.Fields.{FieldsOk, tell_fields}
use Rattle.door.specs.declared.Door.{Door}
use Rattle.record.specs.declared.record.Record.{Record}
use Rattle.phases.specs.Phase.{keeps, grants, lit, least_count, most_count}
use Rattle.door.specs.Door.{free_door}
use Rattle.record.specs.Doors.{plan_of, door_of, Shaped}
use Rattle.tables.specs.Zero.{ZeroBeyond}
use Rattle.record.specs.Sound.{Sound}
use Rattle.soundness.proofs.Rights.{RightOk, tell_right}
use Rattle.soundness.specs.SoundTest.{zero_at, zero_from, right_fits, rights_fit, place_fits, places_fit, door_fits, doors_fit}
use Rattle.door_fits.specs.Fits.{is_free}
use Rattle.soundness.specs.SoundTest.{grant_fits, grants_fit, zero_beyond, doors_sound, lists_sound}
use Rattle.sole_grants.specs.Sole.{NoTwo}
use Rattle.sole_grants.proofs.Sole.{sole_tells}
use Rattle.record.specs.SoundTest.{sound_b}
use Rattle.tables.proofs.Cases.{below_or_not, same_or_not}

-- what holds below the length of a list, and by default past it, holds everywhere
tell_list : (test : ℕ → Bool) (P : ℕ → Type 0) (n : ℕ) → ((i : ℕ) → Tells (test i) (P i)) → ((i : ℕ) → n ≤ i → P i) → Tells (all_below test n) ((i : ℕ) → P i)
tell_list test P n t past =
    tell_as (λ all i. ⊎_elim (λ h. all i h) (λ h. past i h) (below_or_not i n)) (λ all i _. all i) (tell_all test P n t)

-- ---- the tables beyond the counts

tell_zero : (count : ℕ) (table : List ℕ) → Tells (zero_from count table) ((i : ℕ) → count ≤ i → get_or table i 0 ≡ 0)
unfolding zero_from zero_at
tell_zero count table =
    tell_list (zero_at count table) (λ i. count ≤ i → get_or table i 0 ≡ 0) (length table)
    (λ i. tell_unless (ltb i count) (ltb-false i count) (le-ltb i count) (tell_eq (get_or table i 0) 0))
    (λ i h _. get_or-eq_default table 0 h)

tell_rights : (people locations : ℕ) (right : List Bool) → Tells (rights_fit people locations right) ((i : ℕ) → RightOk people locations right i)
unfolding rights_fit
tell_rights people locations right =
    tell_list (right_fits people locations right) (RightOk people locations right) (length right) (tell_right people locations right)
    (λ i h e. clash e (get_or-eq_default right false h))

-- the test of the tables' ends tells that they hold 0 beyond the counts
module _ (site : Plan) (right : List Bool) where
  rights_end : ZeroBeyond site right → (i : ℕ) → RightOk site.people site.locations right i
  rights_end z i e =
      let e' : right_at right (i / most_locations) (i % most_locations) ≡ true = rw (div-add-mod' i most_locations) e in
      let small : i % most_locations < most_locations = omega arith in (
        ⊎_elim (λ h. h) (λ h. clash e' (z.rights_of (i / most_locations) (i % most_locations) h small)) (below_or_not (i / most_locations) site.people),
        (
          ⊎_elim (λ h. h) (λ h. clash e' (outside (i / most_locations) (i % most_locations) h)) (below_or_not 0 (i % most_locations)),
          ⊎_elim (λ h. h) (λ h. clash e' (z.rights_to (i / most_locations) (i % most_locations) h small)) (below_or_not (i % most_locations) site.locations),
        ),
      )
    where
      outside : (p l : ℕ) → l ≤ 0 → right_at right p l ≡ false
      outside p l h = let zero : l ≡ 0 = omega arith in rw zero (z.rights_to_outside p)

  pub ends_tell : Tells (zero_beyond site right) (ZeroBeyond site right)
  unfolding zero_beyond
  ends_tell =
      tell_as
      (λ t. record {
        origins = t.0;
        destinations = t.1.0;
        exits = t.1.1.0;
        rights_of = λ p l h k. untrue _ (λ e. let a = t.1.1.1.1 (p * most_locations + l) e in omega arith);
        rights_to = λ p l h k. untrue _ (λ e. let a = t.1.1.1.1 (p * most_locations + l) e in omega arith);
        exit_of_outside = t.1.1.1.0;
        rights_to_outside = λ p. untrue _ (λ e. let a = t.1.1.1.1 (p * most_locations + 0) e in omega arith);
      })
      (λ z. (z.origins, (z.destinations, (z.exits, (z.exit_of_outside, rights_end z)))))
      (tell_and (tell_zero site.doors site.origin)
      (tell_and (tell_zero site.doors site.destination)
      (tell_and (tell_zero site.locations site.exit)
      (tell_and (tell_eq (get_or site.exit 0 0) 0) (tell_rights site.people site.locations right)))))

abbrev pub PlaceOk : ℕ → List Bool → List ℕ → ℕ → Type 0
PlaceOk people right place p = (p < people → may_be right p (get_or place p 0) ≡ true) × ((p < people → ⊥) → get_or place p 0 ≡ 0)

pub tell_places : (people : ℕ) (right : List Bool) (place : List ℕ) → Tells (places_fit people right place) ((p : ℕ) → PlaceOk people right place p)
unfolding places_fit place_fits may_be or_else
tell_places people right place =
    tell_list (place_fits people right place) (PlaceOk people right place) (length place)
    (λ p. tell_cond (ltb p people) (ltb-true p people) (lt-ltb p people) (tell_itself _) (tell_eq _ 0))
    (λ p h. let z = get_or-eq_default place 0 h in (λ _. rw z, λ _. z))

-- ---- the doors

tell_free : (c : Door) → Tells (is_free c) (c ≡ free_door)
unfolding is_free
tell_free c =
    tell_as {Q = c ≡ free_door} (λ t i. record { phase = t.0 i; holder = t.1.0 i; count = t.1.1 i })
    (λ e. (ap (λ (x : Door). x.phase) e, (ap (λ (x : Door). x.holder) e, ap (λ (x : Door). x.count) e)))
    (tell_and (tell_eq c.phase 0) (tell_and (tell_eq c.holder 0) (tell_eq c.count 0)))

abbrev AtDoor : Record → ℕ → Type 0
AtDoor r d = (d < r.doors → FieldsOk r.people (door_of r d)) × ((d < r.doors → ⊥) → door_of r d ≡ free_door)

-- past the arrays' ends every door reads as free
past_free : (r : Record) → Shaped r → (d : ℕ) → most_doors ≤ d → door_of r d ≡ free_door
past_free r sh d h =
    let p : get_or r.phase d 0 ≡ 0 = get_or-eq_default r.phase 0 (rw sh.phases h) in
    let q : get_or r.holder d 0 ≡ 0 = get_or-eq_default r.holder 0 (rw sh.holders h) in
    let n : get_or r.count d 0 ≡ 0 = get_or-eq_default r.count 0 (rw sh.counts h) in
    λ i. record { phase = p i; holder = q i; count = n i }

free_fields : (people : ℕ) → FieldsOk people free_door
unfolding keeps and_also least_count lit or_else most_count
free_fields people = (lit≤ tt, ((λ e. absurd (false≢true e), λ _. refl), (lit≤ tt, lit≤ tt)))

tell_doors : (r : Record) → Shaped r → Tells (doors_fit r.people r.doors r.phase r.holder r.count) ((d : ℕ) → AtDoor r d)
unfolding doors_fit door_fits
tell_doors r sh =
    tell_list (door_fits r.people r.doors r.phase r.holder r.count) (AtDoor r) most_doors
    (λ d. tell_cond (ltb d r.doors) (ltb-true d r.doors) (lt-ltb d r.doors) (tell_fields r.people (door_of r d)) (tell_free (door_of r d)))
    (λ d h. let z = past_free r sh d h in (λ _. subst (FieldsOk r.people) (sym z) (free_fields r.people), λ _. z))

abbrev GrantOk : Record → ℕ → Type 0
GrantOk r d =
    grants (get_or r.phase d 0) ≡ true
    → (get_or r.place (get_or r.holder d 0) 0 ≡ get_or r.origin d 0) × (may_be r.right (get_or r.holder d 0) (get_or r.destination d 0) ≡ true)

tell_grants : (r : Record) → Tells (grants_fit (plan_of r) r.right r.place r.phase r.holder) ((d : ℕ) → d < r.doors → GrantOk r d)
unfolding grants_fit grant_fits
tell_grants r =
    tell_all (grant_fits (plan_of r) r.right r.place r.phase r.holder) (GrantOk r) r.doors
    (λ d. tell_when (grants (get_or r.phase d 0)) (tell_and (tell_eq _ (get_or r.origin d 0)) (tell_itself _)))

-- ---- the whole

-- what the tests tell, each
record Parts (r : Record) : Type 0 where
  lawful : Lawful (length r.place) (plan_of r) r.right
  ends : ZeroBeyond (plan_of r) r.right
  places : (p : ℕ) → PlaceOk r.people r.right r.place p
  doors : (d : ℕ) → AtDoor r d
  grant : (d : ℕ) → d < r.doors → GrantOk r d
  sole : NoTwo r.doors r.phase r.holder

tell_parts : (r : Record) → Shaped r → Tells (sound_b r) (Parts r)
unfolding sound_b lists_sound doors_sound
tell_parts r sh =
    tell_as
    (λ t. record { lawful = t.0; ends = t.1.0; places = t.1.1.0; doors = t.1.1.1.0; grant = t.1.1.1.1.0; sole = t.1.1.1.1.1 })
    (λ p. (p.lawful, (p.ends, (p.places, (p.doors, (p.grant, p.sole))))))
    (tell_and (lawful_tells (length r.place) (plan_of r) r.right)
    (tell_and (ends_tell (plan_of r) r.right)
    (tell_and (tell_places r.people r.right r.place)
    (tell_and (tell_doors r sh) (tell_and (tell_grants r) (sole_tells r.doors r.phase r.holder))))))

parts_sound : (r : Record) → Parts r → Sound r
parts_sound r t =
    record {
      tables = t.lawful;
      zero_tables = t.ends;
      zero_places = λ p h. (t.places p).1 (λ k. omega arith);
      zero_doors = λ d h. (t.doors d).1 (λ k. omega arith);
      placed = λ p h. (t.places p).0 h;
      doors = λ d h.
          let f = (t.doors d).0 h in
          record {
            known = f.0;
            held = f.1.0.0;
            nobody = λ e. f.1.0.1 (λ k. false≢true (sym e ∙ k));
            least = f.1.1.0;
            most = f.1.1.1;
            alone = λ g e ne other. ne (t.sole _ e d other (record { exists = h; holds = g; person = refl }));
            starts = λ g. (t.grant d h g).0;
            may = λ g. (t.grant d h g).1;
          };
    }

at_least : {a b : ℕ} → (a < b → ⊥) → b ≤ a
at_least {a} {b} k = ⊎_elim (λ h. absurd (k h)) (λ h. h) (below_or_not a b)

sound_parts : (r : Record) → Sound r → Parts r
sound_parts r s =
    record {
      lawful = s.tables;
      ends = s.zero_tables;
      places = λ p. (s.placed p, λ k. s.zero_places p (at_least k));
      doors = λ d. (fields d, λ k. s.zero_doors d (at_least k));
      grant = λ d h g. ((s.doors d h).starts g, (s.doors d h).may g);
      sole = sole;
    }
  where
    fields : (d : ℕ) → d < r.doors → FieldsOk r.people (door_of r d)
    fields d h = let o = s.doors d h in (o.known, ((o.held, λ k. o.nobody (untrue _ k)), (o.least, o.most)))

    sole : NoTwo r.doors r.phase r.holder
    sole p d e here there =
        ⊎_elim (λ is. is)
        (λ ne. absurd ((s.doors d here.exists).alone here.holds e (λ is. ne (sym is)) (record { exists = there.exists; holds = there.holds; person = there.person ∙ sym here.person })))
        (same_or_not d e)

-- the test tells soundness
pub sound_tells : (r : Record) → Shaped r → Tells (sound_b r) (Sound r)
sound_tells r sh = tell_as (parts_sound r) (sound_parts r) (tell_parts r sh)
