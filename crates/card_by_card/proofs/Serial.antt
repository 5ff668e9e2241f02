-- One card served at a door that is free, step by step: what each step of the service does, its ticks, and the whole service of a
-- refusal, a lapse and a passage; and so at a record whose doors are all free. Assumes nothing.
use Prim.Native.Nat.{ℕ, zero, suc, ◌<◌, ◌-◌}
use mathlib.Core.Path.{◌≡◌, refl, sym, ap, subst, ◌∙◌}
use mathlib.Core.Bool.{true, false, false≢true}
use mathlib.Core.Logic.{⊎_elim}
use mathlib.Core.List.{List, [], ◌∷◌}
use native.Mathlib.Omega.{arith}
use borrow.Author.Tests.{lt-ltb, ne_eqb}
use lib.ListN.{get_or, set}
use lib.Dec.{eqb}
use lib.Seq.{set-set, set-get_or}
use Rattle.tables.specs.Tables.{may_be, and_also, most_doors}
use Rattle.tables.proofs.Laws.{clash}
use Rattle.door.specs.declared.Door.{Door}
use Rattle.record.specs.declared.record.Record.{Record}
use Rattle.phases.specs.declared.table.Kind.{Kind}
use Rattle.phases.specs.declared.table.Kind.TheVariants.{Card, Decide, Green, Red, Walk, Tick, Passed, Lapsed, Dark, Ack}
use Rattle.phases.specs.declared.answer.Answer.TheVariants.{Done}
use Rattle.record.specs.declared.steps.Step.{Step}
use Rattle.phases.specs.Phase.{read, granted, green, walked, expired, denied, red, dimmed, closed, green_span, red_span, grants}
use Rattle.phases.specs.Answers.{reason_busy}
use Rattle.door.specs.Door.{door, free_door}
use Rattle.record.specs.Doors.{plan_of, door_of, put_door, put_at, Shaped}
use Rattle.record.specs.Deeds.{holding}
use Rattle.granting.specs.Grants.{GrantAt}
use Rattle.granting.specs.Reasons.{held_with}
use Rattle.record.specs.Sound.{Sound}
use Rattle.phases.specs.declared.table.StepRow.{StepRow}
use Rattle.phases.specs.Kinds.{allows, names_person}
use Rattle.door_does.specs.declared.Does.TheVariants.{Turns}
use Rattle.door_does.specs.Does.{effect}
use Rattle.record.specs.Steps.{reason_for, Admitted, First, none, away, barred, busy, held_for, act, step_of}
use Rattle.record.specs.Run.{row_of, last_of}
use Rattle.tables.proofs.Cases.{same_or_not}
use Rattle.record.proofs.Keep.{put_same, put_grant, put_shaped, at_shaped}
use Rattle.record.proofs.Right.{reason_only}
use Rattle.record.proofs.Laws.{step_done, sound_stays}
use Rattle.run_events.specs.Events.{What, Denial, Passage, Lapse, RunEvent, event}
use Rattle.card_by_card.specs.Serving.{served_as, step_at, card_of, ticked, after_decide, service_of}
use Rattle.card_by_card.specs.Served.{Acts, end, then, Reads, denying, passing, lapsing, decide_of}
use Rattle.card_by_card.specs.Warden.{is_passage, places_by}
use Rattle.card_by_card.proofs.Cleared.{clear, cleared, clear_free, clear_shaped, clear_sound}

-- ---- steps that act

-- a door put twice is put as it was put last
put_put : (x : Record) (d : ℕ) (a b : Door) → put_door (put_door x d a) d b ≡ put_door x d b
put_put x d a b =
    let p = set-set x.phase d a.phase b.phase in
    let q = set-set x.holder d a.holder b.holder in
    let n = set-set x.count d a.count b.count in
    λ i.
    record {
      people = x.people;
      locations = x.locations;
      doors = x.doors;
      origin = x.origin;
      destination = x.destination;
      exit = x.exit;
      right = x.right;
      place = x.place;
      phase = p i;
      holder = q i;
      count = n i;
    }

-- what a step that turns its door hands back, with any reason but 3: no door is told
abbrev pub turned : Record → ℕ → Door → ℕ → Step
turned x d c why = record { next = put_door x d c; answer = Done; phase = c.phase; reason = why; held = 0 }

-- x with its door d as c is sound
pub record StandsAt (x : Record) (d : ℕ) (c : Door) : Type 0 where
  pub shaped : Shaped x
  pub sound : Sound (put_door x d c)
  pub exists : d < x.doors

-- from a record the steps of a list all act, and lead to another
pub record LeadsTo (r : Record) (rows : List StepRow) (after : Record) : Type 0 where
  pub acts : Acts r rows
  pub last : last_of r rows ≡ after

pub leads_end : (r : Record) → LeadsTo r [] r
unfolding last_of
leads_end r = record { acts = end; last = refl }

pub leads_then : (r : Record) (row : StepRow) (s : Step) {rows : List StepRow} {y : Record} → row_of r row ≡ s → s.answer ≡ Done → LeadsTo s.next rows y
    → LeadsTo r (row ∷ rows) y
unfolding last_of
leads_then r row s {rows} {y} e done on =
    let on' : LeadsTo (row_of r row).next rows y = subst (λ (z : Step). LeadsTo z.next rows y) (sym e) on in
    record { acts = then (ap (λ (z : Step). z.answer) e ∙ done) on'.acts; last = on'.last }

-- ---- one door of x that isn't free

module _ (x : Record) (d : ℕ) (c : Door) (so : StandsAt x d c) where
  within : d < most_doors
  within = let most = so.sound.tables.in_range.doors_to in let h = so.exists in omega arith

  here : door_of (put_door x d c) d ≡ c
  here = put_same x so.shaped d c within

  -- a step there that is allowed does what its clause says of c
  does : (k : Kind) (p : ℕ) → (names_person k ≡ true → p < x.people) → allows k c.phase ≡ true
      → step_of (put_door x d c) k d p ≡ act (put_door x d c) d (effect k p (reason_for (put_door x d c) d c.holder) c)
  does k p hp ok =
      step_done (put_door x d c) k d p (put_shaped x so.shaped d c) so.sound so.exists hp (subst (λ (y : Door). allows k y.phase ≡ true) (sym here) ok)
      ∙ ap (λ (y : Door). act (put_door x d c) d (effect k p (reason_for (put_door x d c) d y.holder) y)) here

  -- and where that turns the door, with any reason but 3, the door is turned
  pub turns_to : (k : Kind) (p : ℕ) (c' : Door) (why : ℕ) → eqb why reason_busy ≡ false → (names_person k ≡ true → p < x.people) → allows k c.phase ≡ true
      → effect k p (reason_for (put_door x d c) d c.holder) c ≡ Turns c' why → step_of (put_door x d c) k d p ≡ turned x d c' why
  unfolding act held_with
  turns_to k p c' why other hp ok e =
      does k p hp ok ∙ ap (act (put_door x d c) d) e
      ∙ rw other (ap (λ (y : Record). record { next = y; answer = Done; phase = c'.phase; reason = why; held = 0 }) (put_put x d c c'))

  -- a record reached by a step is sound
  pub at_next : (k : Kind) (p : ℕ) (c' : Door) (why : ℕ) → step_of (put_door x d c) k d p ≡ turned x d c' why → StandsAt x d c'
  at_next k p c' why e =
      record {
        shaped = so.shaped;
        sound = subst (λ (s : Step). Sound s.next) e (sound_stays (put_door x d c) k d p (put_shaped x so.shaped d c) so.sound);
        exists = so.exists;
      }

  -- one step of a service that names no person, and the rest of the service
  turn : (k : Kind) (c' : Door) {rows : List StepRow} {y : Record} → names_person k ≡ false → allows k c.phase ≡ true
      → effect k 0 (reason_for (put_door x d c) d c.holder) c ≡ Turns c' 0 → (StandsAt x d c' → LeadsTo (put_door x d c') rows y)
      → LeadsTo (put_door x d c) (step_at k d ∷ rows) y
  turn k c' nobody ok e on =
      let to = turns_to k 0 c' 0 refl (λ named. clash named nobody) ok e in
      leads_then (put_door x d c) (step_at k d) (turned x d c' 0) to refl (on (at_next k 0 c' 0 to))

-- ---- what follows a decision

-- a light in phase ph burns down and leaves phase `out`
record Light (ph out : ℕ) : Type 0 where
  more : (h n why : ℕ) → effect Tick 0 why (door ph h (suc (suc n))) ≡ Turns (door ph h (suc n)) 0
  last : (h why : ℕ) → effect Tick 0 why (door ph h 1) ≡ Turns (door out h 0) 0

one_less : (n : ℕ) → suc (suc n) - 1 ≡ suc n
one_less n = omega arith

green_light : Light green expired
unfolding effect
green_light = record { more = λ h n why. simp (lt-ltb 1 (suc (suc n)) (omega arith), one_less n); last = λ h why. refl }

red_light : Light red dimmed
unfolding effect
red_light = record { more = λ h n why. simp (lt-ltb 1 (suc (suc n)) (omega arith), one_less n); last = λ h why. refl }

-- with n + 1 ticks to burn, it goes out with the last of them: by induction, whatever their number
burning : (x : Record) (d : ℕ) {ph out : ℕ} → Light ph out → (h n : ℕ) {rows : List StepRow} {y : Record}
    → (StandsAt x d (door out h 0) → LeadsTo (put_door x d (door out h 0)) rows y) → StandsAt x d (door ph h (suc n))
    → LeadsTo (put_door x d (door ph h (suc n))) (ticked (suc n) d rows) y
unfolding ticked allows
burning x d {ph} {out} light h zero on so =
    turn x d (door ph h 1) so Tick (door out h 0) refl refl (light.last h (reason_for (put_door x d (door ph h 1)) d h)) on
burning x d {ph} {out} light h (suc n) on so =
    turn x d (door ph h (suc (suc n))) so Tick (door ph h (suc n)) refl refl (light.more h n (reason_for (put_door x d (door ph h (suc (suc n)))) d h))
    (burning x d light h n on)

-- `ack` frees the door
acked : (x : Record) (d : ℕ) → StandsAt x d (door closed 0 0) → LeadsTo (put_door x d (door closed 0 0)) (step_at Ack d ∷ []) (put_door x d free_door)
unfolding allows effect
acked x d so = turn x d (door closed 0 0) so Ack free_door refl refl refl (λ _. leads_end _)

module _ (x : Record) (d : ℕ) where
  after_denial : (why held : ℕ) → StandsAt x d (door denied 0 0) → LeadsTo (put_door x d (door denied 0 0)) (after_decide (Denial why held) d) (put_door x d free_door)
  unfolding after_decide allows effect
  after_denial why held so =
      turn x d (door denied 0 0) so Red (door red 0 red_span) refl refl refl
      (burning x d red_light 0 (red_span - 1)
      (λ out. turn x d (door dimmed 0 0) out Dark (door closed 0 0) refl refl refl (acked x d)))

  -- `passed` at a walked door
  passes : (h : ℕ) → StandsAt x d (door walked h 0)
      → LeadsTo (put_door x d (door walked h 0)) (step_at Passed d ∷ step_at Ack d ∷ []) (put_door (put_at x h (get_or x.destination d 0)) d free_door)
  unfolding allows effect act
  passes h so =
      let l = get_or x.destination d 0 in
      let c = door walked h 0 in
      let to : step_of (put_door x d c) Passed d 0 ≡ turned (put_at x h l) d (door closed 0 0) 0 =
      does x d c so Passed 0 (λ e. absurd (false≢true e)) refl
      ∙ ap (λ (y : Door). record { next = put_at (put_door (put_door x d c) d (door closed 0 0)) y.holder l; answer = Done; phase = closed; reason = 0; held = 0 }) (here x d c so)
      ∙ ap (λ (y : Record). record { next = put_at y h l; answer = Done; phase = closed; reason = 0; held = 0 }) (put_put x d c (door closed 0 0)) in
      leads_then (put_door x d c) (step_at Passed d) (turned (put_at x h l) d (door closed 0 0) 0) to refl
      (acked (put_at x h l) d
      (record {
        shaped = at_shaped x so.shaped h l;
        sound = subst (λ (y : Step). Sound y.next) to (sound_stays (put_door x d c) Passed d 0 (put_shaped x so.shaped d c) so.sound);
        exists = so.exists;
      }))

  after_lapse : (h : ℕ) → StandsAt x d (door granted h 0) → LeadsTo (put_door x d (door granted h 0)) (after_decide Lapse d) (put_door x d free_door)
  unfolding after_decide allows effect
  after_lapse h so =
      turn x d (door granted h 0) so Green (door green h green_span) refl refl refl
      (burning x d green_light h (green_span - 1)
      (λ out. turn x d (door expired h 0) out Lapsed (door closed 0 0) refl refl refl (acked x d)))

  -- the person is put in the door's destination by `passed`, and by no other step of the service
  after_passage : (h : ℕ) → StandsAt x d (door granted h 0)
      → LeadsTo (put_door x d (door granted h 0)) (after_decide Passage d) (put_door (put_at x h (get_or x.destination d 0)) d free_door)
  unfolding after_decide allows effect
  after_passage h so =
      turn x d (door granted h 0) so Green (door green h green_span) refl refl refl
      (λ lit_now. turn x d (door green h green_span) lit_now Walk (door walked h 0) refl refl refl (passes h))

-- ---- the whole service of an event

-- the record with these places, and all else as it was
abbrev pub placed : Record → List ℕ → Record
placed r place = holding r place r.phase r.holder r.count

-- a service begun at a record acts and leads to another, its `decide` answers as the event's did, but for reason 3, who is moved is
-- who passed, and all else is as it was
pub record Serves (r : Record) (e : RunEvent) (after : Record) : Type 0 where
  pub leads : LeadsTo r (service_of e) after
  pub decides : Reads (decide_of r e).phase (decide_of r e).reason (decide_of r e).held (served_as e.what)
  pub moved : after.place ≡ places_by r.destination r.place (e ∷ [])
  pub rest : after ≡ placed r after.place

-- a door put as it is, is no change
put_as_is : (r : Record) (d : ℕ) (c : Door) → door_of r d ≡ c → put_door r d c ≡ r
put_as_is r d c e = subst (λ (x : Door). put_door r d x ≡ r) e same
  where
    same : put_door r d (door_of r d) ≡ r
    same =
        let p = set-get_or r.phase d 0 in
        let q = set-get_or r.holder d 0 in
        let n = set-get_or r.count d 0 in
        λ i.
        record {
          people = r.people;
          locations = r.locations;
          doors = r.doors;
          origin = r.origin;
          destination = r.destination;
          exit = r.exit;
          right = r.right;
          place = r.place;
          phase = p i;
          holder = q i;
          count = n i;
        }

-- the record with the card of person h read at door d
abbrev shown : Record → ℕ → ℕ → Record
shown x d h = put_door x d (door read h 0)

-- a record whose door d is free, and a card of person h there
module _ (x : Record) (sh : Shaped x) (s : Sound x) (d : ℕ) (hd : d < x.doors) (is_free : door_of x d ≡ free_door) (h : ℕ) (hh : h < x.people) where
  -- whoever has no grant has none while the card is read
  still_none : (p : ℕ) → ((e : ℕ) → GrantAt x.doors x.phase x.holder p e → ⊥)
      → (e : ℕ) → GrantAt x.doors (shown x d h).phase (shown x d h).holder p e → ⊥
  unfolding grants and_also
  still_none p nowhere e g =
      ⊎_elim
      (λ is. clash (subst (λ (c : Door). grants c.phase ≡ true) (put_same x sh d (door read h 0) (let most = s.tables.in_range.doors_to in omega arith)) (rw is at g.holds)) refl)
      (λ is_not. nowhere e (put_grant x d (door read h 0) p e is_not g))
      (same_or_not e d)

  -- so whoever is admitted is admitted then
  admitted_then : Admitted x d h → reason_for (shown x d h) d h ≡ 0
  admitted_then a =
      reason_only (shown x d h) d h 0 (none (record { at_origin = a.at_origin; has_right = a.has_right; no_grant = still_none h a.no_grant }))

  free_at : StandsAt x d free_door
  free_at = record { shaped = sh; sound = subst Sound (sym (put_as_is x d free_door is_free)) s; exists = hd }

  card_turns : step_of (put_door x d free_door) Card d h ≡ turned x d (door read h 0) 0
  unfolding allows effect
  card_turns = turns_to x d free_door free_at Card h (door read h 0) 0 refl (λ _. hh) refl refl

  read_at : StandsAt x d (door read h 0)
  read_at = at_next x d free_door free_at Card h (door read h 0) 0 card_turns

  -- `decide` turns the door to c
  abbrev Decided : Door → ℕ → Type 0
  Decided c why = step_of (shown x d h) Decide d 0 ≡ turned x d c why

  decided_yes : Admitted x d h → Decided (door granted h 0) 0
  unfolding allows effect
  decided_yes a = turns_to x d (door read h 0) read_at Decide 0 (door granted h 0) 0 refl (λ z. absurd (false≢true z)) refl (rw (admitted_then a))

  decided_not : (why : ℕ) → (why ≡ 0 → ⊥) → eqb why reason_busy ≡ false → First (shown x d h) d h why → Decided (door denied 0 0) why
  unfolding allows effect
  decided_not why some other first =
      turns_to x d (door read h 0) read_at Decide 0 (door denied 0 0) why other (λ z. absurd (false≢true z)) refl (rw (reason_only (shown x d h) d h why first, ne_eqb why 0 some))

  -- the service of an event of row n, from what its `decide` does and what follows
  module _ (n : ℕ) where
    serves : (c : Door) (why : ℕ) (what : What) (y : Record) → Decided c why → Reads c.phase why 0 (served_as what)
        → y.place ≡ places_by x.destination x.place (event n d h what ∷ []) → y ≡ placed x y.place → door_of y d ≡ free_door
        → (StandsAt x d c → LeadsTo (put_door x d c) (after_decide (served_as what) d) (put_door y d free_door)) → Serves x (event n d h what) y
    unfolding service_of
    serves c why what y decided told moved rest free_again on =
        let card : step_of x Card d h ≡ turned x d (door read h 0) 0 = rw (put_as_is x d free_door is_free) at card_turns in
        record {
          leads =
              leads_then x (card_of (event n d h what)) (turned x d (door read h 0) 0) card refl
              (leads_then (shown x d h) (step_at Decide d) (turned x d c why) decided refl
              (rw (put_as_is y d free_door free_again) at (on (at_next x d (door read h 0) read_at Decide 0 c why decided))));
          decides = rw (card, decided) told;
          moved = moved;
          rest = rest;
        }

    -- a card denied for why, which is served so, alters nothing
    refuses : (why : ℕ) → (why ≡ 0 → ⊥) → eqb why reason_busy ≡ false → served_as (Denial why 0) ≡ Denial why 0 → First (shown x d h) d h why
        → Serves x (event n d h (Denial why 0)) x
    unfolding places_by is_passage
    refuses why some other as_is first =
        serves (door denied 0 0) why (Denial why 0) x (decided_not why some other first) (rw as_is (denying refl)) refl refl is_free (rw as_is (after_denial x d why 0))

    -- whoever is admitted is granted, and it lapses: that alters nothing ..
    lapses : (what : What) → served_as what ≡ Lapse → is_passage what ≡ false → Admitted x d h → Serves x (event n d h what) x
    unfolding places_by
    lapses what as_lapse still a =
        serves (door granted h 0) 0 what x (decided_yes a) (rw as_lapse (lapsing refl refl refl)) (rw still refl) refl is_free (rw as_lapse (after_lapse x d h))

    -- .. or it is used: then the person is in the door's destination, and all else is as it was
    pub passes_through : Admitted x d h → Serves x (event n d h Passage) (put_at x h (get_or x.destination d 0))
    unfolding served_as places_by is_passage
    passes_through a =
        serves (door granted h 0) 0 Passage (put_at x h (get_or x.destination d 0)) (decided_yes a) (passing refl refl refl) refl refl is_free (after_passage x d h)

-- in the cleared record of r, a card of person h at door d
module _ (r : Record) (sh : Shaped r) (s : Sound r) (d : ℕ) (hd : d < r.doors) (h : ℕ) (hh : h < r.people) where
  abbrev x : Record
  x = cleared r

  all_free : (e : ℕ) → door_of x e ≡ free_door
  all_free e = clear_free (plan_of r) r.right r.place e

  -- nobody has a grant there, so that whoever is where the door starts and has the right is admitted
  alone : get_or r.place h 0 ≡ get_or r.origin d 0 → may_be r.right h (get_or r.destination d 0) ≡ true → Admitted x d h
  unfolding grants and_also
  alone a b =
      record { at_origin = a; has_right = b; no_grant = λ e g. clash (subst (λ (c : Door). grants c.phase ≡ true) (all_free e) g.holds) refl }

  module _ (n : ℕ) where
    -- a refused card is served, and nothing is altered; with reason 3, whatever door is told with it, it is granted, and lapses unused
    pub serves_denial : (why : ℕ) → (why ≡ 0 → ⊥) → First r d h why → Serves x (event n d h (Denial why (held_for r h why))) x
    unfolding served_as is_passage held_with
    serves_denial why some (none a) = absurd (some refl)
    serves_denial why some (away a) = refuses x (clear_shaped r sh) (clear_sound r s) d hd (all_free d) h hh n 1 some refl refl (away a)
    serves_denial why some (barred a b) = refuses x (clear_shaped r sh) (clear_sound r s) d hd (all_free d) h hh n 2 some refl refl (barred a b)
    serves_denial why some (busy a b e g) = lapses x (clear_shaped r sh) (clear_sound r s) d hd (all_free d) h hh n (Denial 3 (held_for r h 3)) refl refl (alone a b)

    -- a grant that the door holds in r is granted, and lapses ..
    pub serves_lapse : get_or r.place h 0 ≡ get_or r.origin d 0 → may_be r.right h (get_or r.destination d 0) ≡ true → Serves x (event n d h Lapse) x
    unfolding served_as is_passage
    serves_lapse a b = lapses x (clear_shaped r sh) (clear_sound r s) d hd (all_free d) h hh n Lapse refl refl (alone a b)

    -- .. or is used, and the person is in the door's destination
    pub serves_passage : get_or r.place h 0 ≡ get_or r.origin d 0 → may_be r.right h (get_or r.destination d 0) ≡ true
        → Serves x (event n d h Passage) (clear (plan_of r) r.right (set r.place h (get_or r.destination d 0)))
    serves_passage a b = passes_through x (clear_shaped r sh) (clear_sound r s) d hd (all_free d) h hh n (alone a b)
