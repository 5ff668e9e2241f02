-- Everybody can leave; what that says is in `specs/Leaving.antt`.
--     walks-out   in every sound record, by the free doors of the signed way, whoever has no grant
-- Assumes nothing.
use Prim.Native.Nat.{ℕ, ◌<◌}
use mathlib.Core.Path.{◌≡◌, refl, sym, ap, subst, ◌∙◌}
use mathlib.Core.List.{List, [], ◌∷◌}
use native.Mathlib.Omega.{arith}
use lib.ListN.{get_or}
use lib.Seq.{get_or-set_same, set-set, set-get_or}
use Rattle.tables.specs.Rules.{SafeWay, outside, onward}
use Rattle.tables.specs.Way.{way_of}
use Rattle.tables.proofs.WayOut.{the_way}
use Rattle.record.specs.declared.record.Record.{Record}
use Rattle.door.specs.Door.{free_door}
use Rattle.record.specs.Doors.{plan_of, door_of, put_at, Shaped}
use Rattle.granting.specs.Grants.{GrantAt}
use Rattle.record.specs.Sound.{Sound}
use Rattle.record.proofs.Keep.{at_shaped, at_sound}
use Rattle.record.proofs.Ask.{place_is_location, way_out_safe}
use Rattle.run_events.specs.Events.{Passage, event}
use Rattle.card_by_card.specs.Leaving.{OnTheWay, here, further, FreeDoors, arrived, through, passages_of, WalksOut}
use Rattle.card_by_card.proofs.Serial.{placed, Serves, passes_through}
use Rattle.card_by_card.proofs.Runs.{ServesAll, none, more, all_lead, all_decide}

-- doors are as free when somebody is put elsewhere
still_free : {r : Record} (p n : ℕ) {l : ℕ} {way doors : List ℕ} → FreeDoors r l way doors → FreeDoors (put_at r p n) l way doors
still_free p n arrived = arrived
still_free p n (through leads is_free on) = through leads is_free (still_free p n on)

-- somebody put twice is where they were put last, and put where they are is no change
at_at : (r : Record) (p l m : ℕ) → put_at (put_at r p l) p m ≡ put_at r p m
at_at r p l m = ap (placed r) (set-set r.place p l m)

at_as_is : (r : Record) (p l : ℕ) → get_or r.place p 0 ≡ l → put_at r p l ≡ r
at_as_is r p l is = ap (placed r) (rw (sym is) (set-get_or r.place p 0))

-- each door of the way is passed, one after the other
walk : (way : List ℕ) (r : Record) → Shaped r → Sound r → (p : ℕ) → p < r.people → ((e : ℕ) → GrantAt r.doors r.phase r.holder p e → ⊥)
    → {l : ℕ} {doors : List ℕ} → get_or r.place p 0 ≡ l → SafeWay (plan_of r) r.right p l way → FreeDoors r l way doors
    → ServesAll r (passages_of p doors) (put_at r p 0)
unfolding passages_of
walk [] r sh s p hp no_grant at outside arrived = rw (at_as_is r p 0 at) none
walk (m ∷ way) r sh s p hp no_grant at (onward _ may safe) (through {doors} leads is_free on) =
    let d = leads.door in
    let most = s.tables.in_range.people_to in
    let passed : Serves r (event 0 d p Passage) (put_at r p m) =
    rw leads.ends at (passes_through r sh s d leads.exists is_free p hp 0 (record { at_origin = at ∙ sym leads.starts; has_right = rw leads.ends may; no_grant = no_grant })) in
    more passed
    (subst (ServesAll (put_at r p m) (passages_of p doors)) (at_at r p m 0)
    (walk way (put_at r p m) (at_shaped r sh p m) (at_sound r sh s p m hp may no_grant) p hp no_grant (get_or-set_same r.place p m 0 (omega arith)) safe (still_free p m on)))

-- free doors along a way, where those on it are free
free_doors : (r : Record) {p l : ℕ} {way : List ℕ} → SafeWay (plan_of r) r.right p l way → ((d : ℕ) → OnTheWay (plan_of r) l way d → door_of r d ≡ free_door)
    → (doors : List ℕ) × FreeDoors r l way doors
free_doors r outside free = ([], arrived)
free_doors r (onward leads _ safe) free =
    let rest = free_doors r safe (λ d on. free d (further on)) in
    (leads.door ∷ rest.0, through leads (free leads.door (here leads)) rest.1)

-- "everybody has a signed way outside which they may use"
pub walks_out : (r : Record) → Shaped r → Sound r → (p : ℕ) → p < r.people → ((e : ℕ) → GrantAt r.doors r.phase r.holder p e → ⊥) → WalksOut r p
walks_out r sh s p hp no_grant =
    let l = get_or r.place p 0 in
    let safe = way_out_safe r s p hp in
    record {
      way = way_of r.locations r.exit l;
      signed = (the_way s.tables l (place_is_location r s p hp)).is_way;
      leaves = λ doors free.
          let served = walk _ r sh s p hp no_grant refl safe free in
          record { acts = (all_lead served).acts; grants = all_decide served; outside = (all_lead served).last };
      some = free_doors r safe;
    }
