-- One step that is done, at its door: the event that is told is the one that the record has, and what stands at the door
-- afterwards is what the record has there. Assumes nothing.
use Prim.Native.Nat.{ℕ}
use mathlib.Core.Path.{◌≡◌, refl, ◌∙◌}
use mathlib.Core.Bool.{Bool, true, false, false≢true}
use mathlib.Core.List.{[], map}
use borrow.Author.Tests.{eqb-true}
use lib.Dec.{eqb, ltb}
use Rattle.tables.specs.Tables.{and_also}
use Rattle.tables.proofs.Cases.{either}
use Rattle.door.specs.declared.Door.{Door}
use Rattle.door_does.specs.declared.Does.{Does}
use Rattle.door_does.specs.Does.{effect}
use Rattle.phases.specs.declared.table.Kind.{Kind}
use Rattle.phases.specs.declared.table.Kind.TheVariants.{Card, Decide, Green, Red, Walk, Tick, Passed, Lapsed, Dark, Ack, Unknown}
use Rattle.phases.specs.Phase.{read, granted, green, walked, expired, denied, red, dimmed, grants}
use Rattle.phases.specs.Kinds.{allows}
use Rattle.record.specs.Run.{Reply}
use Rattle.record.proofs.Laws.{becomes, reason_in}
use Rattle.run_events.specs.Events.{Grant, Denial, Passage, Lapse, event, Nothing, meaning_by, Stage, NoCard, Awaited, After, Spell, spell_by, event_by}
use Rattle.run_events.specs.Told.{CardOf, GrantOf, standing, standing_by, standing_at, Granted, what_by}

-- the reply of a step that was done at a door that was c, `held` being the door that is told with each reason
abbrev pub done_reply : (ℕ → ℕ) → Door → Does → Reply
done_reply held c x = record { answer = 0; phase = (becomes c x).phase; reason = reason_in x; held = held (reason_in x) }

-- ---- what stands at a door

pub at_read : (c : Door) → c.phase ≡ read → standing_at c ≡ CardOf c.holder
unfolding standing_at grants and_also
at_read c e = rw e

pub at_grant : (c : Door) → grants c.phase ≡ true → standing_at c ≡ GrantOf c.holder
unfolding standing_at
at_grant c g = rw g

-- whose card or grant it is
card_person : (t : Stage) (q p : ℕ) → standing_by t q ≡ CardOf p → q ≡ p
card_person NoCard q p e = cc
card_person Awaited q p e = cc
card_person (After Grant) q p e = cc
card_person (After (Denial why held)) q p e = cc
card_person (After Passage) q p e = cc
card_person (After Lapse) q p e = cc

grant_stage : (t : Stage) (q p : ℕ) → standing_by t q ≡ GrantOf p → (t ≡ After Grant) × (q ≡ p)
grant_stage NoCard q p e = (cc, cc)
grant_stage Awaited q p e = (cc, cc)
grant_stage (After Grant) q p e = (refl, cc)
grant_stage (After (Denial why held)) q p e = (cc, cc)
grant_stage (After Passage) q p e = (cc, cc)
grant_stage (After Lapse) q p e = (cc, cc)

pub is_granted : (s : Spell) (p : ℕ) → standing s ≡ GrantOf p → Granted s p
is_granted s p e = let g = grant_stage s.stage s.person p e in record { stage = g.0; person = g.1 }

-- the steps that do nothing to the card at their door
pub data Quiet : Kind → Type 0 where
  a_green : Quiet Green
  a_red : Quiet Red
  a_walk : Quiet Walk
  a_tick : Quiet Tick
  a_dark : Quiet Dark

-- they leave standing what stood there
pub stands : {k : Kind} (p why : ℕ) (c : Door) → Quiet k → allows k c.phase ≡ true → standing_at (becomes c (effect k p why c)) ≡ standing_at c
unfolding allows effect standing_at grants and_also
stands p why c a_green ok = rw (eqb-true c.phase granted ok)
stands p why c a_red ok = rw (eqb-true c.phase denied ok)
stands p why c a_walk ok = rw (eqb-true c.phase green ok)
stands p why c a_tick ok =
    either (λ x. standing_at (becomes c x) ≡ standing_at c) (eqb c.phase green)
    (λ is. either (λ x. standing_at (becomes c x) ≡ standing_at c) (ltb 1 c.count) (λ _. refl) (λ _. rw (eqb-true c.phase green is)))
    (λ _.
    either (λ x. standing_at (becomes c x) ≡ standing_at c) (eqb c.phase red)
    (λ is. either (λ x. standing_at (becomes c x) ≡ standing_at c) (ltb 1 c.count) (λ _. refl) (λ _. rw (eqb-true c.phase red is)))
    (λ _. refl))
stands p why c a_dark ok = rw (eqb-true c.phase dimmed ok)

-- ---- the ten steps

-- a step in row n that does x at door d, which was c, where s was told: why is the record's reason, and held the door that it tells with
-- each reason
pub record Follows (held : ℕ → ℕ) (n d p why : ℕ) (k : Kind) (c : Door) (x : Does) (s : Spell) : Type 0 where
  pub seen : event_by (meaning_by k (done_reply held c x)) n d s.person ≡ map (event n d c.holder) (what_by k why (held why))
  pub after : standing (spell_by (meaning_by k (done_reply held c x)) n p s) ≡ standing_at (becomes c x)

module _ (held : ℕ → ℕ) (n d p why : ℕ) (c : Door) (s : Spell) (agree : standing s ≡ standing_at c) where
  -- a step with no event that leaves standing what stood there
  goes_on : {k : Kind} {x : Does} → meaning_by k (done_reply held c x) ≡ Nothing → what_by k why (held why) ≡ [] → standing_at (becomes c x) ≡ standing_at c → Follows held n d p why k c x s
  unfolding event_by spell_by
  goes_on nothing none same = record { seen = rw (nothing, none); after = rw (nothing, same) agree }

  -- the person of a grant at the door
  granted_to_holder : grants c.phase ≡ true → Granted s c.holder
  granted_to_holder g = is_granted s c.holder (agree ∙ at_grant c g)

  pub door_follows : (k : Kind) → allows k c.phase ≡ true → Follows held n d p why k c (effect k p why c) s
  unfolding allows effect meaning_by what_by event_by spell_by standing_at grants and_also
  door_follows Card ok = record { seen = refl; after = refl }
  door_follows Decide ok = go (eqb why 0) refl (card_person s.stage s.person c.holder (agree ∙ at_read c (eqb-true c.phase read ok)))
    where
      go : (t : Bool) → eqb why 0 ≡ t → s.person ≡ c.holder → Follows held n d p why Decide c (effect Decide p why c) s
      go true e same = record { seen = rw (e, same); after = rw (e, same) }
      go false e same = record { seen = rw (e, same); after = rw e }
  door_follows Green ok = goes_on refl refl (stands p why c a_green ok)
  door_follows Red ok = goes_on refl refl (stands p why c a_red ok)
  door_follows Walk ok = goes_on refl refl (stands p why c a_walk ok)
  door_follows Tick ok = goes_on refl refl (stands p why c a_tick ok)
  door_follows Passed ok = let to = granted_to_holder (rw (eqb-true c.phase walked ok)) in record { seen = rw to.person; after = refl }
  door_follows Lapsed ok = let to = granted_to_holder (rw (eqb-true c.phase expired ok)) in record { seen = rw to.person; after = refl }
  door_follows Dark ok = goes_on refl refl (stands p why c a_dark ok)
  door_follows Ack ok = record { seen = refl; after = refl }
  door_follows Unknown ok = absurd (false≢true ok)
