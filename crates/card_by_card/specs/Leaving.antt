-- Everybody can leave: the steps that take a person outside, door by door of the signed way, and what holds of them.
use Rattle.std.specs.Prelude.{ℕ, ◌≡◌, List, [], ◌∷◌, get_or}
use Rattle.tables.specs.Tables.{Plan}
use Rattle.tables.specs.Way.{Way}
use Rattle.tables.specs.Rules.{DoorFrom}
use Rattle.record.specs.declared.record.Record.{Record}
use Rattle.door.specs.Door.{free_door}
use Rattle.record.specs.Doors.{plan_of, door_of, put_at}
use Rattle.record.specs.Run.{last_of}
use Rattle.run_events.specs.Events.{Passage, RunEvent, event}
use Rattle.card_by_card.specs.Serving.{services}
use Rattle.card_by_card.specs.Served.{Acts, Decides}

-- a door that leads from one location of a way, which begins at l, to the next
pub data OnTheWay (site : Plan) : ℕ → List ℕ → ℕ → Type 0 where
  here : {l m : ℕ} {way : List ℕ} → (leads : DoorFrom site l m) → OnTheWay site l (m ∷ way) leads.door
  further : {l m d : ℕ} {way : List ℕ} → OnTheWay site m way d → OnTheWay site l (m ∷ way) d

-- doors along a way that begins at l, one for each of its members, and each is free
pub data FreeDoors (r : Record) : ℕ → List ℕ → List ℕ → Type 0 where
  arrived : {l : ℕ} → FreeDoors r l [] []
  through : {l m : ℕ} {way doors : List ℕ} → (leads : DoorFrom (plan_of r) l m) → door_of r leads.door ≡ free_door → FreeDoors r m way doors
      → FreeDoors r l (m ∷ way) (leads.door ∷ doors)

-- person p passes each of these doors, served one after the other: `card`, `decide`, `green`, `walk`, `passed`, `ack` (a service doesn't
-- look at the row of its event)
unfoldable pub passages_of : ℕ → List ℕ → List RunEvent
passages_of p [] = []
passages_of p (d ∷ doors) = event 0 d p Passage ∷ passages_of p doors

-- person p leaves by these doors
pub record Leaves (r : Record) (p : ℕ) (doors : List ℕ) : Type 0 where
  -- every step acts,
  pub acts : Acts r (services (passages_of p doors))
  -- each `decide` grants,
  pub grants : Decides r (passages_of p doors)
  -- and at the end the person is in location 0, and all else is as it was
  pub outside : last_of r (services (passages_of p doors)) ≡ put_at r p 0

-- "everybody has a signed way outside which they may use": person p really uses it
pub record WalksOut (r : Record) (p : ℕ) : Type 0 where
  -- the signed way of where they are
  pub way : List ℕ
  pub signed : Way r.exit (get_or r.place p 0) way
  -- by any free doors that go along it they leave,
  pub leaves : (doors : List ℕ) → FreeDoors r (get_or r.place p 0) way doors → Leaves r p doors
  -- and where the doors on the way are free, there are such
  pub some : ((d : ℕ) → OnTheWay (plan_of r) (get_or r.place p 0) way d → door_of r d ≡ free_door) → (doors : List ℕ) × FreeDoors r (get_or r.place p 0) way doors
