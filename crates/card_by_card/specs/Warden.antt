-- Two things that follow from demand 3, in words that a warden can use.
use Rattle.std.specs.Prelude.{ℕ, ◌<◌, ◌≡◌, Bool, true, false, cond, List, [], ◌∷◌, ◌++◌, ◌⊎◌, get_or, set}
use Rattle.record.specs.declared.record.Record.{Record}
use Rattle.phases.specs.declared.table.Kind.TheVariants.{Card, Decide}
use Rattle.record.specs.Run.{last_of}
use Rattle.phases.specs.declared.table.StepRow.{StepRow}
use Rattle.run_events.specs.Events.{What, Grant, Denial, Passage, Lapse, RunEvent}
use Rattle.card_by_card.specs.Serving.{recorded_in, services}
use Rattle.card_by_card.specs.Served.{Acts, Decides}

unfoldable pub is_passage : What → Bool
is_passage Grant = false
is_passage (Denial why held) = false
is_passage Passage = true
is_passage Lapse = false

-- everyone's places after these events: each recorded passage puts its person in its door's destination, and nothing else
-- moves anybody
unfoldable pub places_by : List ℕ → List ℕ → List RunEvent → List ℕ
places_by destination place [] = place
places_by destination place (e ∷ es) =
    places_by destination (cond (is_passage e.what) (set place e.person (get_or destination e.at 0)) place) es

-- no event is a passage of person p
pub data NoPassage (p : ℕ) : List RunEvent → Type 0 where
  end : NoPassage p []
  then : {e : RunEvent} {es : List RunEvent} → (e.what ≡ Passage → e.person ≡ p → ⊥) → NoPassage p es → NoPassage p (e ∷ es)

-- person p, who stood in `start`, stands there still if the events have no passage of p, and else in the destination of the
-- door of the last one
pub data StandsBy (destination : List ℕ) (p start : ℕ) (events : List RunEvent) : ℕ → Type 0 where
  never : NoPassage p events → StandsBy destination p start events start
  last : (before after : List RunEvent) (e : RunEvent) → events ≡ before ++ (e ∷ after) → e.what ≡ Passage → e.person ≡ p → NoPassage p after
      → StandsBy destination p start events (get_or destination e.at 0)

-- "No order or lateness of messages puts a person where no recorded passage put them": whatever the list of steps, ..
pub record PutByPassages (fresh : Record) (rows : List StepRow) : Type 0 where
  -- .. everyone is where the recorded passages alone put them, in their order, ..
  pub places : (last_of fresh rows).place ≡ places_by fresh.destination fresh.place (recorded_in fresh rows)
  -- .. so each person stands where their last recorded passage leads, and outside where there is none
  pub each : (p : ℕ) → p < fresh.people → StandsBy fresh.destination p 0 (recorded_in fresh rows) (get_or (last_of fresh rows).place p 0)

-- a list of events, and the same with refused cards struck from it
pub data Struck : List RunEvent → List RunEvent → Type 0 where
  no_more : Struck [] []
  keep : {e : RunEvent} {es left : List RunEvent} → Struck es left → Struck (e ∷ es) (e ∷ left)
  strike : {e : RunEvent} {es left : List RunEvent} (why held : ℕ) → e.what ≡ Denial why held → Struck es left → Struck (e ∷ es) left

-- events served one after the other from the fresh record, by the panel's own steps: every step acts, each `decide` gives the
-- decision, the reason and the held door of its event, but for reason 3, and everyone stands in these places
pub record ServedTo (fresh : Record) (events : List RunEvent) (place : List ℕ) : Type 0 where
  pub acts : Acts fresh (services events)
  pub decides : Decides fresh events
  pub places : (last_of fresh (services events)).place ≡ place

-- "A refused card moves nobody":
pub record RefusedMovesNobody (fresh : Record) (rows : List StepRow) : Type 0 where
  -- wherever in the list a `decide` stands, or a `card`, everyone is in the same place before and after it;
  pub in_the_run : (before after : List StepRow) (row : StepRow) → rows ≡ before ++ (row ∷ after) → (row.kind ≡ Decide) ⊎ (row.kind ≡ Card)
      → (last_of fresh (before ++ (row ∷ []))).place ≡ (last_of fresh before).place
  -- the service of a refused card moves nobody;
  pub in_the_serving : (before after : List RunEvent) (e : RunEvent) (why held : ℕ) → recorded_in fresh rows ≡ before ++ (e ∷ after)
      → e.what ≡ Denial why held
      → (last_of fresh (services (before ++ (e ∷ [])))).place ≡ (last_of fresh (services before)).place
  -- and the others served from fresh without it, or without several refused cards, act, are decided as they were and lead everyone to
  -- where they stand
  pub struck_out : (events : List RunEvent) → Struck (recorded_in fresh rows) events → ServedTo fresh events (last_of fresh rows).place
