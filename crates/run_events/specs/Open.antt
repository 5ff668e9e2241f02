-- A grant that is open by the events alone, and what a denial for reason 3 says of one (02, C-12: "Demands 2 and 3 read the reason with
-- its door from now on").
use Rattle.std.specs.Prelude.{ℕ, ◌≡◌, List, [], ◌∷◌, ◌++◌}
use Rattle.phases.specs.Answers.{reason_busy}
use Rattle.run_events.specs.Events.{Grant, Denial, RunEvent, event}

-- none of these events is at door d
pub data NoneAt (d : ℕ) : List RunEvent → Type 0 where
  end : NoneAt d []
  then : {e : RunEvent} {es : List RunEvent} → (e.at ≡ d → ⊥) → NoneAt d es → NoneAt d (e ∷ es)

-- after these events person p has a grant at door d: it was given to p's card at that door, and there has been no event at the door since,
-- so that it has neither passed nor lapsed
pub record OpenGrant (d p : ℕ) (events : List RunEvent) : Type 0 where
  pub row : ℕ
  pub before : List RunEvent
  pub since : List RunEvent
  pub given : events ≡ before ++ (event row d p Grant ∷ since)
  pub still : NoneAt d since

-- each denial for reason 3 names a door at which its person has a grant after the events before it
pub record NamesOpenGrants (events : List RunEvent) : Type 0 where
  pub each : (before after : List RunEvent) (e : RunEvent) (held : ℕ) → events ≡ before ++ (e ∷ after) → e.what ≡ Denial reason_busy held
      → OpenGrant held e.person before
