-- Each of the lists that are lent to a run is long enough for so many steps.
use Rattle.std.specs.Prelude.{ℕ, ◌≤◌}

pub record RunRoom (steps doors persons answers phases reasons held : ℕ) : Type 0 where
  pub in_doors : steps ≤ doors
  pub in_persons : steps ≤ persons
  pub in_answers : steps ≤ answers
  pub in_phases : steps ≤ phases
  pub in_reasons : steps ≤ reasons
  pub in_held : steps ≤ held
