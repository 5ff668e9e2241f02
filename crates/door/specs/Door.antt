-- What the record keeps of one door (01, "The record").
use Rattle.std.specs.Prelude.{ℕ, List, get_or}
use Rattle.door.specs.declared.Door.{Door}
use Rattle.phases.specs.Phase.{free}

-- a door in this phase, with this person and this countdown
abbrev pub door : ℕ → ℕ → ℕ → Door
door phase holder count = record { phase = phase; holder = holder; count = count }

-- "0 free": person 0, countdown 0
abbrev pub free_door : Door
free_door = door free 0 0

-- "for each door a phase, a person and a countdown"
abbrev pub door_in : List ℕ → List ℕ → List ℕ → ℕ → Door
door_in phase holder count d = door (get_or phase d 0) (get_or holder d 0) (get_or count d 0)
