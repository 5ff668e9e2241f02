-- The way out of a location, as 01, "Site sheet", defines it.
use Rattle.std.specs.Prelude.{ℕ, zero, suc, ◌-◌, ◌≤◌, ◌<◌, min, ◌≡◌, Bool, true, false, List, [], ◌∷◌, ◌++◌, get_or, length, drop, leb, Result, Ok, Err}
use Rattle.tables.specs.Tables.{most_locations}
use Rattle.findings.specs.declared.TooShort.{TooShort}
use Rattle.findings.specs.Told.{too_short}

-- "The way out of a location is its exit followed by the way out of that exit, and nothing for location 0."
pub data Way (exit : List ℕ) : ℕ → List ℕ → Type 0 where
  outside : Way exit 0 []
  onward : {l : ℕ} {m : ℕ} {rest : List ℕ} → (l ≡ 0 → ⊥) → m ≡ get_or exit l 0 → Way exit m rest → Way exit l (m ∷ rest)

-- following exits from l comes to 0
pub record LeadsOut (exit : List ℕ) (l : ℕ) : Type 0 where
  pub way : List ℕ
  pub is_way : Way exit l way

-- The same, worked out: nothing for location 0, else the exit and the way out of it, while locations are left unvisited.
unfoldable pub unless_outside : ℕ → List ℕ → List ℕ
unless_outside zero way = []
unless_outside (suc l) way = way

unfoldable pub way_out : ℕ → List ℕ → ℕ → List ℕ
way_out zero exit l = []
way_out (suc left) exit l = unless_outside l (get_or exit l 0 ∷ way_out left exit (get_or exit l 0))

-- The locations still unvisited when one stands in one of them; a site has at most so many that a way has at most 31 members.
unfoldable pub unvisited : ℕ → ℕ
unvisited locations = min locations most_locations - 1

unfoldable pub way_of : ℕ → List ℕ → ℕ → List ℕ
way_of locations exit l = way_out (unvisited locations) exit l

-- "It is defined so, and worked out so, on an accepted site, and has at most 31 members."
pub record TheWay (locations : ℕ) (exit : List ℕ) (l : ℕ) : Type 0 where
  pub is_way : Way exit l (way_of locations exit l)
  pub only : (way : List ℕ) → Way exit l way → way ≡ way_of locations exit l
  pub fewer : length (way_of locations exit l) < locations
  pub short : length (way_of locations exit l) ≤ most_locations - 1

-- "the way out of a location, written into the front of a lent list with its length told, the rest of the list unaltered";
-- 13: "list lent for a way out is shorter than the way", and nothing is written.
unfoldable pub if_room : {A : Type 0} → Bool → A → A → A
if_room true there short = there
if_room false there short = short

unfoldable pub way_told_in : List ℕ → List ℕ → Result ℕ TooShort
way_told_in way list = if_room (leb (length way) (length list)) (Ok (length way)) (Err too_short)

unfoldable pub way_written_in : List ℕ → List ℕ → List ℕ
way_written_in way list = if_room (leb (length way) (length list)) (way ++ drop (length way) list) list
