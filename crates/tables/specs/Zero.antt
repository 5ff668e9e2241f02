-- Lists of zeros, and which places of a site's tables are 0. 01, "The record".
use Rattle.std.specs.Prelude.{ℕ, ◌≤◌, ◌<◌, ◌≡◌, Bool, false, List, get_or, replicate}
use Rattle.tables.specs.Tables.{Plan, right_at, most_locations}

-- n zeros, as a list that stays under this name
unfoldable pub zeros : ℕ → List ℕ
zeros n = replicate n 0

-- "Places beyond the counts are 0, and so are location 0's own exit and rights.": what that says of the tables
pub record ZeroBeyond (site : Plan) (right : List Bool) : Type 0 where
  pub origins : (d : ℕ) → site.doors ≤ d → get_or site.origin d 0 ≡ 0
  pub destinations : (d : ℕ) → site.doors ≤ d → get_or site.destination d 0 ≡ 0
  pub exits : (l : ℕ) → site.locations ≤ l → get_or site.exit l 0 ≡ 0
  pub rights_of : (p l : ℕ) → site.people ≤ p → l < most_locations → right_at right p l ≡ false
  pub rights_to : (p l : ℕ) → site.locations ≤ l → l < most_locations → right_at right p l ≡ false
  pub exit_of_outside : get_or site.exit 0 0 ≡ 0
  pub rights_to_outside : (p : ℕ) → right_at right p 0 ≡ false
