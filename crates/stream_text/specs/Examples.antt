-- The stream of the run that 01 prints, from the bytes of its two sheets; and of small runs beside it.
use Rattle.std.specs.Prelude.{ℕ, ◌+◌, ◌≡◌, List, [], ◌∷◌}
use Rattle.run_text.specs.Examples.{site_header, site_sheet, steps_sheet, bad_row}
use Rattle.syslog.specs.Examples.{nils, at_door_sign, person_sign, reason_sign}
use Rattle.stream_text.specs.Stream.{events_text}

-- ` - door=0 person=0`, with these digits
abbrev pub door_person : ℕ → ℕ → List ℕ → List ℕ
door_person d p more =
    at_door_sign ((48 + d) ∷ person_sign ((48 + p) ∷ more))

-- `37 <86>1 - - - - GRANT - door=0 person=0`
abbrev pub grant_frame : ℕ → ℕ → List ℕ → List ℕ
grant_frame d p more = 51 ∷ 55 ∷ 32 ∷ 60 ∷ 56 ∷ 54 ∷ 62 ∷ nils (71 ∷ 82 ∷ 65 ∷ 78 ∷ 84 ∷ door_person d p more)

-- `45 <85>1 - - - - DENY - door=1 person=0 reason=1`
abbrev pub deny_frame : ℕ → ℕ → ℕ → List ℕ → List ℕ
deny_frame d p reason more =
    52 ∷ 53 ∷ 32 ∷ 60 ∷ 56 ∷ 53 ∷ 62 ∷ nils (68 ∷ 69 ∷ 78 ∷ 89 ∷ door_person d p (reason_sign ((48 + reason) ∷ more)))

-- `36 <86>1 - - - - PASS - door=0 person=0`
abbrev pub pass_frame : ℕ → ℕ → List ℕ → List ℕ
pass_frame d p more = 51 ∷ 54 ∷ 32 ∷ 60 ∷ 56 ∷ 54 ∷ 62 ∷ nils (80 ∷ 65 ∷ 83 ∷ 83 ∷ door_person d p more)

pub record StreamExamples : Type 0 where
  -- 01's whole run: a grant, a denial for reason 1 and a passage
  pub stream_of_01 : events_text site_sheet steps_sheet ≡ grant_frame 0 0 (deny_frame 1 0 1 (pass_frame 0 0 []))
  -- a card, and then a row of bad form: nothing was decided before it
  pub bad_row_first : events_text site_sheet bad_row ≡ []
  -- a wrong header, and a refused site
  pub wrong_header : events_text site_sheet [] ≡ []
  pub refused_site_lem : events_text site_header steps_sheet ≡ []
