-- The three questions and their answers, by the paper's numbers and values (01, "Steps": "The questions").
use Rattle.std.specs.Prelude.{ℕ, Bool, cond, List, get_or, ltb, eqb, Option, Result, Ok, Err}
use Rattle.numbers.specs.Numbers.{done_no, no_such_no, unsound_no}
use Rattle.tables.specs.Way.{way_of, way_told_in, way_written_in}
use Rattle.findings.specs.Told.{way_told_no, short_way}
use Rattle.findings.specs.declared.TooShort.{TooShort}
use Rattle.findings.specs.declared.Refused.{Refused}
use Rattle.findings.specs.declared.Refused.TheVariants as refused
use Rattle.findings.specs.declared.WayRefused.{WayRefused}
use Rattle.findings.specs.declared.WayRefused.TheVariants as answer
use Rattle.record.specs.declared.record.Record.{Record}
use Rattle.granting.specs.Grants.{grant_of}
use Rattle.record.specs.SoundTest.{sound_b}

-- "Steps and questions: 14, then 11, ..": the number of a question about a person or a location who is there, or isn't
unfoldable pub asked_no : Record → Bool → ℕ
asked_no r exists = cond (sound_b r) (cond exists done_no no_such_no) unsound_no

-- "A refused question tells its number, and 0 or none for all else."
abbrev pub unless_refused : {A : Type 0} → ℕ → A → A → A
unless_refused number value none = cond (eqb number done_no) value none

-- "where is a person"
unfoldable pub place_of : Record → ℕ → Result ℕ Refused
place_of r p = cond (sound_b r) (cond (ltb p r.people) (Ok (get_or r.place p 0)) (Err refused.NoSuch)) (Err refused.Unsound)

-- "which door is granted to a person (or none)"
unfoldable pub granted_to : Record → ℕ → Result (Option ℕ) Refused
granted_to r p =
    cond (sound_b r) (cond (ltb p r.people) (Ok (grant_of r.doors r.phase r.holder p)) (Err refused.NoSuch)) (Err refused.Unsound)

-- "the way out of a location, written into the front of a lent list with its length told, the rest of the list unaltered"
abbrev pub way_found : Result ℕ TooShort → Result ℕ WayRefused
way_found (Ok n) = Ok n
way_found (Err short) = Err (short_way short)

unfoldable pub way_answer_of : Record → ℕ → List ℕ → Result ℕ WayRefused
way_answer_of r l list =
    cond (sound_b r)
    (cond (ltb l r.locations) (way_found (way_told_in (way_of r.locations r.exit l) list)) (Err answer.NoSuch))
    (Err answer.Unsound)

unfoldable pub way_written : Record → ℕ → List ℕ → List ℕ
way_written r l list = cond (sound_b r) (cond (ltb l r.locations) (way_written_in (way_of r.locations r.exit l) list) list) list

-- ".. then 12 or 13": the number of the question for a way out, with this list lent
unfoldable pub way_asked_no : Record → ℕ → List ℕ → ℕ
way_asked_no r l list =
    unless_refused (asked_no r (ltb l r.locations)) (way_told_no (way_told_in (way_of r.locations r.exit l) list)) (asked_no r (ltb l r.locations))
