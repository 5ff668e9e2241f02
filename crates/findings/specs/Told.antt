-- What is told of a text, of a way out and of a question, by the numbers of 01, "Numbers given back". "A refused question tells its
-- number, and 0 or none for all else."
use Rattle.std.specs.Prelude.{ℕ, Option, None, Result, Ok, Err}
use Rattle.numbers.specs.Numbers.{no_such_no, too_short_no, unsound_no}
use Rattle.numbers.specs.Told.{told_no}
use Rattle.findings.specs.declared.TooShort.{TooShort}
use Rattle.findings.specs.declared.Refused.{Refused}
use Rattle.findings.specs.declared.Refused.TheVariants as refused
use Rattle.findings.specs.declared.WayRefused.{WayRefused}
use Rattle.findings.specs.declared.WayRefused.TheVariants as way

-- the list is too short
abbrev pub too_short : TooShort
too_short = record {}

-- 13: "list lent .. is shorter"
abbrev pub short_no : TooShort → ℕ
short_no short = too_short_no

-- a way that was written, by the paper's number and the length
abbrev pub way_told_no : Result ℕ TooShort → ℕ
way_told_no told = told_no short_no told

abbrev pub way_told_length : Result ℕ TooShort → ℕ
way_told_length (Ok n) = n
way_told_length (Err short) = 0

-- a text that was printed
abbrev pub printed_no : Result ℕ TooShort → ℕ
printed_no told = told_no short_no told

-- why a question is refused
abbrev pub refused_no : Refused → ℕ
refused_no refused.NoSuch = no_such_no
refused_no refused.Unsound = unsound_no

-- where a person is: its number, and the location
abbrev pub place_no : Result ℕ Refused → ℕ
place_no told = told_no refused_no told

abbrev pub place_told : Result ℕ Refused → ℕ
place_told (Ok l) = l
place_told (Err refusal) = 0

-- which door is granted to a person: its number, and the door
abbrev pub grant_no : Result (Option ℕ) Refused → ℕ
grant_no told = told_no refused_no told

abbrev pub grant_told : Result (Option ℕ) Refused → Option ℕ
grant_told (Ok door) = door
grant_told (Err refusal) = None

-- why the question for a way out is refused
abbrev pub way_refused_no : WayRefused → ℕ
way_refused_no way.NoSuch = no_such_no
way_refused_no way.TooShort = too_short_no
way_refused_no way.Unsound = unsound_no

-- the way out: its number, and its length
abbrev pub way_no : Result ℕ WayRefused → ℕ
way_no told = told_no way_refused_no told

abbrev pub length_told : Result ℕ WayRefused → ℕ
length_told (Ok n) = n
length_told (Err refusal) = 0

-- a refused question for a person or a location, and a list that is too short, as refusals of the question for a way out
abbrev pub refused_way : Refused → WayRefused
refused_way refused.NoSuch = way.NoSuch
refused_way refused.Unsound = way.Unsound

abbrev pub short_way : TooShort → WayRefused
short_way short = way.TooShort
