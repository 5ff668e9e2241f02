-- The numbers of writing and reading. 02, C-11: "writing, 11 for a door or person over 63 or a reason that doesn't fit the event, then
-- 13 if the lent buffer is too short; reading, 15 if the bytes aren't such a line". C-12: "writing, 11 for a held door that is over 63 or
-- doesn't fit the reason; reading, 15 without it".
use Rattle.std.specs.Prelude.{ℕ, Option, Result}
use Rattle.numbers.specs.Numbers.{no_such_no, too_short_no, not_aline_no}
use Rattle.numbers.specs.Told.{told_no}
use Rattle.findings.specs.declared.TooShort.{TooShort}
use Rattle.syslog.specs.declared.LineEvent.{LineEvent}
use Rattle.syslog.specs.declared.Unwritten.{Unwritten}
use Rattle.syslog.specs.declared.Unwritten.TheVariants as unwritten
use Rattle.syslog.specs.declared.NotOurs.{NotOurs}

-- why a line or a frame isn't written, and that bytes are none of ours
abbrev pub unwritten_no : Unwritten → ℕ
unwritten_no unwritten.Unfit = no_such_no
unwritten_no unwritten.TooShort = too_short_no

abbrev pub not_ours_no : NotOurs → ℕ
not_ours_no others = not_aline_no

-- a list that is too short, as a refusal of writing
abbrev pub short_line : TooShort → Unwritten
short_line short = unwritten.TooShort

abbrev pub written_no : Result ℕ Unwritten → ℕ
written_no told = told_no unwritten_no told

abbrev pub line_read_no : Result LineEvent NotOurs → ℕ
line_read_no told = told_no not_ours_no told

abbrev pub frame_read_no : Result (Option (LineEvent × ℕ)) NotOurs → ℕ
frame_read_no told = told_no not_ours_no told
