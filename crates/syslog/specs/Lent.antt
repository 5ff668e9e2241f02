-- A line or a frame in a lent list. 02, C-11: "writing, 11 for a door or person over 63 or a reason that doesn't fit the event, then 13
-- if the lent buffer is too short". C-12: "11 for a held door that is over 63 or doesn't fit the reason".
use Rattle.std.specs.Prelude.{ℕ, ◌≡◌, cond, List, length, Result, Ok, Err}
use Rattle.text.specs.Printed.{fits_in, written}
use Rattle.syslog.specs.declared.LineEvent.{LineEvent}
use Rattle.syslog.specs.declared.Unwritten.{Unwritten}
use Rattle.syslog.specs.declared.Unwritten.TheVariants as unwritten
use Rattle.syslog.specs.Line.{fits_line}
use Rattle.syslog.specs.Numbers.{short_line}
use Rattle.findings.specs.declared.TooShort.{TooShort}

-- the text of an event is told by its length
unfoldable pub written_of : LineEvent → List ℕ → List ℕ → Result ℕ Unwritten
written_of e text out = cond (fits_line e) (cond (fits_in text out) (Ok (length text)) (Err unwritten.TooShort)) (Err unwritten.Unfit)

-- and stands at the list's front with the rest unaltered; else nothing is written
unfoldable pub list_with : LineEvent → List ℕ → List ℕ → List ℕ
list_with e text out = cond (fits_line e) (written text out) out

-- what is promised of writing the text of an event into a lent list: what is told, and what the list holds at exit
pub record Writes (e : LineEvent) (text before : List ℕ) (told : Result ℕ Unwritten) (after : List ℕ) : Type 0 where
  pub answer : told ≡ written_of e text before
  pub list : after ≡ list_with e text before

-- what is told of the text of an event that fits
abbrev pub as_line : Result ℕ TooShort → Result ℕ Unwritten
as_line (Ok n) = Ok n
as_line (Err short) = Err (short_line short)
