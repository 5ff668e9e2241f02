-- Our lines, frames and streams, in bytes. 02, C-11: "For each grant, denial, passage and lapse the panel writes one, such as
-- `<86>1 - - - - GRANT - door=3 person=1`." C-12: "DENY lines with reason 3 end in ` held=` and the door".
use Rattle.std.specs.Prelude.{ℕ, ◌+◌, ◌*◌, ◌≤◌, ◌≡◌, Bool, cond, List, [], ◌∷◌, ◌++◌, length, leb, eqb}
use Rattle.tables.specs.Tables.{and_also}
use Rattle.text.specs.Text.{decimal}
use Rattle.syslog.specs.declared.Msgid.{Msgid}
use Rattle.syslog.specs.declared.Msgid.TheVariants.{Grant, Deny, Pass, Lapse}
use Rattle.syslog.specs.declared.LineEvent.{LineEvent}

-- ---- the parts of a line

-- "Facility is 10; severity is 6, but 5 for a denial"
abbrev pub facility : ℕ
facility = 10

abbrev pub severity_of : Msgid → ℕ
severity_of Grant = 6
severity_of Deny = 5
severity_of Pass = 6
severity_of Lapse = 6

-- "The four MSGIDs are GRANT, DENY, PASS, LAPSE."
abbrev pub name_of : Msgid → List ℕ
name_of Grant = 71 ∷ 82 ∷ 65 ∷ 78 ∷ 84 ∷ []
name_of Deny = 68 ∷ 69 ∷ 78 ∷ 89 ∷ []
name_of Pass = 80 ∷ 65 ∷ 83 ∷ 83 ∷ []
name_of Lapse = 76 ∷ 65 ∷ 80 ∷ 83 ∷ 69 ∷ []

-- `door=`, ` person=`, ` reason=` and ` held=`
abbrev pub door_mark : List ℕ
door_mark = 100 ∷ 111 ∷ 111 ∷ 114 ∷ 61 ∷ []

abbrev pub person_mark : List ℕ
person_mark = 32 ∷ 112 ∷ 101 ∷ 114 ∷ 115 ∷ 111 ∷ 110 ∷ 61 ∷ []

abbrev pub reason_mark : List ℕ
reason_mark = 32 ∷ 114 ∷ 101 ∷ 97 ∷ 115 ∷ 111 ∷ 110 ∷ 61 ∷ []

abbrev pub held_mark : List ℕ
held_mark = 32 ∷ 104 ∷ 101 ∷ 108 ∷ 100 ∷ 61 ∷ []

-- the reason that is told with a door: 01, "Steps", "3 (grant elsewhere)"
abbrev pub held_reason : ℕ
held_reason = 3

-- "DENY lines with reason 3 end in ` held=` and the door"
abbrev pub held_part : ℕ → ℕ → List ℕ
held_part reason held = cond (eqb reason held_reason) (held_mark ++ decimal held) []

-- "a denial, which adds ` reason=` and the number"
abbrev pub reason_part : Msgid → ℕ → ℕ → List ℕ
reason_part Grant reason held = []
reason_part Deny reason held = reason_mark ++ (decimal reason ++ held_part reason held)
reason_part Pass reason held = []
reason_part Lapse reason held = []

-- `door=3 person=1`: "Numbers are decimal, without needless zeros."
abbrev pub message_of : LineEvent → List ℕ
message_of e = door_mark ++ (decimal e.door ++ (person_mark ++ (decimal e.person ++ reason_part e.msgid e.reason e.held)))

-- `<86>1 - - - - GRANT - `: version 1; "The time is nil", and so are the host, the program, its number and the structured data
unfoldable pub line_of : LineEvent → List ℕ
line_of e =
    60 ∷ (decimal (facility * 8 + severity_of e.msgid)
    ++ (62 ∷ 49 ∷ 32 ∷ 45 ∷ 32 ∷ 45 ∷ 32 ∷ 45 ∷ 32 ∷ 45 ∷ 32 ∷ (name_of e.msgid ++ (32 ∷ 45 ∷ 32 ∷ message_of e))))

-- its beginning, up to the door's number, and what follows; `head_and_tail` in proofs/Lengths.antt says that these are the line
abbrev pub head_of : Msgid → List ℕ
head_of m =
    60 ∷ (decimal (facility * 8 + severity_of m)
    ++ (62 ∷ 49 ∷ 32 ∷ 45 ∷ 32 ∷ 45 ∷ 32 ∷ 45 ∷ 32 ∷ 45 ∷ 32 ∷ (name_of m ++ (32 ∷ 45 ∷ 32 ∷ door_mark))))

abbrev pub tail_of : LineEvent → List ℕ
tail_of e = decimal e.door ++ (person_mark ++ (decimal e.person ++ reason_part e.msgid e.reason e.held))

-- "On a stream the octet count of RFC 6587 stands in front, here `37 `."
unfoldable pub framed_of : LineEvent → List ℕ
framed_of e = decimal (length (line_of e)) ++ (32 ∷ line_of e)

-- a stream: frames, one behind the other
unfoldable pub stream_of : List LineEvent → List ℕ
stream_of [] = []
stream_of (e ∷ es) = framed_of e ++ stream_of es

-- ---- which events have a line

-- "a door or person over 63" has none
abbrev pub most_number : ℕ
most_number = 63

-- "or a reason that doesn't fit the event": a denial has one of the three reasons (01, "Steps"), nothing else has one
abbrev pub ReasonFits : Msgid → ℕ → Type 0
ReasonFits Grant reason = reason ≡ 0
ReasonFits Deny reason = (1 ≤ reason) × (reason ≤ 3)
ReasonFits Pass reason = reason ≡ 0
ReasonFits Lapse reason = reason ≡ 0

-- C-12: "a held door that is over 63 or doesn't fit the reason": with reason 3 it is a door, with any other 0
abbrev pub HeldFits : ℕ → ℕ → Type 0
HeldFits reason held = (reason ≡ held_reason → held ≤ most_number) × ((reason ≡ held_reason → ⊥) → held ≡ 0)

pub record Fits (e : LineEvent) : Type 0 where
  pub door : e.door ≤ most_number
  pub person : e.person ≤ most_number
  pub reason : ReasonFits e.msgid e.reason
  pub held : HeldFits e.reason e.held

-- the same as a test; `fits_tells` in proofs/Fit.antt says so
unfoldable pub reason_fits : Msgid → ℕ → Bool
reason_fits Grant reason = eqb reason 0
reason_fits Deny reason = and_also (leb 1 reason) (leb reason 3)
reason_fits Pass reason = eqb reason 0
reason_fits Lapse reason = eqb reason 0

unfoldable pub held_fits : ℕ → ℕ → Bool
held_fits reason held = cond (eqb reason held_reason) (leb held most_number) (eqb held 0)

unfoldable pub fits_line : LineEvent → Bool
fits_line e =
    and_also (leb e.door most_number)
    (and_also (leb e.person most_number) (and_also (reason_fits e.msgid e.reason) (held_fits e.reason e.held)))

-- each event of a list has a line
pub data AllFit : List LineEvent → Type 0 where
  no_more : AllFit []
  fits : {e : LineEvent} {es : List LineEvent} → Fits e → AllFit es → AllFit (e ∷ es)
