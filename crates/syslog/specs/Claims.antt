-- What the theorems of proofs/Theorems.antt say, where that takes more than a line. 02, C-11 and C-12, and the RFCs.
use Rattle.std.specs.Prelude.{ℕ, ◌+◌, ◌*◌, ◌≡◌, List, [], ◌∷◌, ◌++◌, length, take, Option, Some, None, Result, Ok, Err}
use Rattle.text.specs.Text.{decimal}
use Rattle.syslog.specs.declared.Msgid.TheVariants.{Deny}
use Rattle.syslog.specs.declared.LineEvent.{LineEvent}
use Rattle.syslog.specs.declared.NotOurs.{NotOurs}
use Rattle.syslog.specs.Line.{facility, severity_of, name_of, person_mark, reason_mark, held_mark, message_of, line_of, head_of, framed_of}
use Rattle.syslog.specs.Rfc.{number_said, Priority, nil_value, SyslogMsg, IsSyslogMsg, IsFrame}
use Rattle.syslog.specs.Reading.{not_ours, LineIs, ReadsLine, FrameAt}
use Rattle.syslog.specs.Lent.{Writes}

-- the parts of an event's line. The issue of C-11: "every other header field nil"
abbrev pub parts_of : LineEvent → SyslogMsg
parts_of e =
    record {
      pri = decimal (facility * 8 + severity_of e.msgid);
      version = 49 ∷ [];
      timestamp = nil_value;
      hostname = nil_value;
      app_name = nil_value;
      procid = nil_value;
      msgid = name_of e.msgid;
      structured_data = nil_value;
      ending = 32 ∷ message_of e;
    }

-- an event's line is a message by RFC 5424 with these parts, and its PRI says the facility and the severity
pub record LineIsRfc5424 (e : LineEvent) : Type 0 where
  pub message : IsSyslogMsg (line_of e) (parts_of e)
  pub priority : Priority (number_said (parts_of e).pri) facility (severity_of e.msgid)

-- an event's frame is one by RFC 6587 with the same parts, and its number is the line's length
pub record FrameIsRfc6587 (e : LineEvent) : Type 0 where
  pub frame : IsFrame (framed_of e) (parts_of e)
  pub count : (frame).count ≡ decimal (length (line_of e))
  pub line : (frame).message ≡ line_of e

-- what is written for an event reads as that event: the line, and the frame at the front of a stream
pub record ReadBack (e : LineEvent) : Type 0 where
  pub line_reads : LineIs (line_of e) e
  pub line_once : (told : Result LineEvent NotOurs) → ReadsLine (line_of e) told → told ≡ Ok e
  -- whatever the lent list held before: the bytes that are told of are read back
  pub line_written : (before after : List ℕ) (n : ℕ) → Writes e (line_of e) before (Ok n) after → take n after ≡ line_of e
  pub frame_written : (before after : List ℕ) (n : ℕ) → Writes e (framed_of e) before (Ok n) after → FrameAt after 0 e n

-- what is told of some bytes is an event exactly when they are its line, and 15 exactly when they are no line of ours
pub record OnlyLinesRead (text : List ℕ) (told : Result LineEvent NotOurs) : Type 0 where
  pub event_yes : (e : LineEvent) → told ≡ Ok e → LineIs text e
  pub event_back : (e : LineEvent) → LineIs text e → told ≡ Ok e
  pub refused_yes : told ≡ Err not_ours → (e : LineEvent) → LineIs text e → ⊥
  pub refused_back : ((e : LineEvent) → LineIs text e → ⊥) → told ≡ Err not_ours

-- the same of the frame at a place of a stream, and of the stream's end
pub record OnlyFramesRead (s : List ℕ) (at : ℕ) (told : Result (Option (LineEvent × ℕ)) NotOurs) : Type 0 where
  pub event_yes : (e : LineEvent) (next : ℕ) → told ≡ Ok (Some (e, next)) → FrameAt s at e next
  pub event_back : (e : LineEvent) (next : ℕ) → FrameAt s at e next → told ≡ Ok (Some (e, next))
  pub end_yes : told ≡ Ok None → at ≡ length s
  pub end_back : at ≡ length s → told ≡ Ok None
  pub refused_yes : told ≡ Err not_ours → (at ≡ length s → ⊥) × ((e : LineEvent) (next : ℕ) → FrameAt s at e next → ⊥)
  pub refused_back : (at ≡ length s → ⊥) → ((e : LineEvent) (next : ℕ) → FrameAt s at e next → ⊥) → told ≡ Err not_ours

-- a denial with reason 3 that ends there
abbrev pub without_held : ℕ → ℕ → List ℕ
without_held door person = head_of Deny ++ (decimal door ++ (person_mark ++ (decimal person ++ (reason_mark ++ decimal 3))))

-- ` held=` and a door
abbrev pub held_text : ℕ → List ℕ
held_text held = held_mark ++ decimal held

-- these bytes with ` held=` between them are the line of a denial with reason 3, up to its end
pub record EndsInHeld (front rest : List ℕ) (e : LineEvent) : Type 0 where
  pub denial : e.msgid ≡ Deny
  pub reason : e.reason ≡ 3
  pub before : front ≡ without_held e.door e.person
  pub behind : rest ≡ decimal e.held

-- C-12: "DENY lines with reason 3 end in ` held=` and the door", "reading, 15 without it"
pub record HeldWithReason3 : Type 0 where
  pub ends_in_it : (door person held : ℕ)
      → line_of (record { msgid = Deny; door = door; person = person; reason = 3; held = held }) ≡ without_held door person ++ held_text held
  pub not_without : (door person : ℕ) → ReadsLine (without_held door person) (Err not_ours)
  -- the issue of C-12: 15 "for a ` held=` anywhere else". Bytes that have one somewhere are a line of ours in this way alone
  pub nowhere_else : (front rest : List ℕ) (e : LineEvent) → LineIs (front ++ (held_mark ++ rest)) e → EndsInHeld front rest e
