-- What a list of bytes reads as. 02, C-11: "Wanted too is the reader that gives the event back from such a line", "reading, 15 if the
-- bytes aren't such a line". C-12: "15 without it", the held door of a DENY line with reason 3; such bytes are the line of no event.
use Rattle.std.specs.Prelude.{ℕ, ◌+◌, ◌≡◌, Bool, true, false, List, [], ◌∷◌, ◌++◌, length, Option, Some, None, Result, Ok, Err}
use Rattle.syslog.specs.declared.LineEvent.{LineEvent}
use Rattle.syslog.specs.declared.NotOurs.{NotOurs}
use Rattle.syslog.specs.Line.{line_of, framed_of, Fits}

-- they are no line, or no frame, of ours
abbrev pub not_ours : NotOurs
not_ours = record {}

-- the bytes are the line of an event that fits, and nothing more
pub record LineIs (text : List ℕ) (e : LineEvent) : Type 0 where
  pub fits : Fits e
  pub is : text ≡ line_of e

-- what is told of them: that event, or that there is none
abbrev pub ReadsLine : List ℕ → Result LineEvent NotOurs → Type 0
ReadsLine text (Ok e) = LineIs text e
ReadsLine text (Err others) = (e : LineEvent) → LineIs text e → ⊥

-- at a place of a stream begins the frame of an event that fits, and `next` is the place behind it
pub record FrameAt (s : List ℕ) (at : ℕ) (e : LineEvent) (next : ℕ) : Type 0 where
  pub fits : Fits e
  pub front : List ℕ
  pub rest : List ℕ
  pub split : s ≡ front ++ (framed_of e ++ rest)
  pub place : at ≡ length front
  pub behind_it : next ≡ at + length (framed_of e)

-- what is told of a place: the event and the place behind its frame; that the stream ends there; or that it does neither
abbrev pub ReadsFrame : List ℕ → ℕ → Result (Option (LineEvent × ℕ)) NotOurs → Type 0
ReadsFrame s at (Ok (Some (e, next))) = FrameAt s at e next
ReadsFrame s at (Ok None) = at ≡ length s
ReadsFrame s at (Err others) = (at ≡ length s → ⊥) × ((e : LineEvent) (next : ℕ) → FrameAt s at e next → ⊥)

-- a stream from a place on, frame after frame: its events, and whether it ends behind them (`true`) or has something else there
pub data StreamSays (s : List ℕ) : ℕ → List LineEvent → Bool → Type 0 where
  ends : {at : ℕ} → ReadsFrame s at (Ok None) → StreamSays s at [] true
  breaks : {at : ℕ} → ReadsFrame s at (Err not_ours) → StreamSays s at [] false
  more : {at next : ℕ} {e : LineEvent} {es : List LineEvent} {whole : Bool} → ReadsFrame s at (Ok (Some (e, next))) → StreamSays s next es whole
      → StreamSays s at (e ∷ es) whole

-- what a stream says from a place on
pub record StreamReading (s : List ℕ) (at : ℕ) : Type 0 where
  pub events : List LineEvent
  pub whole : Bool
  pub says : StreamSays s at events whole
