-- The theorems of syslog lines by name; what the longer ones say is in specs/Claims.antt. 02, C-11 and C-12. Assumes nothing.
--     lines-are-rfc5424      every line is a message by RFC 5424, and its PRI says the facility and the severity
--     frames-are-rfc6587     every frame is one by RFC 6587, and its number is the line's length in octets
--     streams-are-tcp-data   every stream is a run of such frames
--     read-back              what is written for an event reads as that event
--     only-lines-read        what reads as an event is its line; every other list of bytes gets 15
--     only-frames-read       the same of the frame at a place of a stream
--     lines-apart            no two events share a line
--     held-with-reason-3     a denial with reason 3 ends in its held door and isn't read without it; ` held=` stands nowhere else in a line
--     streams-apart          no two lists of events share a run of framed lines
--     stream-read-back       reading frame after frame gives the very list of events, and stops at the end
--     one-stream-reading            and no stream has two readings
--     every-line-reads, every-frame-reads, every-stream-reads      and each list of bytes has one
use Prim.Native.Nat.{ℕ}
use mathlib.Core.Path.{◌≡◌, refl, sym, subst}
use mathlib.Core.Bool.{Bool, true}
use mathlib.Core.List.{List}
use Rattle.std.specs.Prelude.{Option, Some, None, Result, Ok, Err}
use Rattle.syslog.specs.declared.LineEvent.{LineEvent}
use Rattle.syslog.specs.declared.NotOurs.{NotOurs}
use Rattle.syslog.specs.Line.{line_of, stream_of, Fits, AllFit}
use Rattle.syslog.specs.Rfc.{TcpData}
use Rattle.syslog.specs.Reading.{not_ours, LineIs, ReadsLine, ReadsFrame, StreamSays, StreamReading}
use Rattle.syslog.specs.Claims.{LineIsRfc5424, FrameIsRfc6587, ReadBack, OnlyLinesRead, OnlyFramesRead, HeldWithReason3}
use Rattle.syslog.proofs.Message.{line_message, frame_frame, stream_data}
use Rattle.syslog.proofs.Finding.{line_once, line_reads, frame_reads}
use Rattle.syslog.proofs.Held.{held_reason_3}
use Rattle.syslog.proofs.Streams.{line_told_once, frame_told_once, says_once, stream_back, stream_reads}
use Rattle.syslog.proofs.Written.{written_line, written_frame}

pub lines_are_rfc5424 : (e : LineEvent) → LineIsRfc5424 e
lines_are_rfc5424 = line_message

pub frames_are_rfc6587 : (e : LineEvent) → FrameIsRfc6587 e
frames_are_rfc6587 = frame_frame

pub streams_are_tcp_data : (es : List LineEvent) → TcpData (stream_of es)
streams_are_tcp_data = stream_data

pub only_lines_read : (text : List ℕ) (told : Result LineEvent NotOurs) → ReadsLine text told → OnlyLinesRead text told
only_lines_read text told x =
    record {
      event_yes = λ e is. subst (ReadsLine text) is x;
      event_back = λ e l. line_told_once text told (Ok e) x l;
      refused_yes = λ is. subst (ReadsLine text) is x;
      refused_back = λ none. line_told_once text told (Err not_ours) x none;
    }

pub only_frames_read : (s : List ℕ) (at : ℕ) (told : Result (Option (LineEvent × ℕ)) NotOurs) → ReadsFrame s at told → OnlyFramesRead s at told
only_frames_read s at told x =
    record {
      event_yes = λ e next is. subst (ReadsFrame s at) is x;
      event_back = λ e next l. frame_told_once s at told (Ok (Some (e, next))) x l;
      end_yes = λ is. subst (ReadsFrame s at) is x;
      end_back = λ end. frame_told_once s at told (Ok None) x end;
      refused_yes = λ is. subst (ReadsFrame s at) is x;
      refused_back = λ inside none. frame_told_once s at told (Err not_ours) x (inside, none);
    }

pub read_back : (e : LineEvent) → Fits e → ReadBack e
read_back e f =
    let is : LineIs (line_of e) e = record { fits = f; is = refl } in
    record {
      line_reads = is;
      line_once = λ told x. line_told_once (line_of e) told (Ok e) x is;
      line_written = written_line e f;
      frame_written = written_frame e f;
    }

pub lines_apart : (e f : LineEvent) → Fits e → Fits f → line_of e ≡ line_of f → e ≡ f
lines_apart e f a b same = line_once (record { fits = a; is = refl }) (record { fits = b; is = same })

pub held_with_reason_3 : HeldWithReason3
held_with_reason_3 = held_reason_3

pub one_stream_reading : (s : List ℕ) (at : ℕ) (es fs : List LineEvent) (v w : Bool) → StreamSays s at es v → StreamSays s at fs w → (es ≡ fs) × (v ≡ w)
one_stream_reading s at es fs v w x y = says_once x y

pub stream_read_back : (es : List LineEvent) → AllFit es → StreamSays (stream_of es) 0 es true
stream_read_back = stream_back

pub streams_apart : (es fs : List LineEvent) → AllFit es → AllFit fs → stream_of es ≡ stream_of fs → es ≡ fs
streams_apart es fs a b same = (says_once (stream_back es a) (subst (λ (s : List ℕ). StreamSays s 0 fs true) (sym same) (stream_back fs b))).0

pub every_line_reads : (text : List ℕ) → (told : Result LineEvent NotOurs) × ReadsLine text told
every_line_reads = line_reads

pub every_frame_reads : (s : List ℕ) (at : ℕ) → (told : Result (Option (LineEvent × ℕ)) NotOurs) × ReadsFrame s at told
every_frame_reads = frame_reads

pub every_stream_reads : (s : List ℕ) → StreamReading s 0
every_stream_reads s = stream_reads s 0
