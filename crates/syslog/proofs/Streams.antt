-- Streams: what is told of a place and of a whole stream is one thing, and a stream of frames reads as its events. Assumes nothing.
use Prim.Native.Nat.{ℕ, zero, suc, ◌+◌, ◌-◌, ◌<◌}
use mathlib.Core.Path.{◌≡◌, refl, sym, ap, subst}
use mathlib.Core.Bool.{Bool, true, false}
use mathlib.Core.List.{List, [], ◌∷◌, ◌++◌, append_assoc, append-nil}
use native.Mathlib.Omega.{arith}
use lib.ListN.{length, length-append}
use Rattle.std.specs.Prelude.{Option, Some, None, Result, Ok, Err}
use Rattle.syslog.specs.declared.LineEvent.{LineEvent}
use Rattle.syslog.specs.declared.NotOurs.{NotOurs}
use Rattle.syslog.specs.Line.{framed_of, stream_of, AllFit, no_more, fits}
use Rattle.syslog.specs.Reading.{ReadsLine, FrameAt, ReadsFrame, StreamSays, ends, breaks, more, StreamReading}
use Rattle.syslog.proofs.Finding.{line_once, frame_once, frame_onward, frame_reads}

-- ---- one answer

pub line_told_once : (text : List ℕ) (a b : Result LineEvent NotOurs) → ReadsLine text a → ReadsLine text b → a ≡ b
line_told_once text (Ok e) (Ok f) x y = ap Ok (line_once x y)
line_told_once text (Ok e) (Err others) x y = absurd (y e x)
line_told_once text (Err others) (Ok f) x y = absurd (x f y)
line_told_once text (Err these) (Err those) x y = refl

pub no_end : {s : List ℕ} {at : ℕ} {e : LineEvent} {next : ℕ} → FrameAt s at e next → at ≡ length s → ⊥
no_end x e = let o = frame_onward x in omega (arith, o.0, o.1)

pub frame_told_once : (s : List ℕ) (at : ℕ) (a b : Result (Option (LineEvent × ℕ)) NotOurs) → ReadsFrame s at a → ReadsFrame s at b → a ≡ b
frame_told_once s at (Ok (Some (e, n))) (Ok (Some (f, m))) x y = let z = frame_once x y in rw (z.0, z.1)
frame_told_once s at (Ok (Some (e, n))) (Ok None) x y = absurd (no_end x y)
frame_told_once s at (Ok (Some (e, n))) (Err others) x y = absurd (y.1 e n x)
frame_told_once s at (Ok None) (Ok (Some (f, m))) x y = absurd (no_end y x)
frame_told_once s at (Ok None) (Ok None) x y = refl
frame_told_once s at (Ok None) (Err others) x y = absurd (y.0 x)
frame_told_once s at (Err others) (Ok (Some (f, m))) x y = absurd (x.1 f m y)
frame_told_once s at (Err others) (Ok None) x y = absurd (x.0 y)
frame_told_once s at (Err these) (Err those) x y = refl

-- ---- one reading of a stream

pub says_once : {s : List ℕ} {at : ℕ} {es fs : List LineEvent} {v w : Bool} → StreamSays s at es v → StreamSays s at fs w → (es ≡ fs) × (v ≡ w)
says_once (ends x) (ends y) = (refl, refl)
says_once (ends x) (breaks y) = absurd (y.0 x)
says_once (ends x) (more y on) = absurd (no_end y x)
says_once (breaks x) (ends y) = absurd (x.0 y)
says_once (breaks x) (breaks y) = (refl, refl)
says_once (breaks x) (more {next} {e} y on) = absurd (x.1 e next y)
says_once (more x on) (ends y) = absurd (no_end x y)
says_once (more {next} {e} x on) (breaks y) = absurd (y.1 e next x)
says_once {s} {w = w} (more x on) (more {es = fs} y on') =
    let z = frame_once x y in
    let r = says_once {w = w} on (subst (λ (n : ℕ). StreamSays s n fs w) (sym z.1) on') in
    (rw (z.0, r.0), r.1)

-- ---- a stream of frames

behind_front : (es : List LineEvent) (front : List ℕ) → AllFit es → StreamSays (front ++ stream_of es) (length front) es true
unfolding stream_of
behind_front [] front no_more = ends (ap length (sym (append-nil front)))
behind_front (e ∷ es) front (fits f on) =
    let l : length (front ++ framed_of e) ≡ length front + length (framed_of e) = length-append front (framed_of e) in
    let rest = behind_front es (front ++ framed_of e) on in
    more {next = length front + length (framed_of e)}
    (record { fits = f; front = front; rest = stream_of es; split = refl; place = refl; behind_it = refl })
    (rw (append_assoc, l) at rest)

pub stream_back : (es : List LineEvent) → AllFit es → StreamSays (stream_of es) 0 es true
stream_back es f = behind_front es [] f

-- ---- every stream reads as something

-- `left` bounds what is left of the stream
reads_on : (s : List ℕ) (left at : ℕ) → length s - at < left → StreamReading s at
reads_on s zero at h = absurd (omega arith)
reads_on s (suc left) at h = go (frame_reads s at).0 (frame_reads s at).1 (reads_on s left)
  where
    go : (told : Result (Option (LineEvent × ℕ)) NotOurs) → ReadsFrame s at told → ((next : ℕ) → length s - next < left → StreamReading s next) → StreamReading s at
    go (Ok None) x on = record { events = []; whole = true; says = ends x }
    go (Err others) x on = record { events = []; whole = false; says = breaks x }
    go (Ok (Some (e, next))) x on =
        let o = frame_onward x in
        let r = on next (omega (arith, o.0, o.1)) in
        record { events = e ∷ r.events; whole = r.whole; says = more x r.says }

pub stream_reads : (s : List ℕ) (at : ℕ) → StreamReading s at
stream_reads s at = reads_on s (length s + 1) at (omega arith)
