-- The loop over the frames of a stream: what is still to be written is the rows of what the rest of the stream says. Assumes nothing.
use Prim.Native.Nat.{ℕ, ◌≤◌}
use mathlib.Core.Path.{◌≡◌, refl, sym, ap, subst, ◌∙◌}
use mathlib.Core.Bool.{Bool}
use mathlib.Core.List.{List}
use lib.ListN.{length}
use lib.Seq.{length-sets}
use Rattle.numbers.specs.Numbers.{not_aline_no}
use Rattle.text.specs.Wrote.{last_place, Wrote}
use Rattle.text.proofs.Writing.{Pending, begun, more, last, ended}
use Rattle.syslog.specs.declared.LineEvent.{LineEvent}
use Rattle.syslog.specs.Reading.{FrameAt, StreamSays, ends, breaks, more as then}
use Rattle.syslog.specs.Rows.{event_row, refused_row, event_rows, PutsEvents}
use Rattle.syslog.proofs.Finding.{frame_once}
use Rattle.syslog.proofs.Streams.{no_end}

-- what is left of a stream that says these events
pub record RowsLeft (stream before : List ℕ) (at : ℕ) (out : List ℕ) (next place : ℕ) (es : List LineEvent) (whole : Bool) : Type 0 where
  pub left : List LineEvent
  pub says : StreamSays stream place left whole
  pub pending : Pending before at (event_rows es whole) out next (event_rows left whole)

pub record Rowing (stream before : List ℕ) (at : ℕ) (out : List ℕ) (next place : ℕ) : Type 0 where
  pub long : length out ≡ length before
  pub each : (es : List LineEvent) (whole : Bool) → StreamSays stream 0 es whole → RowsLeft stream before at out next place es whole

pub rowing_start : {stream before : List ℕ} {at : ℕ} → length before ≤ last_place → at ≤ last_place → Rowing stream before at before at 0
rowing_start f t = record { long = refl; each = λ es whole s. record { left = es; says = s; pending = begun f t } }

module _ {stream before : List ℕ} {at : ℕ} {out : List ℕ} {next place : ℕ} (r : Rowing stream before at out next place) where
  -- a frame is there, and its row is written
  pub rowing_more : {e : LineEvent} {behind seam : ℕ} {after : List ℕ} → FrameAt stream place e behind → Wrote out next (event_row e) after seam
      → Rowing stream before at after seam behind
  unfolding event_rows
  rowing_more {e} {behind} {seam} {after} x w = record { long = ap length w.list ∙ length-sets out next (event_row e) ∙ r.long; each = λ es whole s. go es whole (r.each es whole s).left (r.each es whole s).says (r.each es whole s).pending }
    where
      go : (es : List LineEvent) (whole : Bool) (left : List LineEvent) → StreamSays stream place left whole
          → Pending before at (event_rows es whole) out next (event_rows left whole) → RowsLeft stream before at after seam behind es whole
      go es whole left (ends end) p = absurd (no_end x end)
      go es whole left (breaks none) p = absurd (none.1 e behind x)
      go es whole left (then {es = rest} y on) p =
          let z = frame_once x y in
          record {
            left = rest;
            says = subst (λ (n : ℕ). StreamSays stream n rest whole) (sym z.1) on;
            pending = more p (rw z.0) w;
          }

  -- the stream ends
  pub rowing_end : place ≡ length stream → PutsEvents stream before at out next
  unfolding event_rows
  rowing_end end = record { puts = λ es whole s. go es whole (r.each es whole s).left (r.each es whole s).says (r.each es whole s).pending }
    where
      go : (es : List LineEvent) (whole : Bool) (left : List LineEvent) → StreamSays stream place left whole
          → Pending before at (event_rows es whole) out next (event_rows left whole) → Wrote before at (event_rows es whole) out next
      go es whole left (ends _) p = ended p refl
      go es whole left (breaks none) p = absurd (none.0 end)
      go es whole left (then y on) p = absurd (no_end y end)

  -- or no frame of ours is there, and the row of a refusal is written
  pub rowing_break : {after : List ℕ} {end : ℕ} → (place ≡ length stream → ⊥) × ((e : LineEvent) (behind : ℕ) → FrameAt stream place e behind → ⊥)
      → Wrote out next (refused_row not_aline_no) after end → PutsEvents stream before at after end
  unfolding event_rows
  rowing_break {after} {end} none w = record { puts = λ es whole s. go es whole (r.each es whole s).left (r.each es whole s).says (r.each es whole s).pending }
    where
      go : (es : List LineEvent) (whole : Bool) (left : List LineEvent) → StreamSays stream place left whole
          → Pending before at (event_rows es whole) out next (event_rows left whole) → Wrote before at (event_rows es whole) after end
      go es whole left (ends is) p = absurd (none.0 is)
      go es whole left (breaks _) p = last p w
      go es whole left (then {next = behind} {e = e} y on) p = absurd (none.1 e behind y)
