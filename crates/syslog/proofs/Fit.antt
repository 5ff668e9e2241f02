-- The test whether an event fits tells whether it does. Assumes nothing.
use Prim.Native.Nat.{ℕ, ◌≤◌}
use mathlib.Core.Logic.{⊎_elim}
use native.Mathlib.Omega.{arith}
use borrow.Author.Tests.{eqb-true, eq-eqb}
use lib.Dec.{eqb}
use Rattle.tables.specs.Below.{Tells}
use Rattle.tables.proofs.Cases.{same_or_not}
use Rattle.tables.proofs.Laws.{tell_and, tell_le, tell_eq, tell_cond}
use Rattle.syslog.specs.declared.Msgid.{Msgid}
use Rattle.syslog.specs.declared.Msgid.TheVariants.{Grant, Deny, Pass, Lapse}
use Rattle.syslog.specs.declared.LineEvent.{LineEvent}
use Rattle.syslog.specs.Line.{held_reason, most_number, ReasonFits, HeldFits, Fits, reason_fits, held_fits, fits_line}

reason_tells : (m : Msgid) (reason : ℕ) → Tells (reason_fits m reason) (ReasonFits m reason)
unfolding reason_fits
reason_tells Grant reason = tell_eq reason 0
reason_tells Deny reason = tell_and (tell_le 1 reason) (tell_le reason 3)
reason_tells Pass reason = tell_eq reason 0
reason_tells Lapse reason = tell_eq reason 0

held_tells : (reason held : ℕ) → Tells (held_fits reason held) (HeldFits reason held)
unfolding held_fits
held_tells reason held = tell_cond (eqb reason held_reason) (eqb-true reason held_reason) (eq-eqb reason held_reason) (tell_le held most_number) (tell_eq held 0)

-- whatever the reason, a held door that fits is no more than the last
pub held_below : (reason held : ℕ) → HeldFits reason held → held ≤ most_number
held_below reason held f = ⊎_elim f.0 (λ other. let none = f.1 other in omega arith) (same_or_not reason held_reason)

pub fits_tells : (e : LineEvent) → Tells (fits_line e) (Fits e)
unfolding fits_line
fits_tells e =
    let ends = tell_and (reason_tells e.msgid e.reason) (held_tells e.reason e.held) in
    let t = tell_and (tell_le e.door most_number) (tell_and (tell_le e.person most_number) ends) in
    record {
      yes = λ h. let f = t.yes h in record { door = f.0; person = f.1.0; reason = f.1.1.0; held = f.1.1.1 };
      back = λ f. t.back (f.door, (f.person, (f.reason, f.held)));
    }
