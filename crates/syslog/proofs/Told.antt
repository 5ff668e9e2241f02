-- The number that `number` gives of a `Result` is the paper's number of what is told. Assumes nothing.
use Prim.Native.Nat.{ℕ}
use mathlib.Core.Path.{◌≡◌, refl}
use Rattle.std.specs.Prelude.{Option, Result}
use Rattle.numbers.specs.Told.{told_no}
use Rattle.syslog.specs.declared.LineEvent.{LineEvent}
use Rattle.syslog.specs.declared.Unwritten.{Unwritten}
use Rattle.syslog.specs.declared.NotOurs.{NotOurs}
use Rattle.syslog.specs.Numbers.{unwritten_no, not_ours_no, written_no, line_read_no, frame_read_no}

pub written_number : (told : Result ℕ Unwritten) → told_no unwritten_no told ≡ written_no told
written_number told = refl

pub line_read_number : (told : Result LineEvent NotOurs) → told_no not_ours_no told ≡ line_read_no told
line_read_number told = refl

pub frame_read_number : (told : Result (Option (LineEvent × ℕ)) NotOurs) → told_no not_ours_no told ≡ frame_read_no told
frame_read_number told = refl
