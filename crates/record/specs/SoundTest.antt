-- What the code computes to tell whether a record is sound. That it tells `Sound` exactly is proved in `proofs/Tells.antt`.
use Rattle.std.specs.Prelude.{Bool}
use Rattle.soundness.specs.SoundTest.{lists_sound}
use Rattle.record.specs.declared.record.Record.{Record}
use Rattle.record.specs.Doors.{plan_of}

unfoldable pub sound_b : Record → Bool
sound_b r = lists_sound (plan_of r) r.right r.place r.phase r.holder r.count
