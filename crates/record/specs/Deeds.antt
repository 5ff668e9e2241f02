-- A step as the code does it: the lists are judged, and the deed is carried out on them. What a deed and its lists are is said in
-- crates/deeds/specs/Deeds.antt.
use Rattle.std.specs.Prelude.{ℕ, List}
use Rattle.phases.specs.declared.table.Kind.{Kind}
use Rattle.deeds.specs.declared.Deed.{Deed}
use Rattle.deeds.specs.declared.Told.{Told}
use Rattle.deeds.specs.Deeds.{judged_of, told_of, places_after, phases_after, holders_after, counts_after}
use Rattle.record.specs.declared.record.Record.{Record}
use Rattle.record.specs.declared.steps.Step.{Step}
use Rattle.record.specs.Doors.{plan_of, record_of}

-- the record with these places and doors, its tables as they were
abbrev pub holding : Record → List ℕ → List ℕ → List ℕ → List ℕ → Record
holding r = record_of (plan_of r) r.right

-- a step that hands this record back and tells this
abbrev pub telling : Record → Told → Step
telling r told = record { next = r; answer = told.answer; phase = told.phase; reason = told.reason; held = told.held }

-- the deed of a step of this record
abbrev pub judged : Record → Kind → ℕ → ℕ → Deed
judged r = judged_of (plan_of r) r.right r.place r.phase r.holder r.count

-- a deed at door d, carried out on a record
abbrev pub carried : Record → ℕ → Deed → Step
carried r d deed =
    telling (holding r (places_after deed r.place) (phases_after deed d r.phase) (holders_after deed d r.holder) (counts_after deed d r.count)) (told_of deed)
