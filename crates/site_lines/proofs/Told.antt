-- What the code tells of the rows that were read says what was read, and nothing of it is lost: the tables, what is wrong with the last row,
-- and its number. Assumes nothing.
use Prim.Native.Nat.{ℕ}
use mathlib.Core.Path.{◌≡◌, refl}
use Rattle.std.specs.Prelude.{Result, Ok, Err}
use Rattle.site_lines.specs.declared.Draft.{Draft}
use Rattle.site_lines.specs.declared.RowFault as told
use Rattle.site_lines.specs.declared.RowFault.TheVariants as told_fault
use Rattle.site_lines.specs.declared.Stop.{Stop}
use Rattle.site_lines.specs.declared.Filled.{Filled}
use Rattle.site_lines.specs.declared.Stopped.{Stopped}
use Rattle.site_lines.specs.Fault.{Fault, Sound, Form, NoSite, Range, Twice}
use Rattle.site_lines.specs.Draft.{Reading}
use Rattle.site_lines.specs.Lent.{fault_of, stop, stopped_told, with_tables, reading_told}
use Rattle.site_lines.proofs.Loop.{fault_stops}

pub all_told : (r : Reading) {x : Filled} → Ok x ≡ reading_told r → (r.fault ≡ Sound) × (r.draft ≡ x.draft) × (r.row ≡ x.row)
all_told r {x} e = go r.fault refl e
  where
    go : (f : Fault) → r.fault ≡ f → Ok x ≡ with_tables r.draft (stopped_told r.row f r.row) → (r.fault ≡ Sound) × (r.draft ≡ x.draft) × (r.row ≡ x.row)
    go Sound q e =
        let is : x ≡ record { draft = r.draft; row = r.row } = cc in
        rw is (q, refl, refl)
    go Form q e = cc
    go NoSite q e = cc
    go Range q e = cc
    go Twice q e = cc

pub stop_told : (r : Reading) {x : Stopped} → Err x ≡ reading_told r → (r.fault ≡ fault_of x.stop.fault) × (r.row ≡ x.stop.row) × (r.draft ≡ x.draft)
stop_told r {x} e = go r.fault refl e
  where
    at : (f : told.RowFault) → ◌≡◌ {A = Result Filled Stopped} (Err x) (Err (record { draft = r.draft; stop = stop f r.row })) → r.fault ≡ fault_of f
        → (r.fault ≡ fault_of x.stop.fault) × (r.row ≡ x.stop.row) × (r.draft ≡ x.draft)
    at f e q =
        let is : x ≡ record { draft = r.draft; stop = stop f r.row } = cc in
        rw is (q, refl, refl)

    go : (f : Fault) → r.fault ≡ f → Err x ≡ with_tables r.draft (stopped_told r.row f r.row)
        → (r.fault ≡ fault_of x.stop.fault) × (r.row ≡ x.stop.row) × (r.draft ≡ x.draft)
    go Sound q e = cc
    go Form q e = at told_fault.Form e q
    go NoSite q e = at told_fault.NoSite e q
    go Range q e = at told_fault.Range e q
    go Twice q e = at told_fault.Twice e q

-- and what was read is told so
pub told_all : (r : Reading) (x : Filled) → (r.fault ≡ Sound) × (r.draft ≡ x.draft) × (r.row ≡ x.row) → reading_told r ≡ Ok x
told_all r x p = rw (p.0, p.1, p.2) refl

pub told_stop : (r : Reading) (x : Stopped) → (r.fault ≡ fault_of x.stop.fault) × (r.row ≡ x.stop.row) × (r.draft ≡ x.draft) → reading_told r ≡ Err x
told_stop r x p = rw (p.0, fault_stops r.row x.stop.fault r.row, p.1, p.2) refl
