-- The answers of the questions by the paper's numbers and values: what each definition tells, so that a function that answers by
-- the definition promises them too. Assumes nothing.
use Prim.Native.Nat.{ℕ}
use mathlib.Core.Path.{◌≡◌, refl}
use mathlib.Core.Bool.{Bool, true, false, cond}
use mathlib.Core.List.{List}
use lib.ListN.{length, get_or}
use lib.Dec.{ltb, leb}
use Rattle.std.specs.Prelude.{Option, None, Result, Ok, Err}
use Rattle.numbers.specs.Numbers.{done_no, no_such_no, unsound_no}
use Rattle.tables.specs.Way.{way_of, way_told_in, if_room}
use Rattle.findings.specs.Told.{place_no, place_told, grant_no, grant_told, way_no, length_told, way_told_no, too_short}
use Rattle.findings.specs.declared.Refused.{Refused}
use Rattle.findings.specs.declared.Refused.TheVariants as refused
use Rattle.findings.specs.declared.WayRefused.{WayRefused}
use Rattle.findings.specs.declared.WayRefused.TheVariants as answer
use Rattle.granting.specs.Grants.{grant_of}
use Rattle.record.specs.declared.record.Record.{Record}
use Rattle.record.specs.SoundTest.{sound_b}
use Rattle.record.specs.Questions.{asked_no, unless_refused, place_of, granted_to}
use Rattle.record.specs.Questions.{way_found, way_answer_of, way_written, way_asked_no}

pub place_as_said : (r : Record) (p : ℕ) (x : Result ℕ Refused) → x ≡ place_of r p
    → (x ≡ place_of r p) × ((place_no x ≡ asked_no r (ltb p r.people)) × (place_told x ≡ unless_refused (place_no x) (get_or r.place p 0) 0))
unfolding place_of asked_no
place_as_said r p x e =
    let said = go (sound_b r) (ltb p r.people) (get_or r.place p 0) in
    (e, (rw e said.0, rw e said.1))
  where
    go : (sound exists : Bool) (l : ℕ) → let y = cond sound (cond exists (Ok l) (Err refused.NoSuch)) (Err refused.Unsound) in
        (place_no y ≡ cond sound (cond exists done_no no_such_no) unsound_no) × (place_told y ≡ unless_refused (place_no y) l 0)
    go true true l = (refl, refl)
    go true false l = (refl, refl)
    go false exists l = (refl, refl)

pub grant_as_said : (r : Record) (p : ℕ) (x : Result (Option ℕ) Refused) → x ≡ granted_to r p
    → (x ≡ granted_to r p)
    × ((grant_no x ≡ asked_no r (ltb p r.people)) × (grant_told x ≡ unless_refused (grant_no x) (grant_of r.doors r.phase r.holder p) None))
unfolding granted_to asked_no
grant_as_said r p x e =
    let said = go (sound_b r) (ltb p r.people) (grant_of r.doors r.phase r.holder p) in
    (e, (rw e said.0, rw e said.1))
  where
    go : (sound exists : Bool) (door : Option ℕ) → let y = cond sound (cond exists (Ok door) (Err refused.NoSuch)) (Err refused.Unsound) in
        (grant_no y ≡ cond sound (cond exists done_no no_such_no) unsound_no) × (grant_told y ≡ unless_refused (grant_no y) door None)
    go true true door = (refl, refl)
    go true false door = (refl, refl)
    go false exists door = (refl, refl)

pub way_as_said : (r : Record) (l : ℕ) (list after : List ℕ) (x : Result ℕ WayRefused) → x ≡ way_answer_of r l list → after ≡ way_written r l list
    → (x ≡ way_answer_of r l list)
    × ((way_no x ≡ way_asked_no r l list)
    × ((length_told x ≡ unless_refused (way_no x) (length (way_of r.locations r.exit l)) 0) × (after ≡ way_written r l list)))
unfolding way_answer_of way_asked_no asked_no way_told_in if_room
way_as_said r l list after x e w =
    let n = length (way_of r.locations r.exit l) in
    let said = go (sound_b r) (ltb l r.locations) (leb n (length list)) n in
    (e, (rw e said.0, (rw e said.1, w)))
  where
    go : (sound exists room : Bool) (n : ℕ) →
        let told = if_room room (Ok n) (Err too_short) in
        let number = cond sound (cond exists done_no no_such_no) unsound_no in
        let y = cond sound (cond exists (way_found told) (Err answer.NoSuch)) (Err answer.Unsound) in
        (way_no y ≡ unless_refused number (way_told_no told) number) × (length_told y ≡ unless_refused (way_no y) n 0)
    go true true true n = (refl, refl)
    go true true false n = (refl, refl)
    go true false room n = (refl, refl)
    go false exists room n = (refl, refl)
