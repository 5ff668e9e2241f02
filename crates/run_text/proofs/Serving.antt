-- The steps of a sheet, run: the lists that were decoded are the sheet's steps, and there is room for their answers. Assumes
-- nothing.
use Prim.Native.Nat.{ℕ, suc, ◌≤◌}
use mathlib.Core.Path.{◌≡◌, refl, sym, ap, ◌∙◌}
use mathlib.Core.Bool.{Bool, true}
use mathlib.Core.List.{List, [], ◌∷◌, map}
use native.Mathlib.Omega.{arith}
use lib.ListN.{length, take, length-map}
use lib.Seq.{sets, sets-eq, take-append_seam}
use Rattle.std.specs.Prelude.{Ok}
use Rattle.tables.specs.Tables.{and_also}
use Rattle.tables.proofs.Laws.{tell_and, tell_le}
use Rattle.grammar.specs.Sizes.{limit}
use Rattle.record.specs.declared.record.Record.{Record}
use Rattle.record.specs.declared.series.Ran.{Ran}
use Rattle.phases.specs.declared.answer.Answer.TheVariants.{Done}
use Rattle.record.specs.SoundTest.{sound_b}
use Rattle.record.specs.Run.{Reply, rows_of, row_of, last_of, replies_of, answer_told, phase_told, reason_told, held_told, room_for, room_in, ran_of, telling_of, run_of}
use Rattle.phases.specs.declared.table.StepRow.{StepRow}
use Rattle.phases.proofs.Steps.{kind_back}
use Rattle.steps_sheet.specs.declared.Decoded.{Decoded}
use Rattle.steps_sheet.specs.Says.{Steps}
use Rattle.steps_sheet.specs.Lent as lent
use Rattle.steps_sheet.specs.Lent.{most_in, most_steps, kind_column, door_column, person_column, kinds_in, doors_in, persons_in, decoded_of, listed}
use Rattle.run_text.specs.Printed.{replies_from}

-- what was written at the front of a list is its front
pub front : (list xs : List ℕ) → length xs ≤ length list → take (length xs) (sets list 0 xs) ≡ xs
front list xs h = rw (sets-eq xs list 0 (omega arith)) (take-append_seam xs _)

pub front_of : {count : ℕ} (xs list₀ : List ℕ) {list : List ℕ} → count ≡ length xs → count ≤ length list₀ → list ≡ sets list₀ 0 xs → take count list ≡ xs
front_of xs list₀ n h e = rw (e, n) (front list₀ xs (omega arith))

-- ---- the steps as three lists

map_length : (f : StepRow → ℕ) (xs : List StepRow) → length (map f xs) ≡ length xs
map_length f [] = refl
map_length f (x ∷ xs) = ap suc (map_length f xs)

-- the three lists are the steps again
pub rows_back : (rows : List StepRow) → rows_of (map kind_column rows) (map door_column rows) (map person_column rows) ≡ rows
unfolding rows_of
rows_back [] = refl
rows_back (row ∷ rows) = rw (rows_back rows, kind_back row.kind)

-- the fronts of three lists are the steps of a sheet
pub record Decodes (steps : Steps) (count : ℕ) (kinds doors persons : List ℕ) : Type 0 where
  pub kinds_are : take count kinds ≡ kinds_in steps
  pub doors_are : take count doors ≡ doors_in steps
  pub persons_are : take count persons ≡ persons_in steps

-- lists of the programs' length have room for every sheet
pub room_most : (bytes kinds doors persons : ℕ) → bytes ≤ limit → kinds ≡ most_steps → doors ≡ most_steps → persons ≡ most_steps
    → lent.room_for_steps (most_in bytes) kinds doors persons ≡ true
unfolding lent.room_for_steps
room_most bytes kinds doors persons h k d p =
    (tell_and (tell_le (most_in bytes) kinds) (tell_and (tell_le (most_in bytes) doors) (tell_le (most_in bytes) persons))).back
    (omega arith, (omega arith, omega arith))

-- what was decoded into lists with room
module _ (steps : Steps) (room : Bool) (yes : room ≡ true) {d : Decoded} (is : Ok d ≡ decoded_of room steps) where
  told_as : d ≡ record { count = length steps.rows; whole = steps.whole }
  unfolding decoded_of
  told_as = let z : Ok d ≡ Ok (record { count = length steps.rows; whole = steps.whole }) = is ∙ rw yes in cc

  pub count_is : d.count ≡ length steps.rows
  count_is = ap (λ (x : Decoded). x.count) told_as

  pub whole_is : d.whole ≡ steps.whole
  whole_is = ap (λ (x : Decoded). x.whole) told_as

  list_is : (column : StepRow → ℕ) (list₀ : List ℕ) {list : List ℕ} → d.count ≤ length list₀ → list ≡ listed room (map column steps.rows) list₀
      → take d.count list ≡ map column steps.rows
  unfolding listed
  list_is column list₀ h e = front_of _ list₀ (count_is ∙ sym (map_length column steps.rows)) h (rw yes at e)

  pub decoded_are : (kinds₀ doors₀ persons₀ : List ℕ) {kinds doors persons : List ℕ} → d.count ≤ length kinds₀ → d.count ≤ length doors₀
      → d.count ≤ length persons₀ → kinds ≡ listed room (kinds_in steps) kinds₀ → doors ≡ listed room (doors_in steps) doors₀
      → persons ≡ listed room (persons_in steps) persons₀ → Decodes steps d.count kinds doors persons
  decoded_are kinds₀ doors₀ persons₀ hk hd hp k dr p =
      record { kinds_are = list_is kind_column kinds₀ hk k; doors_are = list_is door_column doors₀ hd dr; persons_are = list_is person_column persons₀ hp p }

-- ---- a run of a sound record with room for its answers

pub has_room : (n a p r h : ℕ) → n ≤ a → n ≤ p → n ≤ r → n ≤ h → room_for n n n a p r h ≡ true
unfolding room_for
has_room n a p r h w x y z =
    (tell_and (tell_le n n) (tell_and (tell_le n n) (tell_and (tell_le n a) (tell_and (tell_le n p) (tell_and (tell_le n r) (tell_le n h)))))).back
    (omega arith, (omega arith, (w, (x, (y, z)))))

pub ran_last : (r : Record) (rows : List StepRow) (room : Bool) {ran : Ran} → sound_b r ≡ true → room ≡ true → ran ≡ ran_of r rows room → ran.next ≡ last_of r rows
unfolding ran_of
ran_last r rows room s e h =
    let is : ran_of r rows room ≡ record { next = last_of r rows; answer = Done } = rw (s, e) in
    ap (λ (x : Ran). x.next) (h ∙ is)

pub ran_told : (r : Record) (room : Bool) (told list : List ℕ) {after : List ℕ} → sound_b r ≡ true → room ≡ true → after ≡ telling_of r room told list → after ≡ sets list 0 told
unfolding telling_of and_also
ran_told r room told list s e h = h ∙ rw (s, e)

-- what a run of a sheet's steps hands back and writes
module _ (r : Record) (steps : Steps) (answers phases reasons held : List ℕ) (sound : sound_b r ≡ true) (ha : length steps.rows ≤ length answers)
    (hp : length steps.rows ≤ length phases) (hr : length steps.rows ≤ length reasons) (hh : length steps.rows ≤ length held) where
  run_room : room_in (kinds_in steps) (doors_in steps) (persons_in steps) answers phases reasons held ≡ true
  run_room = rw (map_length kind_column steps.rows, map_length door_column steps.rows, map_length person_column steps.rows) (has_room _ _ _ _ _ ha hp hr hh)

  module _ {count : ℕ} {kinds doors persons : List ℕ} (d : Decodes steps count kinds doors persons) where
    room_so : room_in (take count kinds) (take count doors) (take count persons) answers phases reasons held ≡ true
    room_so = rw (d.kinds_are, d.doors_are, d.persons_are) run_room

    rows_so : rows_of (take count kinds) (take count doors) (take count persons) ≡ steps.rows
    rows_so = rw (d.kinds_are, d.doors_are, d.persons_are) (rows_back steps.rows)

    pub ran_steps : {ran : Ran} → ran ≡ run_of r (take count kinds) (take count doors) (take count persons) answers phases reasons held → ran.next ≡ last_of r steps.rows
    ran_steps e = ran_last r _ _ sound room_so e ∙ ap (last_of r) rows_so

    pub told_steps : {after : List ℕ} (tell : Reply → ℕ) (list : List ℕ)
        → after ≡ telling_of r (room_in (take count kinds) (take count doors) (take count persons) answers phases reasons held) (map tell (replies_of r (rows_of (take count kinds) (take count doors) (take count persons)))) list
        → after ≡ sets list 0 (map tell (replies_of r steps.rows))
    told_steps tell list e = ran_told r _ _ _ sound room_so e ∙ ap (λ (rows : List StepRow). sets list 0 (map tell (replies_of r rows))) rows_so

-- there are as many replies as steps
pub replies_length : (r : Record) (rows : List StepRow) → length (replies_of r rows) ≡ length rows
unfolding replies_of
replies_length r [] = refl
replies_length r (first ∷ rows) = ap suc (replies_length (row_of r first).next rows)

pub told_length : (tell : Reply → ℕ) (r : Record) (rows : List StepRow) → length (map tell (replies_of r rows)) ≡ length rows
told_length tell r rows = length-map (replies_of r rows) tell ∙ replies_length r rows

-- the four lists of a list's parts are that list
pub parts_back : (replies : List Reply) → replies_from (map answer_told replies) (map phase_told replies) (map reason_told replies) (map held_told replies) ≡ replies
unfolding replies_from
parts_back [] = refl
parts_back (reply ∷ replies) = ap (λ (l : List Reply). reply ∷ l) (parts_back replies)

-- the fronts of the four lists that a run wrote are its replies
pub heard : (r : Record) (rows : List StepRow) {count : ℕ} (answers₀ phases₀ reasons₀ held₀ : List ℕ) {answers phases reasons held : List ℕ} → count ≡ length rows
    → (count ≤ length answers₀) × (count ≤ length phases₀) × (count ≤ length reasons₀) × (count ≤ length held₀)
    → answers ≡ sets answers₀ 0 (map answer_told (replies_of r rows)) → phases ≡ sets phases₀ 0 (map phase_told (replies_of r rows))
    → reasons ≡ sets reasons₀ 0 (map reason_told (replies_of r rows)) → held ≡ sets held₀ 0 (map held_told (replies_of r rows))
    → replies_from (take count answers) (take count phases) (take count reasons) (take count held) ≡ replies_of r rows
heard r rows {count} answers₀ phases₀ reasons₀ held₀ {answers} {phases} {reasons} {held} n room a p w h =
    let told : take count answers ≡ map answer_told (replies_of r rows) = front_of _ answers₀ (n ∙ sym (told_length answer_told r rows)) room.0 a in
    let ps : take count phases ≡ map phase_told (replies_of r rows) = front_of _ phases₀ (n ∙ sym (told_length phase_told r rows)) room.1 p in
    let ws : take count reasons ≡ map reason_told (replies_of r rows) = front_of _ reasons₀ (n ∙ sym (told_length reason_told r rows)) room.2 w in
    let hs : take count held ≡ map held_told (replies_of r rows) = front_of _ held₀ (n ∙ sym (told_length held_told r rows)) room.3 h in
    rw (told, ps, ws, hs) (parts_back (replies_of r rows))
