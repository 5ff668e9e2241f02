-- The loops over the rows of the two texts, and the parts of the text of a run. Assumes nothing.
use Prim.Native.Nat.{ℕ, suc, ◌+◌, ◌≤◌, ◌<◌}
use mathlib.Core.Path.{◌≡◌, refl, ap}
use mathlib.Core.Bool.{Bool, true, false}
use mathlib.Core.List.{List, [], ◌∷◌, ◌++◌, append-nil}
use native.Mathlib.Omega.{arith}
use native.Mathlib.Numerals.{add-one}
use lib.ListN.{length, get_or, drop, drop_of_length-le}
use lib.Seq.{drop-cons}
use Rattle.record.specs.Run.{Reply}
use Rattle.text.specs.Text.{row_of_numbers}
use Rattle.text.specs.Wrote.{last_place, Wrote}
use Rattle.text.proofs.Writing.{Pending, begun, more, ended}
use Rattle.run_text.specs.Printed.{panel_header, panel_row, answer_rows, replies_from, run_text, place_rows}

-- the loop over the answers has come to the one at i
pub record Answering (answers phases reasons held before : List ℕ) (at : ℕ) (out : List ℕ) (next i : ℕ) : Type 0 where
  pub low : i ≤ length answers
  pub pending : Pending before at (answer_rows 1 (replies_from answers phases reasons held)) out next (answer_rows (i + 1) (replies_from (drop i answers) (drop i phases) (drop i reasons) (drop i held)))

pub answer_start : {answers phases reasons held before : List ℕ} {at : ℕ} → length before ≤ last_place → at ≤ last_place
    → Answering answers phases reasons held before at before at 0
answer_start f t = record { low = omega arith; pending = begun f t }

answer_row : (answers phases reasons held : List ℕ) (i : ℕ) → length phases ≡ length answers → length reasons ≡ length answers → length held ≡ length answers → i < length answers
    → answer_rows (i + 1) (replies_from (drop i answers) (drop i phases) (drop i reasons) (drop i held))
    ≡ panel_row (i + 1) (get_or answers i 0) (get_or phases i 0) (get_or reasons i 0) (get_or held i 0) ++ answer_rows (i + 1 + 1) (replies_from (drop (i + 1) answers) (drop (i + 1) phases) (drop (i + 1) reasons) (drop (i + 1) held))
unfolding answer_rows replies_from
answer_row answers phases reasons held i p r q h =
    let hp : i < length phases = omega arith in
    let hr : i < length reasons = omega arith in
    let hh : i < length held = omega arith in
    rw (add-one i, drop-cons answers i 0 h, drop-cons phases i 0 hp, drop-cons reasons i 0 hr, drop-cons held i 0 hh)

pub answer_more : {answers phases reasons held before : List ℕ} {at : ℕ} {out : List ℕ} {next i a p r x : ℕ} {after : List ℕ} {seam : ℕ}
    → Answering answers phases reasons held before at out next i → length phases ≡ length answers → length reasons ≡ length answers → length held ≡ length answers → i < length answers
    → a ≡ get_or answers i 0 → p ≡ get_or phases i 0 → r ≡ get_or reasons i 0 → x ≡ get_or held i 0 → Wrote out next (panel_row (i + 1) a p r x) after seam
    → Answering answers phases reasons held before at after seam (i + 1)
answer_more {answers} {phases} {reasons} {held} {i = i} here l m n h a p r x w =
    record { low = omega arith; pending = more here.pending (answer_row answers phases reasons held i l m n h) (rw (a, p, r, x) at w) }

pub answer_end : {answers phases reasons held before : List ℕ} {at : ℕ} {out : List ℕ} {next i : ℕ} → Answering answers phases reasons held before at out next i
    → length answers ≤ i → Wrote before at (answer_rows 1 (replies_from answers phases reasons held)) out next
unfolding answer_rows replies_from
answer_end {answers} a h = ended a.pending (rw (drop_of_length-le answers h))

-- the loop over the places has come to person i
pub record Placing (places before : List ℕ) (at : ℕ) (out : List ℕ) (next i : ℕ) : Type 0 where
  pub low : i ≤ length places
  pub pending : Pending before at (place_rows 0 places) out next (place_rows i (drop i places))

pub place_start : {places before : List ℕ} {at : ℕ} → length before ≤ last_place → at ≤ last_place → Placing places before at before at 0
place_start f t = record { low = omega arith; pending = begun f t }

place_row : (places : List ℕ) (i : ℕ) → i < length places → place_rows i (drop i places) ≡ row_of_numbers i (get_or places i 0 ∷ []) ++ place_rows (i + 1) (drop (i + 1) places)
unfolding place_rows
place_row places i h =
    let e : drop i places ≡ get_or places i 0 ∷ drop (i + 1) places = rw (add-one i) (drop-cons places i 0 h) in
    ap (place_rows i) e

pub place_more : {places before : List ℕ} {at : ℕ} {out : List ℕ} {next i l : ℕ} {after : List ℕ} {seam : ℕ} → Placing places before at out next i
    → i < length places → l ≡ get_or places i 0 → Wrote out next (row_of_numbers i (l ∷ [])) after seam → Placing places before at after seam (i + 1)
place_more {places} {i = i} here h l w = record { low = omega arith; pending = more here.pending (place_row places i h) (rw l at w) }

pub place_end : {places before : List ℕ} {at : ℕ} {out : List ℕ} {next i : ℕ} → Placing places before at out next i → length places ≤ i
    → Wrote before at (place_rows 0 places) out next
unfolding place_rows
place_end {places} p h = ended p.pending (rw (drop_of_length-le places h))

-- the parts of the text of a run
pub run_whole : (replies : List Reply) {whole : Bool} → whole ≡ true → panel_header ++ answer_rows 1 replies ≡ run_text replies whole
unfolding run_text
run_whole replies e = rw (e, append-nil (answer_rows 1 replies))

pub run_broken : (replies : List Reply) {whole : Bool} {count : ℕ} → count ≡ length replies → whole ≡ false
    → panel_header ++ (answer_rows 1 replies ++ panel_row (count + 1) 2 0 0 0) ≡ run_text replies whole
unfolding run_text
run_broken replies n e = rw (e, n)

-- four lists of one length are as many replies
pub from_length : (answers phases reasons held : List ℕ) → length phases ≡ length answers → length reasons ≡ length answers
    → length held ≡ length answers → length answers ≡ length (replies_from answers phases reasons held)
unfolding replies_from
from_length [] phases reasons held p r h = refl
from_length (a ∷ answers) [] reasons held p r h = absurd (omega arith)
from_length (a ∷ answers) (x ∷ phases) [] held p r h = absurd (omega arith)
from_length (a ∷ answers) (x ∷ phases) (y ∷ reasons) [] p r h = absurd (omega arith)
from_length (a ∷ answers) (x ∷ phases) (y ∷ reasons) (z ∷ held) p r h =
    ap suc (from_length answers phases reasons held (omega arith) (omega arith) (omega arith))
