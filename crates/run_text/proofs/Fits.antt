-- The rows of the two texts are short, since what is told of a step is: a run's text is at most `most_run_text` long. Assumes nothing.
use Prim.Native.Nat.{ℕ, suc, ◌+◌, ◌*◌, ◌≤◌, ◌<◌}
use mathlib.Core.Path.{◌≡◌, refl, ap}
use mathlib.Core.Bool.{Bool, true, false}
use mathlib.Core.List.{List, [], ◌∷◌, ◌++◌}
use native.Mathlib.Omega.{arith}
use borrow.Author.Tests.{ltb-true, ltb-false}
use lib.Dec.{eqb, ltb}
use lib.ListN.{length, get_or, length-append}
use Rattle.tables.specs.Tables.{Plan, may_be}
use Rattle.granting.specs.Grants.{has_grant}
use Rattle.granting.specs.Reasons.{first_reason}
use Rattle.record.specs.declared.record.Record.{Record}
use Rattle.door.specs.declared.Door.{Door}
use Rattle.phases.specs.declared.table.Kind.{Kind}
use Rattle.phases.specs.declared.answer.Answer.{Answer}
use Rattle.phases.specs.declared.answer.Answer.TheVariants.{Done, NoSuch, NotAllowed, TooShort, Unsound}
use Rattle.record.specs.declared.steps.Step.{Step}
use Rattle.phases.specs.Answers.{answer_no}
use Rattle.record.specs.Doors.{plan_of, door_of, Shaped}
use Rattle.phases.specs.declared.table.StepRow.{StepRow}
use Rattle.phases.specs.Kinds.{allows}
use Rattle.record.specs.Sound.{Sound}
use Rattle.record.specs.SoundTest.{sound_b}
use Rattle.door_does.specs.declared.Does.{Does}
use Rattle.door_does.specs.declared.Does.TheVariants.{Stays, Turns, Moves}
use Rattle.record.specs.Steps.{HeldDoor, the_grant, no_door, act, doing, exist, sound_step, step_of}
use Rattle.record.specs.Run.{row_of, replies_of}
use Rattle.tables.proofs.Cases.{either}
use Rattle.record.proofs.Laws.{step_cases, act_done, act_held_door, sound_stays, shaped_stays}
use Rattle.table_answers.specs.Answers.{IsReason, none, away, barred, busy, DoesTells}
use Rattle.table_answers.proofs.Doors.{effect_told}
use Rattle.text.specs.Text.{decimal, row_of_numbers}
use Rattle.run_text.specs.Printed.{panel_header, panel_row, answer_rows, last_row, run_text, most_run_text, place_rows}
use Rattle.text.proofs.Decimal.{one_digit_lem, two_digits, four_digits}
use Rattle.text.proofs.Rows.{last_length, more_length}
use Rattle.run_text.proofs.Serving.{replies_length}

-- ---- what is told of a step is short

-- every door's phase is one of the ten
phase_known : (r : Record) → Sound r → (d : ℕ) → get_or r.phase d 0 ≤ 9
phase_known r s d = go (ltb d r.doors) refl
  where
    go : (q : Bool) → ltb d r.doors ≡ q → get_or r.phase d 0 ≤ 9
    go true q = (s.doors d (ltb-true d r.doors q)).known
    go false q = let z : get_or r.phase d 0 ≡ 0 = ap (λ (c : Door). c.phase) (s.zero_doors d (ltb-false d r.doors q)) in omega arith

pub record ToldShort (s : Step) : Type 0 where
  pub phase_short : s.phase ≤ 9
  pub reason_short : s.reason ≤ 3

-- the reason told is one of the four
a_reason : (site : Plan) (right : List Bool) (place phase holder : List ℕ) (d p : ℕ) → IsReason (first_reason site right place phase holder d p)
unfolding first_reason
a_reason site right place phase holder d p =
    either IsReason (eqb (get_or place p 0) (get_or site.origin d 0))
    (λ _. either IsReason (may_be right p (get_or site.destination d 0))
    (λ _. either IsReason (has_grant site.doors phase holder p) (λ _. busy) (λ _. none)) (λ _. barred)) (λ _. away)

-- a reason is a digit up to 3
small : {n : ℕ} → IsReason n → n ≤ 3
small none = omega arith
small away = omega arith
small barred = omega arith
small busy = omega arith

act_small : (r : Record) (k : Kind) (d p why : ℕ) (does : Does) → get_or r.phase d 0 ≤ 9 → IsReason why → DoesTells k p why (door_of r d) does
    → ToldShort (act r d does)
unfolding act
act_small r k d p why Stays h w m = record { phase_short = h; reason_short = omega arith }
act_small r k d p why (Turns c told) h w m =
    let turned = m.turns c told refl in record { phase_short = turned.of_the_ten h; reason_short = small (turned.a_reason w) }
act_small r k d p why (Moves c) h w m =
    let is = ap (λ (x : Door). x.phase) ((m.moves c).0 refl).1 in record { phase_short = omega arith; reason_short = omega arith }

pub told_short : (r : Record) → Sound r → (k : Kind) (d p : ℕ) → ToldShort (step_of r k d p)
unfolding step_of sound_step
told_short r s k d p =
    either ToldShort (sound_b r)
    (λ _. either ToldShort (exist r k d p)
    (λ _. either ToldShort (allows k (get_or r.phase d 0))
    (λ _. act_small r k d p _ _ (phase_known r s d) (a_reason (plan_of r) r.right r.place r.phase r.holder d (get_or r.holder d 0)) (effect_told k p _ (door_of r d)))
    (λ _. record { phase_short = phase_known r s d; reason_short = omega arith }))
    (λ _. record { phase_short = omega arith; reason_short = omega arith }))
    (λ _. record { phase_short = omega arith; reason_short = omega arith })

number_most : (a : Answer) → answer_no a ≤ 14
number_most Done = omega arith
number_most NoSuch = omega arith
number_most NotAllowed = omega arith
number_most TooShort = omega arith
number_most Unsound = omega arith

-- the door told with a reason has two digits at most
held_few : {r : Record} {p why e : ℕ} → Sound r → HeldDoor r p why e → e < 100
held_few s (the_grant g only) = let h = g.exists in let most = s.tables.in_range.doors_to in omega arith
held_few s (no_door other) = omega arith

-- a refusal's number may have two digits, and then no door is told; so the two have three
pub told_digits : (r : Record) → Sound r → (k : Kind) (d p : ℕ) → length (decimal (answer_no (step_of r k d p).answer)) + length (decimal (step_of r k d p).held) ≤ 3
told_digits r s k d p =
    step_cases (λ x. length (decimal (answer_no x.answer)) + length (decimal x.held) ≤ 3) r k d p
    (λ a ph _.
    let most = number_most a in
    let x = two_digits (answer_no a) (omega arith) in
    let y = one_digit_lem 0 (omega arith) in
    omega arith)
    (λ _.
    let x : length (decimal (answer_no (act r d (doing r k d p)).answer)) ≤ 1 = rw (act_done r d (doing r k d p)) (one_digit_lem 0 (omega arith)) in
    let y = two_digits (act r d (doing r k d p)).held (held_few s (act_held_door r k d p s)) in
    omega arith)

-- ---- the rows of a run

pub row_length : (n a p r x : ℕ) → p ≤ 9 → r ≤ 3 → length (decimal a) + length (decimal x) ≤ 3 → length (panel_row n a p r x) ≤ length (decimal n) + 11
row_length n a p r x hp hr hd =
    let l = more_length n a (p ∷ r ∷ x ∷ []) in
    let m = more_length a p (r ∷ x ∷ []) in
    let o = more_length p r (x ∷ []) in
    let q = more_length r x [] in
    let w = last_length x in
    let dp = one_digit_lem p (omega arith) in
    let dr = one_digit_lem r (omega arith) in
    omega arith

pub row_short : (n a p r x : ℕ) → n < 10000 → p ≤ 9 → r ≤ 3 → length (decimal a) + length (decimal x) ≤ 3 → length (panel_row n a p r x) ≤ 15
row_short n a p r x hn hp hr hd =
    let l = row_length n a p r x hp hr hd in
    let dn = four_digits n hn in
    omega arith

pub rows_short : (r : Record) → Shaped r → Sound r → (rows : List StepRow) (n : ℕ) → n + length rows ≤ 10000
    → length (answer_rows n (replies_of r rows)) ≤ 15 * length rows
unfolding replies_of answer_rows
rows_short r sh s [] n h = omega arith
rows_short r sh s (first ∷ rows) n h =
    let step = row_of r first in
    let told = told_short r s first.kind first.at first.person in
    let one = row_short n (answer_no step.answer) step.phase step.reason step.held (omega arith) told.phase_short told.reason_short (told_digits r s first.kind first.at first.person) in
    let rest = rows_short step.next (shaped_stays r first.kind first.at first.person sh) (sound_stays r first.kind first.at first.person sh s) rows (n + 1) (omega arith) in
    let l = length-append (panel_row n (answer_no step.answer) step.phase step.reason step.held) (answer_rows (n + 1) (replies_of step.next rows)) in
    omega arith

last_short : (whole : Bool) (n : ℕ) → n < 10000 → length (last_row whole n) ≤ 15
last_short true n h = omega arith
last_short false n h = let a = one_digit_lem 2 (omega arith) in let z = one_digit_lem 0 (omega arith) in row_short n 2 0 0 0 h (omega arith) (omega arith) (omega arith)

-- the text of a run of so many steps, and perhaps a row of bad form
pub run_short : (r : Record) → Shaped r → Sound r → (rows : List StepRow) (whole : Bool) → length rows < 9999
    → length (run_text (replies_of r rows) whole) ≤ most_run_text (length rows)
unfolding run_text
run_short r sh s rows whole h =
    let replies = replies_of r rows in
    let told = replies_length r rows in
    let short = rows_short r sh s rows 1 (omega arith) in
    let bad = last_short whole (length replies + 1) (omega arith) in
    let l = length-append panel_header (answer_rows 1 replies ++ last_row whole (length replies + 1)) in
    let m = length-append (answer_rows 1 replies) (last_row whole (length replies + 1)) in
    omega arith

-- ---- the rows of the people

place_short : (n l : ℕ) → n < 100 → l < 100 → length (row_of_numbers n (l ∷ [])) ≤ 7
place_short n l hn hl =
    let x = more_length n l [] in
    let y = last_length l in
    let dn = two_digits n hn in
    let dl = two_digits l hl in
    omega arith

pub places_short : (places : List ℕ) (n : ℕ) → n + length places ≤ 100 → ((i : ℕ) → i < length places → get_or places i 0 < 100)
    → length (place_rows n places) ≤ 7 * length places
unfolding place_rows
places_short [] n h all = omega arith
places_short (l ∷ places) n h all =
    let one = place_short n l (omega arith) (all 0 (omega arith)) in
    let rest = places_short places (n + 1) (omega arith) (λ i k. all (suc i) (omega arith)) in
    let a = length-append (row_of_numbers n (l ∷ [])) (place_rows (n + 1) places) in
    omega arith
