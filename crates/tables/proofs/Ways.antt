-- The way out, worked out and as the paper defines it.
--     way-outside, way-spent, way_on     one step of `way_out`
--     way-length                         it has no more members than there are locations left
--     way-unique, way-found, way-met     the way of a location is one, and `way_out` finds it where it is short enough
--     way-short                          a way among n locations has fewer than n members: they are counted
--     way_laws                           what the functions that measure, write and tell a way go by
-- Assumes nothing.
use Prim.Native.Nat.{ℕ, zero, suc, ◌+◌, ◌-◌, ◌≤◌, ◌<◌}
use mathlib.Core.Path.{◌≡◌, refl, sym, ap, ◌∙◌}
use mathlib.Core.Bool.{Bool, true, false, false≢true}
use mathlib.Core.List.{List, [], ◌∷◌, ◌++◌}
use mathlib.Core.Logic.{⊎_elim}
use native.Mathlib.Nat.{not-suc-le-zero, le_of_suc-le-suc, eq-or-lt_of_le}
use native.Mathlib.Numerals.{add-one, sub-one}
use native.Mathlib.Omega.{arith}
use borrow.Author.Tests.{leb-true, le-leb, lt-leb}
use lib.ListN.{length, get_or, set, drop, length-set}
use lib.Seq.{sets, sets-eq}
use lib.Dec.{leb}
use Rattle.std.specs.Prelude.{Ok, Err}
use Rattle.tables.proofs.Laws.{clash, not_so}
use Rattle.tables.specs.Way.{Way, outside, onward, unless_outside, way_out, if_room, way_told_in, way_written_in}
use Rattle.findings.specs.Told.{too_short}

-- ---- one step

pub way_spent : (exit : List ℕ) (l : ℕ) → way_out 0 exit l ≡ []
unfolding way_out
way_spent exit l = refl

pub way_outside : (left : ℕ) (exit : List ℕ) → way_out left exit 0 ≡ []
unfolding way_out unless_outside
way_outside zero exit = refl
way_outside (suc left) exit = refl

pub way_on : (left : ℕ) (exit : List ℕ) (l : ℕ) → (l ≡ 0 → ⊥) → way_out (suc left) exit l ≡ get_or exit l 0 ∷ way_out left exit (get_or exit l 0)
unfolding way_out unless_outside
way_on left exit zero h = absurd (h refl)
way_on left exit (suc l) h = refl

pub way_length : (left : ℕ) (exit : List ℕ) (l : ℕ) → length (way_out left exit l) ≤ left
way_length zero exit l = rw (way_spent exit l) (omega arith)
way_length (suc left) exit zero = rw (way_outside (suc left) exit) (omega arith)
way_length (suc left) exit (suc l) = rw (way_on left exit (suc l) (λ e. omega arith)) (let h = way_length left exit (get_or exit (suc l) 0) in omega arith)

-- ---- the way is one, and is found

-- a way that is no longer than the locations left is found
pub way_found_lem : {exit : List ℕ} {l : ℕ} {w : List ℕ} → Way exit l w → (left : ℕ) → length w ≤ left → way_out left exit l ≡ w
way_found_lem {exit} outside left h = way_outside left exit
way_found_lem {exit} (onward {l} {m} {rest} h e way) zero le = absurd (not-suc-le-zero le)
way_found_lem {exit} (onward {l} {m} {rest} h e way) (suc left) le =
    rw (way_on left exit l h, ← e, way_found_lem way left (le_of_suc-le-suc le))

pub way_unique : {exit : List ℕ} {l : ℕ} {v w : List ℕ} → Way exit l v → Way exit l w → v ≡ w
way_unique {exit} {l} {v} {w} a b =
    sym (way_found_lem a (length v + length w) (omega arith)) ∙ way_found_lem b (length v + length w) (omega arith)

-- where steps are left over, what was found is the way
pub way_met : (left : ℕ) (exit : List ℕ) (l : ℕ) → length (way_out left exit l) < left → Way exit l (way_out left exit l)
way_met zero exit l h = absurd (not-suc-le-zero h)
way_met (suc left) exit zero h = rw (way_outside (suc left) exit) outside
way_met (suc left) exit (suc l) h =
    let inside : suc l ≡ 0 → ⊥ = λ e. omega arith in
    let on = way_on left exit (suc l) inside in
    rw on (onward inside refl (way_met left exit (get_or exit (suc l) 0) (le_of_suc-le-suc (rw on at h))))

-- ---- how many of the numbers below n pass a test

abbrev one_more : Bool → ℕ → ℕ
one_more true k = suc k
one_more false k = k

count : (ℕ → Bool) → ℕ → ℕ
count test zero = zero
count test (suc n) = one_more (test n) (count test n)

count_le : (f : ℕ → Bool) (n : ℕ) → count f n ≤ n
unfolding count
count_le f zero = omega arith
count_le f (suc n) = go (f n) (count_le f n)
  where
    go : (b : Bool) → count f n ≤ n → one_more b (count f n) ≤ suc n
    go true h = omega arith
    go false h = omega arith

one_suc : (b : Bool) (x : ℕ) → suc (one_more b x) ≡ one_more b (suc x)
one_suc true x = refl
one_suc false x = refl

module _ (f g : ℕ → Bool) (keeps : (k : ℕ) → f k ≡ true → g k ≡ true) where
  step : (n : ℕ) (a b : Bool) → f n ≡ a → g n ≡ b → (x y : ℕ) → x ≤ y → one_more a x ≤ one_more b y
  step n true true p q x y h = omega arith
  step n true false p q x y h = clash (keeps n p) q
  step n false true p q x y h = omega arith
  step n false false p q x y h = h

  count_mono : (n : ℕ) → count f n ≤ count g n
  unfolding count
  count_mono zero = omega arith
  count_mono (suc n) = step n (f n) (g n) refl refl (count f n) (count g n) (count_mono n)

  -- g passes one that f doesn't
  count_more : (n k : ℕ) → k < n → f k ≡ false → g k ≡ true → count f n < count g n
  unfolding count
  count_more zero k h p q = absurd (not-suc-le-zero h)
  count_more (suc n) k h p q = ⊎_elim here (λ lt. later (count_more n k lt p q)) (eq-or-lt_of_le (le_of_suc-le-suc h))
    where
      here : k ≡ n → count f (suc n) < count g (suc n)
      here e =
          let m = count_mono n in
          let p' : f n ≡ false = rw (← e) p in
          let q' : g n ≡ true = rw (← e) q in
          rw (p', q') (omega arith)

      later : count f n < count g n → count f (suc n) < count g (suc n)
      later lt = rw (one_suc (f n) (count f n)) (step n (f n) (g n) refl refl (suc (count f n)) (count g n) lt)

-- ---- a way among n locations has fewer than n members

-- the way of k is at its end within d steps
near : List ℕ → ℕ → ℕ → Bool
near exit d k = leb (length (way_out (suc d) exit k)) d

near_yes : (exit : List ℕ) (d k : ℕ) → near exit d k ≡ true → Way exit k (way_out (suc d) exit k)
unfolding near
near_yes exit d k e = let h = leb-true (length (way_out (suc d) exit k)) d e in way_met (suc d) exit k (omega arith)

near_back : {exit : List ℕ} {k : ℕ} {w : List ℕ} → Way exit k w → (d : ℕ) → length w ≤ d → near exit d k ≡ true
unfolding near
near_back {exit} {k} {w} way d h = rw (way_found_lem way (suc d) (omega arith), le-leb (length w) d h)

near_long : {exit : List ℕ} {k : ℕ} {w : List ℕ} → Way exit k w → (d : ℕ) → d < length w → near exit d k ≡ false
unfolding near
near_long {exit} {k} {w} way d h = not_so (near exit d k) λ e.
    let same = ap length (way_unique way (near_yes exit d k e)) in
    let short = leb-true (length (way_out (suc d) exit k)) d e in
    omega arith

module _ (n : ℕ) (exit : List ℕ) (inside : (l : ℕ) → l < n → get_or exit l 0 < n) where
  -- as many locations are within d steps of 0 as the way has members and its start: each step on the way adds one
  counted : {l : ℕ} {w : List ℕ} → Way exit l w → l < n → length w < count (near exit (length w)) n
  counted outside h =
      let none = count_le (λ k. false) n in
      let some = count_more (λ k. false) (near exit 0) (λ k e. absurd (false≢true e)) n 0 h refl (near_back outside 0 (omega arith)) in
      omega arith
  counted (onward {l} {m} {rest} ne e way) h =
      let below = counted way (rw e (inside l h)) in
      let more = count_more (near exit (length rest)) (near exit (suc (length rest)))
      (λ k e. near_back (near_yes exit (length rest) k e) (suc (length rest)) (way_length (suc (length rest)) exit k))
      n l h (near_long (onward ne e way) (length rest) (omega arith)) (near_back (onward ne e way) (suc (length rest)) (omega arith)) in
      omega arith

  pub way_short : {l : ℕ} {w : List ℕ} → Way exit l w → l < n → length w < n
  way_short {l} {w} way h =
      let some = counted way h in
      let all = count_le (near exit (length w)) n in
      omega arith

-- ---- how the code measures and writes it

pub length_spent : (left : ℕ) (exit : List ℕ) (l : ℕ) → left ≡ 0 → 0 ≡ length (way_out left exit l)
length_spent left exit l e = rw (e, way_spent exit l)

pub length_outside : (left : ℕ) (exit : List ℕ) (l : ℕ) → l ≡ 0 → 0 ≡ length (way_out left exit l)
length_outside left exit l e = rw (e, way_outside left exit)

-- one step, where locations are left and l is one of them
pub way_next : (left : ℕ) (exit : List ℕ) (l m : ℕ) → (left ≡ 0 → ⊥) → (l ≡ 0 → ⊥) → m ≡ get_or exit l 0 → way_out left exit l ≡ m ∷ way_out (left - 1) exit m
way_next zero exit l m h k e = absurd (h refl)
way_next (suc left) exit l m h k e = rw (sub-one (suc left), way_on left exit l k, e)

pub length_on : (left : ℕ) (exit : List ℕ) (l : ℕ) → (left ≡ 0 → ⊥) → (l ≡ 0 → ⊥)
    → length (way_out left exit l) ≡ length (way_out (left - 1) exit (get_or exit l 0)) + 1
length_on left exit l h k = rw (way_next left exit l (get_or exit l 0) h k refl) (omega arith)

pub write_spent : (list : List ℕ) (at left : ℕ) (exit : List ℕ) (l : ℕ) → left ≡ 0 → list ≡ sets list at (way_out left exit l)
write_spent list at left exit l e = rw (e, way_spent exit l)

pub write_outside : (list : List ℕ) (at left : ℕ) (exit : List ℕ) (l : ℕ) → l ≡ 0 → list ≡ sets list at (way_out left exit l)
write_outside list at left exit l e = rw (e, way_outside left exit)

pub write_on : (list : List ℕ) (at left : ℕ) (exit : List ℕ) (l m : ℕ) (after : List ℕ) → (left ≡ 0 → ⊥) → (l ≡ 0 → ⊥) → m ≡ get_or exit l 0
    → after ≡ sets (set list at m) (at + 1) (way_out (left - 1) exit m) → after ≡ sets list at (way_out left exit l)
write_on list at left exit l m after h k e q = rw (way_next left exit l m h k e) (rw (add-one at) at q)

-- what is told and left of the list, where it has room for the way and where it hasn't
module _ (way list : List ℕ) where
  pub short_told : length list < length way → Err too_short ≡ way_told_in way list
  unfolding way_told_in if_room
  short_told h = rw (lt-leb (length way) (length list) h)

  pub short_kept : length list < length way → list ≡ way_written_in way list
  unfolding way_written_in if_room
  short_kept h = rw (lt-leb (length way) (length list) h)

  pub room_told : length way ≤ length list → Ok (length way) ≡ way_told_in way list
  unfolding way_told_in if_room
  room_told h = rw (le-leb (length way) (length list) h)

  pub room_written : length way ≤ length list → sets list 0 way ≡ way_written_in way list
  unfolding way_written_in if_room
  room_written h =
      let room : 0 + length way ≤ length list = omega arith in
      let none : 0 + length way ≡ length way = omega arith in
      rw (le-leb (length way) (length list) h) (sets-eq way list 0 room ∙ ap (λ (n : ℕ). way ++ drop n list) none)

-- what the functions that measure, write and tell a way go by
pub ruleset way_laws = (length_spent, length_outside, length_on, way_length, write_spent, write_outside, write_on, short_told, short_kept, room_told, room_written, length-set)
