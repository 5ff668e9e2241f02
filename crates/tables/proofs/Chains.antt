-- What a chain over the numbers below n answers, where its closure computes a test: all whether all pass, any whether some does,
-- find the least that does. Each law takes the call's clause `ran` and that the closure computes the test.
-- Assumes nothing.
use Prim.Native.Nat.{ℕ, zero, suc, ◌+◌, ◌-◌, ◌≤◌, ◌<◌}
use mathlib.Core.Path.{◌≡◌, refl, ap, ◌∙◌}
use mathlib.Core.Bool.{Bool, true, false, cond, ◌&&◌, ◌||◌}
use mathlib.Core.List.{List}
use mathlib.Core.Logic.{⊎_elim}
use native.Mathlib.Numerals.{add-one}
use native.Mathlib.Omega.{arith}
use borrow.Author.Tests.{lt-ltb, le-ltb}
use lib.Dec.{ltb}
use denote.Param.Members.{Mut}
use denote.Ref.{Bor}
use Rattle.std.specs.Prelude.{Option, Some, None}
use Rattle.std.specs.Fn.{Called, CalledAt}
use Rattle.std.specs.declared.ops.Range.{Range}
use Rattle.std.specs.Bool.{⊤}
use Rattle.std.specs.Iterator.{YieldsThen}
use Rattle.std.specs.Option.{MatchOption, option_map, is_some}
use Rattle.std.specs.List.{FoldsTo, list_all, list_any, find, range_with_len}
use Rattle.std.proofs.iter.Yields.{nat_range_steps}
use Rattle.std.proofs.lemmas.Iterator.{YieldsList, YieldsList-from_range}
use Rattle.std.proofs.lemmas.Iterator.Search.{all_from_yields_List, any_from_yields_List, find_from_yields_List}
use Rattle.tables.specs.Tables.{or_else, and_also}
use Rattle.tables.specs.Below.{all_below, some_below, or_at, least_below}
use native.Mathlib.Nat.{not-suc-le-zero}
use Rattle.tables.proofs.Laws.{or_left, all_back, none_least}
use Rattle.tables.proofs.Cases.{below_or_not}

-- ---- the words of lists, said of the numbers below a number

and_end : (b : Bool) → and_also b true ≡ b
unfolding and_also
and_end true = refl
and_end false = refl

and_next : (b t r : Bool) → and_also b (t && r) ≡ and_also (and_also b t) r
unfolding and_also
and_next true true r = refl
and_next true false r = refl
and_next false t r = refl

or_end : (b : Bool) → or_else b false ≡ b
unfolding or_else
or_end true = refl
or_end false = refl

or_next : (b t r : Bool) → or_else b (t || r) ≡ or_else (or_else b t) r
unfolding or_else
or_next true t r = refl
or_next false true r = refl
or_next false false r = refl

-- what was found before, else what is found after
found_first : Option ℕ → Option ℕ → Option ℕ
found_first (Some k) later = Some k
found_first None later = later

first_end : (o : Option ℕ) → found_first o None ≡ o
unfolding found_first
first_end (Some k) = refl
first_end None = refl

first_next : (o : Option ℕ) (t : Bool) (n : ℕ) (later : Option ℕ) → found_first o (cond t (Some n) later) ≡ found_first (or_at o t n) later
unfolding found_first or_at
first_next (Some k) t n later = refl
first_next None true n later = refl
first_next None false n later = refl

module _ (test : ℕ → Bool) where
  all_more : (a : ℕ) → all_below test (a + 1) ≡ and_also (all_below test a) (test a)
  unfolding all_below
  all_more a = ap (all_below test) (add-one a)

  pub some_more : (a : ℕ) → some_below test (a + 1) ≡ or_else (some_below test a) (test a)
  unfolding some_below
  some_more a = ap (some_below test) (add-one a)

  least_more : (a : ℕ) → least_below test (a + 1) ≡ or_at (least_below test a) (test a) a
  unfolding least_below
  least_more a = ap (least_below test) (add-one a)

  all_after : (a n m : ℕ) → a + n ≡ m → and_also (all_below test a) (list_all test (range_with_len a n)) ≡ all_below test m
  all_after a zero m e = let is : a ≡ m = omega arith in rw is (and_end (all_below test m))
  all_after a (suc n) m e =
      and_next (all_below test a) (test a) (list_all test (range_with_len (a + 1) n)) ∙ rw (← all_more a) (all_after (a + 1) n m (omega arith))

  some_after : (a n m : ℕ) → a + n ≡ m → or_else (some_below test a) (list_any test (range_with_len a n)) ≡ some_below test m
  some_after a zero m e = let is : a ≡ m = omega arith in rw is (or_end (some_below test m))
  some_after a (suc n) m e =
      or_next (some_below test a) (test a) (list_any test (range_with_len (a + 1) n)) ∙ rw (← some_more a) (some_after (a + 1) n m (omega arith))

  least_after : (a n m : ℕ) → a + n ≡ m → found_first (least_below test a) (find test (range_with_len a n)) ≡ least_below test m
  least_after a zero m e = let is : a ≡ m = omega arith in rw is (first_end (least_below test m))
  least_after a (suc n) m e =
      first_next (least_below test a) (test a) a (find test (range_with_len (a + 1) n)) ∙ rw (← least_more a) (least_after (a + 1) n m (omega arith))

  all_numbers : (n : ℕ) → list_all test (range_with_len 0 n) ≡ all_below test n
  unfolding all_below and_also
  all_numbers n = all_after 0 n n (omega arith)

  some_numbers : (n : ℕ) → list_any test (range_with_len 0 n) ≡ some_below test n
  unfolding some_below or_else
  some_numbers n = some_after 0 n n (omega arith)

some_at : (o : Option ℕ) (t : Bool) (n : ℕ) → is_some (or_at o t n) ≡ or_else (is_some o) t
unfolding or_at or_else
some_at (Some k) t n = refl
some_at None true n = refl
some_at None false n = refl

-- a least one is found exactly where some passes
pub some_found : (test : ℕ → Bool) (n : ℕ) → is_some (least_below test n) ≡ some_below test n
unfolding least_below some_below
some_found test zero = refl
some_found test (suc n) = rw (← some_found test n) (some_at (least_below test n) (test n) n)

-- ---- the numbers from one on: those before it pass without a look

module _ (check : ℕ → Bool) (from : ℕ) where
  abbrev Past : ℕ → Bool
  Past i = or_else (ltb i from) (check i)

  past_same : (a n : ℕ) → from ≤ a → list_all check (range_with_len a n) ≡ list_all Past (range_with_len a n)
  unfolding or_else
  past_same a zero h = refl
  past_same a (suc n) h = rw (le-ltb a from h, past_same (a + 1) n (omega arith)) refl

  before_pass : (n : ℕ) → n ≤ from → all_below Past n ≡ true
  before_pass n h = all_back Past n (λ i l. or_left _ _ (lt-ltb i from (omega arith)))

  all_onward : (n : ℕ) → list_all check (range_with_len from (n - from)) ≡ all_below Past n
  unfolding and_also
  all_onward n = ⊎_elim (λ h. short (omega arith)) (λ h. past_same from (n - from) (omega arith) ∙ long h) (below_or_not n from)
    where
      short : n ≤ from → list_all check (range_with_len from (n - from)) ≡ all_below Past n
      short h = let none : n - from ≡ 0 = omega arith in rw (none, before_pass n h) refl

      long : from ≤ n → list_all Past (range_with_len from (n - from)) ≡ all_below Past n
      long h = rw (before_pass from (omega arith)) at (all_after Past from (n - from) n (omega arith))

-- a search from `from` on finds the least, where none before it passes
least_onward : (test : ℕ → Bool) (from n : ℕ) → ((k : ℕ) → k < from → test k ≡ false) → find test (range_with_len from (n - from)) ≡ least_below test n
unfolding found_first
least_onward test from n clear = ⊎_elim (λ h. short (omega arith)) (λ h. long (omega arith)) (below_or_not n from)
  where
    short : n ≤ from → find test (range_with_len from (n - from)) ≡ least_below test n
    short h = let none : n - from ≡ 0 = omega arith in rw (none, none_least test n (λ k l. clear k (omega arith))) refl

    long : from ≤ n → find test (range_with_len from (n - from)) ≡ least_below test n
    long h = rw (none_least test from clear) at (least_after test from (n - from) n (omega arith))

-- ---- what the calls answer

numbers_below : {s : Range ℕ} (n : ℕ) → s ≡ record { start = 0; end = n } → YieldsList nat_range_steps (λ x. x) s (range_with_len 0 n)
numbers_below n e = YieldsList-from_range 0 n n e (omega arith)

module _ {F : Type 0} {s : Range ℕ} {n : ℕ} (test : ℕ → Bool) (u : Range ℕ) (f : F) where
  module _ {g : Mut F (ℕ × Unit {0}) Bool} (r : Bool) where
    pub all_is : (xs : List ℕ) × (o : Option ℕ) × (j : F) × YieldsThen nat_range_steps s xs o u × FoldsTo (λ p x q. Called g p (x, tt) true q) f xs j
        × MatchOption o (r ≡ true) (λ x. (r ≡ false) × ((h : F) × Called g j (x, tt) false h)) → s ≡ record { start = 0; end = n }
        → ((x : ℕ) (b : Bool) (q : F) → Called g f (x, tt) b q → (q ≡ f) × (b ≡ test x)) → r ≡ all_below test n
    all_is ran from computes = all_from_yields_List test u f r ran (numbers_below n from) computes ∙ all_numbers test n

    pub any_is : (xs : List ℕ) × (o : Option ℕ) × (j : F) × YieldsThen nat_range_steps s xs o u × FoldsTo (λ p x q. Called g p (x, tt) false q) f xs j
        × MatchOption o (r ≡ false) (λ x. (r ≡ true) × ((h : F) × Called g j (x, tt) true h)) → s ≡ record { start = 0; end = n }
        → ((x : ℕ) (b : Bool) (q : F) → Called g f (x, tt) b q → (q ≡ f) × (b ≡ test x)) → r ≡ some_below test n
    any_is ran from computes = any_from_yields_List test u f r ran (numbers_below n from) computes ∙ some_numbers test n

    -- the same from a number on
    pub all_from : {from : ℕ} → (xs : List ℕ) × (o : Option ℕ) × (j : F) × YieldsThen nat_range_steps s xs o u
        × FoldsTo (λ p x q. Called g p (x, tt) true q) f xs j × MatchOption o (r ≡ true) (λ x. (r ≡ false) × ((h : F) × Called g j (x, tt) false h))
        → s ≡ record { start = from; end = n } → ((x : ℕ) (b : Bool) (q : F) → Called g f (x, tt) b q → (q ≡ f) × (b ≡ test x))
        → r ≡ all_below (λ i. or_else (ltb i from) (test i)) n
    all_from {from} ran is computes = all_from_yields_List test u f r ran (YieldsList-from_range from n (n - from) is refl) computes ∙ all_onward test from n

  module _ {g : Mut F (Bor ℕ × Unit {0}) Bool} (r : Option ℕ) where
    -- from a number on, where none before it passes
    pub find_from : {from : ℕ} → (xs : List ℕ) × (j : F) × YieldsThen nat_range_steps s xs r u × FoldsTo (λ p x q. CalledAt g p x false q) f xs j
        × MatchOption r ⊤ (λ x. (h : F) × CalledAt g j x true h) → s ≡ record { start = from; end = n }
        → ((x : ℕ) (b : Bool) (q : F) → CalledAt g f x b q → (q ≡ f) × (b ≡ test x)) → ((k : ℕ) → k < from → test k ≡ false) → r ≡ least_below test n
    find_from {from} ran is computes clear =
        itself r ∙ find_from_yields_List test u f r ran (YieldsList-from_range from n (n - from) is refl) computes ∙ least_onward test from n clear
      where
        itself : (o : Option ℕ) → o ≡ option_map (λ x. x) o
        itself (Some k) = refl
        itself None = refl

    pub find_is : (xs : List ℕ) × (j : F) × YieldsThen nat_range_steps s xs r u × FoldsTo (λ p x q. CalledAt g p x false q) f xs j
        × MatchOption r ⊤ (λ x. (h : F) × CalledAt g j x true h) → s ≡ record { start = 0; end = n }
        → ((x : ℕ) (b : Bool) (q : F) → CalledAt g f x b q → (q ≡ f) × (b ≡ test x)) → r ≡ least_below test n
    find_is ran is computes = find_from ran is computes (λ k h. absurd (not-suc-le-zero h))

    -- from 1 on, where 0 doesn't pass
    pub find_past_0 : (xs : List ℕ) × (j : F) × YieldsThen nat_range_steps s xs r u × FoldsTo (λ p x q. CalledAt g p x false q) f xs j
        × MatchOption r ⊤ (λ x. (h : F) × CalledAt g j x true h) → s ≡ record { start = 1; end = n }
        → ((x : ℕ) (b : Bool) (q : F) → CalledAt g f x b q → (q ≡ f) × (b ≡ test x)) → test 0 ≡ false → r ≡ least_below test n
    find_past_0 ran is computes e = find_from ran is computes (λ k h. let zero_is : k ≡ 0 = omega arith in rw zero_is e)
