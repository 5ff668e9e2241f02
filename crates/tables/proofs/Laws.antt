-- The laws of what holds below a number (`specs/Below.antt`) and of tests that tell facts, each both ways.
--     all_yes, all_back, some-yes, some_back, none-some      for all below n, for some below n
--     least-none, none-least, least_at, at_least                        the least below n
--     may-be-outside, no-right-past                                     location 0 is everybody's; past the locations there is no right
--     tell-..                                                           tests put together
--     answers, answers-pair                                             a search answers none or the smallest offender
-- Assumes nothing.
use Prim.Native.Nat.{ℕ, zero, suc, ◌≤◌, ◌<◌}
use mathlib.Core.Path.{ap, ◌≡◌, refl, sym, subst, ◌∙◌}
use mathlib.Core.Bool.{Bool, true, false, not, cond, true≢false, false≢true}
use mathlib.Core.Logic.{⊎_elim}
use mathlib.Core.List.{List}
use native.Mathlib.Nat.{not-suc-le-zero, eq-or-lt_of_le, le_of_suc-le-suc}
use native.Mathlib.Omega.{arith}
use borrow.Author.Tests.{ltb-true, lt-ltb, le-ltb, leb-true, le-leb, eqb-true, eq-eqb, ne_eqb}
use lib.Dec.{ltb, leb, eqb}
use Rattle.std.specs.Prelude.{Option, Some, None}
use Rattle.tables.specs.Tables.{or_else, and_also, may_be, most_locations}
use Rattle.tables.specs.Below.{all_below, some_below, or_at, least_below, with_location, location_of, least_pair, is_nothing, no_pair}
use Rattle.tables.specs.Below.{Tells, Answers, SmallestPair, AnswersPair}

-- ---- tests

pub and_left : (a b : Bool) → and_also a b ≡ true → a ≡ true
unfolding and_also
and_left true b e = refl
and_left false b e = e

pub and_right : (a b : Bool) → and_also a b ≡ true → b ≡ true
unfolding and_also
and_right true b e = e
and_right false b e = absurd (false≢true e)

pub and_both : (a b : Bool) → a ≡ true → b ≡ true → and_also a b ≡ true
unfolding and_also
and_both a b p q = rw (p, q)

pub or_left : (a b : Bool) → a ≡ true → or_else a b ≡ true
unfolding or_else
or_left a b p = rw p

pub or_right : (a b : Bool) → b ≡ true → or_else a b ≡ true
unfolding or_else
or_right true b p = refl
or_right false b p = p

-- a test that isn't true is false
pub not_so : (b : Bool) → (b ≡ true → ⊥) → b ≡ false
not_so true no_way = absurd (no_way refl)
not_so false no_way = refl

pub clash : {A : Type 0} {b : Bool} → b ≡ true → b ≡ false → A
clash p q = absurd (true≢false (sym p ∙ q))

-- the last of the numbers below suc n, or one before it
split : (n k : ℕ) (P : ℕ → Type 0) → P n → (k < n → P k) → k < suc n → P k
split n k P here there h = ⊎_elim (λ e. subst P (sym e) here) there (eq-or-lt_of_le (le_of_suc-le-suc h))

-- ---- for all below n, for some below n

module _ (test : ℕ → Bool) where
  pub all_yes : (n : ℕ) → all_below test n ≡ true → (k : ℕ) → k < n → test k ≡ true
  unfolding all_below
  all_yes zero e k h = absurd (not-suc-le-zero h)
  all_yes (suc n) e k h =
      split n k (λ j. test j ≡ true) (and_right (all_below test n) (test n) e) (all_yes n (and_left (all_below test n) (test n) e) k) h

  pub all_back : (n : ℕ) → ((k : ℕ) → k < n → test k ≡ true) → all_below test n ≡ true
  unfolding all_below
  all_back zero all = refl
  all_back (suc n) all =
      and_both (all_below test n) (test n) (all_back n (λ k h. all k (omega arith))) (all n (omega arith))

  pub some_yes : (n : ℕ) → some_below test n ≡ true → (k : ℕ) × (k < n) × (test k ≡ true)
  unfolding some_below or_else
  some_yes zero e = absurd (false≢true e)
  some_yes (suc n) e = go (some_below test n) (λ p. some_yes n p) refl e
    where
      go : (b : Bool) → (some_below test n ≡ true → (k : ℕ) × (k < n) × (test k ≡ true)) → some_below test n ≡ b → or_else b (test n) ≡ true
          → (k : ℕ) × (k < suc n) × (test k ≡ true)
      go true below p q = let r = below p in (r.0, omega (arith, r.1), r.2)
      go false below p q = (n, omega arith, q)

  pub some_back : (n k : ℕ) → k < n → test k ≡ true → some_below test n ≡ true
  unfolding some_below
  some_back zero k h e = absurd (not-suc-le-zero h)
  some_back (suc n) k h e =
      split n k (λ j. test j ≡ true → some_below test (suc n) ≡ true) (or_right (some_below test n) (test n))
      (λ lt p. or_left (some_below test n) (test n) (some_back n k lt p)) h e

  pub some_none : (n : ℕ) → ((k : ℕ) → k < n → test k ≡ false) → some_below test n ≡ false
  some_none n clear = not_so (some_below test n) (λ e. let r = some_yes n e in clash r.2 (clear r.0 r.1))

  pub none_some : (n : ℕ) → some_below test n ≡ false → (k : ℕ) → k < n → test k ≡ false
  none_some n e k h = not_so (test k) (λ p. clash (some_back n k h p) e)

  -- ---- the least below n

  pub none_least : (n : ℕ) → ((k : ℕ) → k < n → test k ≡ false) → least_below test n ≡ None
  unfolding least_below or_at
  none_least zero clear = refl
  none_least (suc n) clear = rw (none_least n (λ k h. clear k (omega arith)), clear n (omega arith))

  pub at_least : (n k : ℕ) → k < n → test k ≡ true → ((j : ℕ) → j < k → test j ≡ false) → least_below test n ≡ Some k
  unfolding least_below or_at
  at_least zero k h e before = absurd (not-suc-le-zero h)
  at_least (suc n) k h e before =
      split n k (λ j. test j ≡ true → ((i : ℕ) → i < j → test i ≡ false) → least_below test (suc n) ≡ Some j)
      (λ here clear. rw (none_least n clear, here)) (λ lt p clear. rw (at_least n k lt p clear)) h e before

  -- every search ends in one of the two
  data Outcome (n : ℕ) : Type 0 where
    none : least_below test n ≡ None → ((k : ℕ) → k < n → test k ≡ false) → Outcome n
    one : (k : ℕ) → least_below test n ≡ Some k → k < n → test k ≡ true → ((j : ℕ) → j < k → test j ≡ false) → Outcome n

  outcome : (n : ℕ) → Outcome n
  outcome zero = none (none_least zero (λ k h. absurd (not-suc-le-zero h))) (λ k h. absurd (not-suc-le-zero h))
  outcome (suc n) = go (outcome n) (test n) refl
    where
      go : Outcome n → (b : Bool) → test n ≡ b → Outcome (suc n)
      go (one k e h p before) b q = one k (at_least (suc n) k (omega arith) p before) (omega arith) p before
      go (none e clear) true q = one n (at_least (suc n) n (omega arith) q clear) (omega arith) q clear
      go (none e clear) false q =
          let all : (k : ℕ) → k < suc n → test k ≡ false = λ k h. split n k (λ j. test j ≡ false) q (clear k) h in
          none (none_least (suc n) all) all

  pub least_none : (n : ℕ) → least_below test n ≡ None → (k : ℕ) → k < n → test k ≡ false
  least_none n e = go (outcome n)
    where
      go : Outcome n → (k : ℕ) → k < n → test k ≡ false
      go (none _ clear) j h = clear j h
      go (one k e' _ _ _) j h = let z : ◌≡◌ {A = ℕ} 0 1 = cc in absurd (omega arith)

  pub least_at : (n k : ℕ) → least_below test n ≡ Some k → (k < n) × (test k ≡ true) × ((j : ℕ) → j < k → test j ≡ false)
  least_at n k e = go (outcome n)
    where
      go : Outcome n → (k < n) × (test k ≡ true) × ((j : ℕ) → j < k → test j ≡ false)
      go (none e' _) = let z : ◌≡◌ {A = ℕ} 0 1 = cc in absurd (omega arith)
      go (one i e' h p before) =
          let same : i ≡ k = cc in
          subst (λ (x : ℕ). (x < n) × (test x ≡ true) × ((j : ℕ) → j < x → test j ≡ false)) same (h, p, before)

-- ---- rights

-- "Location 0 is everybody's"
pub may_be_outside : (right : List Bool) (p : ℕ) → may_be right p 0 ≡ true
unfolding may_be or_else
may_be_outside right p = refl

-- no right is read for a location past those that a site may have
pub no_right_past : (right : List Bool) (p l : ℕ) → most_locations ≤ l → may_be right p l ≡ false
unfolding may_be or_else and_also
no_right_past right p l h = rw (ne_eqb l 0 (λ e. omega arith), le-ltb l most_locations h)

-- ---- tests that tell facts

pub tell_lt : (a b : ℕ) → Tells (ltb a b) (a < b)
tell_lt a b = record { yes = ltb-true a b; back = lt-ltb a b }

pub tell_le : (a b : ℕ) → Tells (leb a b) (a ≤ b)
tell_le a b = record { yes = leb-true a b; back = le-leb a b }

pub tell_eq : (a b : ℕ) → Tells (eqb a b) (a ≡ b)
tell_eq a b = record { yes = eqb-true a b; back = eq-eqb a b }

-- a test tells that it holds
pub tell_itself : (b : Bool) → Tells b (b ≡ true)
tell_itself b = record { yes = λ e. e; back = λ e. e }

pub tell_not : {b : Bool} {P : Type 0} → Tells b P → Tells (not b) (P → ⊥)
tell_not {b} t = go b t
  where
    go : {P : Type 0} (b : Bool) → Tells b P → Tells (not b) (P → ⊥)
    go true t = record { yes = λ e. absurd (false≢true e); back = λ f. absurd (f (t.yes refl)) }
    go false t = record { yes = λ e p. false≢true (t.back p); back = λ f. refl }

-- the second test need only tell its fact where the first held
pub tell_and_then : {a b : Bool} {P Q : Type 0} → Tells a P → (P → Tells b Q) → Tells (and_also a b) (P × Q)
tell_and_then {a} {b} s t =
    record {
      yes = λ e. let p = s.yes (and_left a b e) in (p, (t p).yes (and_right a b e));
      back = λ p. and_both a b (s.back p.0) ((t p.0).back p.1);
    }

pub tell_and : {a b : Bool} {P Q : Type 0} → Tells a P → Tells b Q → Tells (and_also a b) (P × Q)
tell_and s t = tell_and_then s (λ p. t)

-- an offence is that the first holds and the second fails: without it the second follows from the first
pub tell_then : {a : Bool} (b : Bool) {P Q : Type 0} → Tells a P → Tells (not b) Q → Tells (not (and_also a b)) (P → Q)
unfolding and_also
tell_then {a} b s t = go a b s t
  where
    go : {P Q : Type 0} (a b : Bool) → Tells a P → Tells (not b) Q → Tells (not (and_also a b)) (P → Q)
    go true b s t = record { yes = λ e p. t.yes e; back = λ f. t.back (f (s.yes refl)) }
    go false b s t = record { yes = λ e p. absurd (false≢true (s.back p)); back = λ f. refl }

pub tell_not_not : {b : Bool} {P : Type 0} → Tells b P → Tells (not (not b)) P
tell_not_not {b} t = go b t
  where
    go : {P : Type 0} (b : Bool) → Tells b P → Tells (not (not b)) P
    go true t = t
    go false t = t

pub tell_all : (test : ℕ → Bool) (P : ℕ → Type 0) (n : ℕ) → ((k : ℕ) → Tells (test k) (P k)) → Tells (all_below test n) ((k : ℕ) → k < n → P k)
tell_all test P n t =
    record { yes = λ e k h. (t k).yes (all_yes test n e k h); back = λ all. all_back test n (λ k h. (t k).back (all k h)) }

-- a choice between two tests
pub tell_cond : (a : Bool) {x y : Bool} {N P Q : Type 0} → (a ≡ true → N) → (N → a ≡ true) → Tells x P → Tells y Q
    → Tells (cond a x y) ((N → P) × ((N → ⊥) → Q))
tell_cond true f g s t = record { yes = λ e. (λ _. s.yes e, λ n. absurd (n (f refl))); back = λ p. s.back (p.0 (f refl)) }
tell_cond false f g s t = record { yes = λ e. (λ n. absurd (false≢true (g n)), λ _. t.yes e); back = λ p. t.back (p.1 (λ n. false≢true (g n))) }

-- the same facts in other words
pub tell_as : {b : Bool} {P Q : Type 0} → (P → Q) → (Q → P) → Tells b P → Tells b Q
tell_as f g t = record { yes = λ e. f (t.yes e); back = λ q. t.back (g q) }

-- the first test spares the second
pub tell_unless : (a : Bool) {b : Bool} {N Q : Type 0} → (a ≡ false → N) → (N → a ≡ false) → Tells b Q → Tells (or_else a b) (N → Q)
unfolding or_else
tell_unless true f g t = record { yes = λ _ n. absurd (true≢false (g n)); back = λ _. refl }
tell_unless false f g t = record { yes = λ e _. t.yes e; back = λ q. t.back (q (f refl)) }

-- a test that is negated spares the second where it fails
pub tell_when : (a : Bool) {b : Bool} {Q : Type 0} → Tells b Q → Tells (or_else (not a) b) (a ≡ true → Q)
tell_when a t = tell_unless (not a) (λ e. flip a e) (λ e. rw e) t
  where
    flip : (a : Bool) → not a ≡ false → a ≡ true
    flip true e = refl
    flip false e = absurd (true≢false e)

pub tell_fails : (a : Bool) → Tells (not a) (a ≡ false)
tell_fails true = record { yes = λ e. absurd (false≢true e); back = λ e. absurd (true≢false e) }
tell_fails false = record { yes = λ _. refl; back = λ _. refl }

-- two tests that tell the same are the same
pub tell_same : {a b : Bool} {P : Type 0} → Tells a P → Tells b P → a ≡ b
tell_same {a} {b} s t = go b (λ e. s.back (t.yes e)) (λ e. not_so a (λ x. clash (t.back (s.yes x)) e))
  where
    go : (b : Bool) → (b ≡ true → a ≡ true) → (b ≡ false → a ≡ false) → a ≡ b
    go true f g = f refl
    go false f g = g refl

-- ---- what a search answers

-- the test fails exactly where the fact holds
kept : {b : Bool} {P : Type 0} → Tells (not b) P → b ≡ false → P
kept t e = t.yes (rw e)

pub breaks : {b : Bool} {P : Type 0} → Tells (not b) P → P → b ≡ false
breaks {b} t p = go b (t.back p)
  where
    go : (b : Bool) → not b ≡ true → b ≡ false
    go true e = absurd (false≢true e)
    go false e = refl

broken : {b : Bool} {P : Type 0} → Tells (not b) P → (P → ⊥) → b ≡ true
broken {b} t f = go b (λ e. f (t.yes e))
  where
    go : (b : Bool) → (not b ≡ true → ⊥) → b ≡ true
    go true f = refl
    go false f = absurd (f refl)

pub answers : (test : ℕ → Bool) (Fact : ℕ → Type 0) (n : ℕ) → ((k : ℕ) → k < n → Tells (not (test k)) (Fact k)) → Answers (least_below test n) Fact n
answers test Fact n t =
    record {
      none_yes = λ e k h. kept (t k h) (least_none test n e k h);
      none_back = λ all. none_least test n (λ k h. breaks (t k h) (all k h));
      at_yes = λ k e. let l = least_at test n k e in
          record { exists = l.0; offends = λ p. clash l.1 (breaks (t k l.0) p); before = λ j h. kept (t j (omega (arith, l.0))) (l.2 j h) };
      at_back = λ k s. at_least test n k s.exists (broken (t k s.exists) s.offends) (λ j h. let i = s.exists in breaks (t j (omega arith)) (s.before j h));
    }

pub tell_nothing : (answer : Option ℕ) (Fact : ℕ → Type 0) (n : ℕ) → Answers answer Fact n → Tells (is_nothing answer) ((k : ℕ) → k < n → Fact k)
tell_nothing (Some i) Fact n a =
    record { yes = λ e. absurd (false≢true e); back = λ all. let s = a.at_yes i refl in absurd (s.offends (all i s.exists)) }
tell_nothing None Fact n a = record { yes = λ e. a.none_yes refl; back = λ all. refl }

-- ---- the same over pairs

module _ (test : ℕ → ℕ → Bool) (Fact : ℕ → ℕ → Type 0) (n m : ℕ) (t : (p l : ℕ) → Tells (not (test p l)) (Fact p l)) where
  data PairOutcome : Type 0 where
    none : least_pair test n m ≡ None → ((p : ℕ) → p < n → (l : ℕ) → l < m → Fact p l) → PairOutcome
    one : (p l : ℕ) → least_pair test n m ≡ Some (p, l) → SmallestPair Fact n m p l → PairOutcome

  inner : (p : ℕ) → Answers (least_below (test p) m) (Fact p) m
  inner p = answers (test p) (Fact p) m (λ l h. t p l)

  clear_of : (q : ℕ) → some_below (test q) m ≡ false → (j : ℕ) → j < m → Fact q j
  clear_of q e j h = kept (t q j) (none_some (test q) m e j h)

  person_found : (p : ℕ) → least_below (λ q. some_below (test q) m) n ≡ Some p → (a : Option ℕ) → least_below (test p) m ≡ a → PairOutcome
  unfolding least_pair location_of with_location
  person_found p e None q =
      let r = least_at (λ q. some_below (test q) m) n p e in
      let s = some_yes (test p) m r.1 in
      clash s.2 (least_none (test p) m q s.0 s.1)
  person_found p e (Some l) q =
      let r = least_at (λ q. some_below (test q) m) n p e in
      one p l (rw (e, q)) (record { person = r.0; before = λ i h. clear_of i (r.2 i h); location = (inner p).at_yes l q })

  pair_outcome : (a : Option ℕ) → least_below (λ q. some_below (test q) m) n ≡ a → PairOutcome
  unfolding least_pair location_of
  pair_outcome None e = none (rw e) (λ p h. clear_of p (least_none (λ q. some_below (test q) m) n e p h))
  pair_outcome (Some p) e = person_found p e (least_below (test p) m) refl

  same_pair : (p l q j : ℕ) → SmallestPair Fact n m p l → SmallestPair Fact n m q j → (p ≡ q) × (l ≡ j)
  same_pair p l q j s r =
      let a : p < q → ⊥ = λ h. s.location.offends (r.before p h l s.location.exists) in
      let b : q < p → ⊥ = λ h. r.location.offends (s.before q h j r.location.exists) in
      let e : p ≡ q = omega arith in
      let x : l < j → ⊥ = λ h. s.location.offends (rw e (r.location.before l h)) in
      let y : j < l → ⊥ = λ h. r.location.offends (rw (← e) (s.location.before j h)) in
      (e, omega arith)

  pub answers_pair : AnswersPair (least_pair test n m) Fact n m
  answers_pair = go (pair_outcome (least_below (λ q. some_below (test q) m) n) refl)
    where
      go : PairOutcome → AnswersPair (least_pair test n m) Fact n m
      go (none e clear) =
          record {
            none_yes = λ _. clear;
            none_back = λ _. e;
            at_yes = λ p l q. let z : ◌≡◌ {A = ℕ} 0 1 = cc in absurd (omega arith);
            at_back = λ p l s. absurd (s.location.offends (clear p s.person l s.location.exists));
          }
      go (one p l e s) =
          record {
            none_yes = λ q. let z : ◌≡◌ {A = ℕ} 0 1 = cc in absurd (omega arith);
            none_back = λ clear. absurd (s.location.offends (clear p s.person l s.location.exists));
            at_yes = λ q j r. let t : ◌≡◌ {A = ℕ × ℕ} (p, l) (q, j) = cc in let a : p ≡ q = ap (λ x. x.0) t in let b : l ≡ j = ap (λ x. x.1) t in rw (← a, ← b) s;
            at_back = λ q j r. let w = same_pair p l q j s r in let a : p ≡ q = w.0 in let b : l ≡ j = w.1 in cc;
          }

pub tell_no_pair : (answer : Option (ℕ × ℕ)) (Fact : ℕ → ℕ → Type 0) (n m : ℕ) → AnswersPair answer Fact n m
    → Tells (no_pair answer) ((p : ℕ) → p < n → (l : ℕ) → l < m → Fact p l)
tell_no_pair (Some (p, l)) Fact n m a =
    record {
      yes = λ e. absurd (false≢true e);
      back = λ all. let s = a.at_yes p l refl in absurd (s.location.offends (all p s.person l s.location.exists));
    }
tell_no_pair None Fact n m a = record { yes = λ e. a.none_yes refl; back = λ all. refl }
