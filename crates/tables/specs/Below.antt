-- What holds below a number: for all below n, for some below n, and the least below n. Every rule over a table says its
-- test by these.
use Rattle.std.specs.Prelude.{ℕ, zero, suc, ◌<◌, ◌≡◌, Bool, true, false, Option, Some, None}
use Rattle.tables.specs.Tables.{or_else, and_also}

-- every number below n passes the test
unfoldable pub all_below : (ℕ → Bool) → ℕ → Bool
all_below test zero = true
all_below test (suc n) = and_also (all_below test n) (test n)

-- some number below n passes the test
unfoldable pub some_below : (ℕ → Bool) → ℕ → Bool
some_below test zero = false
some_below test (suc n) = or_else (some_below test n) (test n)

-- what was found before stays; else it is n, if n passes
unfoldable pub or_at : Option ℕ → Bool → ℕ → Option ℕ
or_at (Some k) passes n = Some k
or_at None true n = Some n
or_at None false n = None

-- the least number below n that passes the test
unfoldable pub least_below : (ℕ → Bool) → ℕ → Option ℕ
least_below test zero = None
least_below test (suc n) = or_at (least_below test n) (test n) n

-- the person, and the location that was found for them
unfoldable pub with_location : ℕ → Option ℕ → Option (ℕ × ℕ)
with_location p (Some l) = Some (p, l)
with_location p None = None

unfoldable pub location_of : (ℕ → Option ℕ) → Option ℕ → Option (ℕ × ℕ)
location_of search (Some p) = with_location p (search p)
location_of search None = None

-- "smallest person, then location": the least person below n with a location below m that passes, and the least such
unfoldable pub least_pair : (ℕ → ℕ → Bool) → ℕ → ℕ → Option (ℕ × ℕ)
least_pair test n m = location_of (λ p. least_below (test p) m) (least_below (λ p. some_below (test p) m) n)

-- nothing was found
abbrev pub is_nothing : Option ℕ → Bool
is_nothing (Some k) = false
is_nothing None = true

abbrev pub no_pair : Option (ℕ × ℕ) → Bool
no_pair (Some (p, l)) = false
no_pair None = true

-- A test tells a fact: it holds if and only if the fact does.
pub record Tells (test : Bool) (Fact : Type 0) : Type 0 where
  pub yes : test ≡ true → Fact
  pub back : Fact → test ≡ true

-- k is the smallest offender below n: the fact fails at k, and holds of each before it.
pub record Smallest (Fact : ℕ → Type 0) (n k : ℕ) : Type 0 where
  pub exists : k < n
  pub offends : Fact k → ⊥
  pub before : (j : ℕ) → j < k → Fact j

-- An answer tells which number below n breaks a rule: none exactly when the rule's fact holds of all, and k exactly when k
-- is the smallest offender.
pub record Answers (answer : Option ℕ) (Fact : ℕ → Type 0) (n : ℕ) : Type 0 where
  pub none_yes : answer ≡ None → (k : ℕ) → k < n → Fact k
  pub none_back : ((k : ℕ) → k < n → Fact k) → answer ≡ None
  pub at_yes : (k : ℕ) → answer ≡ Some k → Smallest Fact n k
  pub at_back : (k : ℕ) → Smallest Fact n k → answer ≡ Some k

-- the same of persons below n and locations below m: the smallest person, then the location
pub record SmallestPair (Fact : ℕ → ℕ → Type 0) (n m p l : ℕ) : Type 0 where
  pub person : p < n
  pub before : (q : ℕ) → q < p → (j : ℕ) → j < m → Fact q j
  pub location : Smallest (Fact p) m l

pub record AnswersPair (answer : Option (ℕ × ℕ)) (Fact : ℕ → ℕ → Type 0) (n m : ℕ) : Type 0 where
  pub none_yes : answer ≡ None → (p : ℕ) → p < n → (l : ℕ) → l < m → Fact p l
  pub none_back : ((p : ℕ) → p < n → (l : ℕ) → l < m → Fact p l) → answer ≡ None
  pub at_yes : (p l : ℕ) → answer ≡ Some (p, l) → SmallestPair Fact n m p l
  pub at_back : (p l : ℕ) → SmallestPair Fact n m p l → answer ≡ Some (p, l)
