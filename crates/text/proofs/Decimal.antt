-- Numbers in decimal: their digits, and how many there are. Assumes nothing.
use Prim.Native.Nat.{ℕ, zero, suc, ◌+◌, ◌*◌, ◌/◌, ◌%◌, ◌^◌, ◌≤◌, ◌<◌}
use mathlib.Core.Path.{◌≡◌, refl, sym, ◌∙◌}
use mathlib.Core.Bool.{Bool, true, false}
use mathlib.Core.List.{List, [], ◌∷◌, ◌++◌, append_assoc}
use native.Mathlib.Omega.{arith}
use lib.Dec.{ltb}
use borrow.Author.Tests.{lt-ltb, le-ltb, ltb-true, ltb-false}
use lib.ListN.{length, length-append}
use Rattle.text.specs.Text.{digit_byte, digits, decimal, pair_of}
use Rattle.text.specs.Wrote.{last_place, Wrote}
use Rattle.text.proofs.Writing.{begun, more, last, said}

-- as many digits are asked for as there are, or more
enough : (m k n : ℕ) → n ≤ m → n ≤ k → digits m n ≡ digits k n
unfolding digits
enough zero zero n h i = refl
enough zero (suc k) n h i = let z : n < 10 = omega arith in rw (lt-ltb _ _ z)
enough (suc m) zero n h i = let z : n < 10 = omega arith in rw (lt-ltb _ _ z)
enough (suc m) (suc k) n h i = go (ltb n 10) refl (λ l. enough m k (n / 10) (omega arith) (omega arith))
  where
    go : (q : Bool) → ltb n 10 ≡ q → (10 ≤ n → digits m (n / 10) ≡ digits k (n / 10)) → digits (suc m) n ≡ digits (suc k) n
    go true q fewer = rw q
    go false q fewer = rw (q, fewer (ltb-false n 10 q))

pub decimal_short : (n : ℕ) → n < 10 → decimal n ≡ digit_byte n ∷ []
unfolding decimal digits
decimal_short zero h = refl
decimal_short (suc m) h = rw (lt-ltb _ _ h)

long : (most n : ℕ) → n ≤ most → 10 ≤ n → digits most n ≡ decimal (n / 10) ++ (digit_byte (n % 10) ∷ [])
unfolding decimal digits
long zero n h l = absurd (omega arith)
long (suc most) n h l = rw (le-ltb _ _ l, enough most (n / 10) (n / 10) (omega arith) (omega arith))

pub decimal_long : (n : ℕ) → 10 ≤ n → decimal n ≡ decimal (n / 10) ++ (digit_byte (n % 10) ∷ [])
unfolding decimal
decimal_long n l = long n n (omega arith) l

-- a number of two digits, and one of more: those of its hundredth, and two
pub decimal_pair : (n : ℕ) → 10 ≤ n → n < 100 → decimal n ≡ pair_of n
unfolding pair_of
decimal_pair n l h = decimal_long n l ∙ rw (decimal_short (n / 10) (omega arith))

pub decimal_by_pairs : (n : ℕ) → 100 ≤ n → decimal n ≡ decimal (n / 100) ++ pair_of (n % 100)
unfolding pair_of
decimal_by_pairs n l =
    let hundredth : n / 10 / 10 ≡ n / 100 = omega arith in
    let tens : n / 10 % 10 ≡ n % 100 / 10 = omega arith in
    let ones : n % 10 ≡ n % 100 % 10 = omega arith in
    decimal_long n (omega arith) ∙ rw (decimal_long (n / 10) (omega arith), hundredth, tens, ones) (append_assoc (decimal (n / 100)) (digit_byte (n % 100 / 10) ∷ []) (digit_byte (n % 100 % 10) ∷ []))

-- a number is written by its one digit, by its two, or by those of its hundredth and two
pub short_written : {before : List ℕ} {at n : ℕ} {after : List ℕ} {next : ℕ} → n < 10 → Wrote before at (digit_byte n ∷ []) after next
    → Wrote before at (decimal n) after next
short_written {n = n} h w = said (sym (decimal_short n h)) w

pub pair_written : {before : List ℕ} {at n : ℕ} {after : List ℕ} {next : ℕ} → 10 ≤ n → n < 100 → Wrote before at (pair_of n) after next
    → Wrote before at (decimal n) after next
pair_written {n = n} l h w = said (sym (decimal_pair n l h)) w

pub long_written : {before : List ℕ} {at n : ℕ} {between after : List ℕ} {seam next : ℕ} → length before ≤ last_place → at ≤ last_place → 100 ≤ n
    → Wrote before at (decimal (n / 100)) between seam → Wrote between seam (pair_of (n % 100)) after next → Wrote before at (decimal n) after next
long_written {n = n} f t h u w = last (more (begun f t) (decimal_by_pairs n h) u) w

-- how many digits a number has: one more for ten times the bound
wider : (bound width : ℕ) → ((m : ℕ) → m < bound → length (decimal m) ≤ width) → (n : ℕ) → n < bound * 10 → length (decimal n) ≤ width + 1
wider bound width fewer n h = go (ltb n 10) refl
  where
    go : (q : Bool) → ltb n 10 ≡ q → length (decimal n) ≤ width + 1
    go true q = rw (decimal_short n (ltb-true n 10 q)) (omega arith)
    go false q =
        let l = length-append (decimal (n / 10)) (digit_byte (n % 10) ∷ []) in
        let f = fewer (n / 10) (omega arith) in
        rw (decimal_long n (ltb-false n 10 q)) (omega arith)

pub one_digit_lem : (n : ℕ) → n < 10 → length (decimal n) ≤ 1
one_digit_lem n h = rw (decimal_short n h) (omega arith)

-- a number below a power of ten
pub digits_most : (w n : ℕ) → n < 10 ^ suc w → length (decimal n) ≤ suc w
digits_most zero n h = one_digit_lem n (omega arith)
digits_most (suc w) n h = let l = wider (10 ^ suc w) (suc w) (digits_most w) n (omega arith) in omega arith

pub two_digits : (n : ℕ) → n < 100 → length (decimal n) ≤ 2
two_digits = digits_most 1

pub four_digits : (n : ℕ) → n < 10000 → length (decimal n) ≤ 4
four_digits = digits_most 3

-- and there is one at least
pub decimal_some : (n : ℕ) → 1 ≤ length (decimal n)
decimal_some n = go (ltb n 10) refl
  where
    go : (q : Bool) → ltb n 10 ≡ q → 1 ≤ length (decimal n)
    go true q = rw (decimal_short n (ltb-true n 10 q)) (omega arith)
    go false q = let l = length-append (decimal (n / 10)) (digit_byte (n % 10) ∷ []) in rw (decimal_long n (ltb-false n 10 q)) (omega arith)
