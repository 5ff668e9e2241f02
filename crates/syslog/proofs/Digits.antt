-- Decimal numbers, digit by digit: what passes over digits passes over a number, and a number that was written is read back.
-- Assumes nothing.
use Prim.Native.Nat.{ℕ, zero, suc, ◌+◌, ◌-◌, ◌*◌, ◌/◌, ◌%◌, ◌≤◌, ◌<◌}
use mathlib.Core.Path.{◌≡◌, refl, ap, ◌∙◌}
use mathlib.Core.Bool.{Bool, true, false}
use mathlib.Core.List.{List, [], ◌∷◌, ◌++◌, append_assoc}
use native.Mathlib.Omega.{arith}
use lib.ListN.{length, length-append}
use lib.Dec.{ltb}
use borrow.Author.Tests.{le-leb, ltb-true, ltb-false}
use Rattle.tables.specs.Tables.{and_also}
use Rattle.text.specs.Text.{digit_byte, decimal}
use Rattle.text.proofs.Decimal.{decimal_short, decimal_long, four_digits}
use Rattle.syslog.specs.Rfc.{EachByte, no_more, and, DIGIT, number_said_from, number_said, NonzeroFirst, nonzero_first}
use Rattle.syslog.specs.Guess.{is_digit, number_on, number_from}

-- what holds of numbers of one digit, and of a number where it holds of its tenth, holds of all
pub by_digits : (P : ℕ → Type 0) → ((n : ℕ) → n < 10 → P n) → ((n : ℕ) → 10 ≤ n → P (n / 10) → P n) → (n : ℕ) → P n
by_digits P short long n = down n n (omega arith)
  where
    down : (most k : ℕ) → k ≤ most → P k
    down zero k h = short k (omega arith)
    down (suc most) k h = go (ltb k 10) refl (down most (k / 10))
      where
        go : (q : Bool) → ltb k 10 ≡ q → (k / 10 ≤ most → P (k / 10)) → P k
        go true q tenth = short k (ltb-true k 10 q)
        go false q tenth = let l = ltb-false k 10 q in long k l (tenth (omega arith))

-- a number of two digits or more, with a text behind it
pub long_text : (n : ℕ) (t : List ℕ) → 10 ≤ n → decimal n ++ t ≡ decimal (n / 10) ++ (digit_byte (n % 10) ∷ t)
long_text n t l = rw (decimal_long n l, append_assoc)

-- what passes over a digit passes over a number
pub skips : {A : Type 0} (f : List ℕ → A) → ((d : ℕ) → d < 10 → (t : List ℕ) → f (digit_byte d ∷ t) ≡ f t) → (n : ℕ) (t : List ℕ)
    → f (decimal n ++ t) ≡ f t
skips f one =
    by_digits (λ n. (t : List ℕ) → f (decimal n ++ t) ≡ f t) (λ n h t. rw (decimal_short n h) (one n h t))
    (λ n l tenth t. ap f (long_text n t l) ∙ tenth (digit_byte (n % 10) ∷ t) ∙ one (n % 10) (omega arith) t)

-- ---- a number is read back

pub digit_is : (d : ℕ) → d < 10 → is_digit (digit_byte d) ≡ true
unfolding is_digit and_also
digit_is d h = rw (le-leb 48 (48 + d) (omega arith), le-leb (48 + d) 57 (omega arith))

one_more : (more n d : ℕ) (t : List ℕ) → d < 10 → 1 ≤ more → number_on more n (digit_byte d ∷ t) ≡ number_on (more - 1) (n * 10 + d) t
unfolding number_on
one_more zero n d t h l = absurd (omega arith)
one_more (suc more) n d t h l =
    let e : 48 + d - 48 ≡ d = omega arith in
    let k : suc more - 1 ≡ more = omega arith in
    rw (digit_is d h, e, k)

abbrev Back : ℕ → Type 0
Back n = (more : ℕ) (t : List ℕ) → length (decimal n) ≤ more → number_on more 0 (decimal n ++ t) ≡ number_on (more - length (decimal n)) n t

back_short : (n : ℕ) → n < 10 → Back n
back_short n h more t l =
    let e = decimal_short n h in
    let z : 0 * 10 + n ≡ n = omega arith in
    rw e (rw z at (one_more more 0 n t h (rw e at l)))

back_long : (n : ℕ) → 10 ≤ n → Back (n / 10) → Back n
back_long n h tenth more t l =
    let w : length (decimal n) ≡ length (decimal (n / 10)) + 1 = ap length (decimal_long n h) ∙ length-append (decimal (n / 10)) (digit_byte (n % 10) ∷ []) in
    let e : n / 10 * 10 + n % 10 ≡ n = omega arith in
    let k : more - length (decimal (n / 10)) - 1 ≡ more - length (decimal n) = omega arith in
    ap (number_on more 0) (long_text n t h) ∙ tenth more (digit_byte (n % 10) ∷ t) (omega arith)
    ∙ one_more (more - length (decimal (n / 10))) (n / 10) (n % 10) t (omega arith) (omega arith) ∙ rw (e, k)

-- no digit follows
pub data Stops : List ℕ → Type 0 where
  at_end : Stops []
  at_byte : {b : ℕ} {bs : List ℕ} → is_digit b ≡ false → Stops (b ∷ bs)

pub stopped : (more n : ℕ) {t : List ℕ} → Stops t → number_on more n t ≡ n
unfolding number_on
stopped zero n s = refl
stopped (suc more) n at_end = refl
stopped (suc more) n (at_byte e) = rw e

pub number_back : (n : ℕ) {t : List ℕ} → n < 10000 → Stops t → number_from (decimal n ++ t) ≡ n
number_back n {t} h s = by_digits Back back_short back_long n 4 t (four_digits n h) ∙ stopped (4 - length (decimal n)) n s

-- ---- a number is a number by the RFC

said_both : (n : ℕ) (xs ys : List ℕ) → number_said_from n (xs ++ ys) ≡ number_said_from (number_said_from n xs) ys
unfolding number_said_from
said_both n [] ys = refl
said_both n (x ∷ xs) ys = said_both (n * 10 + (x - 48)) xs ys

pub said_back : (n : ℕ) → number_said (decimal n) ≡ n
unfolding number_said_from
said_back =
    by_digits (λ n. number_said (decimal n) ≡ n) (λ n h. let e : 0 * 10 + (48 + n - 48) ≡ n = omega arith in rw (decimal_short n h, e))
    (λ n h tenth. let e : n / 10 * 10 + (48 + n % 10 - 48) ≡ n = omega arith in rw (decimal_long n h, said_both 0 (decimal (n / 10)) (digit_byte (n % 10) ∷ []), tenth, e))

pub each_both : {Byte : ℕ → Type 0} {xs ys : List ℕ} → EachByte Byte xs → EachByte Byte ys → EachByte Byte (xs ++ ys)
each_both no_more ys = ys
each_both (and b xs) ys = and b (each_both xs ys)

a_digit : (d : ℕ) → d < 10 → EachByte DIGIT (digit_byte d ∷ [])
a_digit d h = and {b = 48 + d} (omega arith, omega arith) no_more

pub each_digit : (n : ℕ) → EachByte DIGIT (decimal n)
each_digit =
    by_digits (λ n. EachByte DIGIT (decimal n)) (λ n h. rw (decimal_short n h) (a_digit n h))
    (λ n h tenth. rw (decimal_long n h) (each_both tenth (a_digit (n % 10) (omega arith))))

-- "NONZERO-DIGIT *DIGIT"
more_digits : {xs ys : List ℕ} → NonzeroFirst xs → EachByte DIGIT ys → NonzeroFirst (xs ++ ys)
more_digits (nonzero_first b bs) ys = nonzero_first b (each_both bs ys)

pub count_digits : (n : ℕ) → 1 ≤ n → NonzeroFirst (decimal n)
count_digits =
    by_digits (λ n. 1 ≤ n → NonzeroFirst (decimal n)) (λ n h l. rw (decimal_short n h) (nonzero_first {b = 48 + n} (omega arith, omega arith) no_more))
    (λ n h tenth l. rw (decimal_long n h) (more_digits (tenth (omega arith)) (a_digit (n % 10) (omega arith))))
