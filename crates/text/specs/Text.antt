-- Numbers and rows as they are printed. 01, "Program and one whole run".
use Rattle.std.specs.Prelude.{ℕ, zero, suc, ◌+◌, ◌/◌, ◌%◌, cond, List, [], ◌∷◌, ◌++◌, ltb}
use Rattle.grammar.specs.Grammar.{comma, cr, lf}

-- the byte of a digit
abbrev pub digit_byte : ℕ → ℕ
digit_byte n = 48 + n

-- a number in decimal: the digits of its tenth, if it has more than one, and then its last digit; a number has no more
-- digits than `most` and one
unfoldable pub digits : ℕ → ℕ → List ℕ
digits zero n = digit_byte n ∷ []
digits (suc most) n = cond (ltb n 10) (digit_byte n ∷ []) (digits most (n / 10) ++ (digit_byte (n % 10) ∷ []))

unfoldable pub decimal : ℕ → List ℕ
decimal n = digits n n

-- the two digits of a number below 100
unfoldable pub pair_of : ℕ → List ℕ
pair_of n = digit_byte (n / 10) ∷ digit_byte (n % 10) ∷ []

-- "in CRLF rows": a number and those behind it, with commas between them
unfoldable pub row_of_numbers : ℕ → List ℕ → List ℕ
row_of_numbers n [] = decimal n ++ (cr ∷ lf ∷ [])
row_of_numbers n (m ∷ ns) = decimal n ++ (comma ∷ row_of_numbers m ns)
