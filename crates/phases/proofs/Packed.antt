-- The table as the code has it, a number for each phase: its entries are those of the paper's table, by one test of all hundred.
-- Assumes nothing.
use Prim.Native.Nat.{ℕ, ◌+◌, ◌-◌, ◌*◌, ◌/◌, ◌%◌, ◌^◌, ◌<◌}
use mathlib.Core.Path.{◌≡◌, refl}
use mathlib.Core.Bool.{Bool, true, false}
use mathlib.Core.List.{List, [], ◌∷◌}
use native.Mathlib.Omega.{arith}
use lib.ListN.{get_or}
use lib.Dec.{eqb}
use lib.Bits.{bit_and}
use Rattle.std.proofs.lemmas.Bool.{agree_below, agree_below_at}
use Rattle.phases.specs.Table.{table}

abbrev rows : List ℕ
rows = 0b1000010000 ∷ 0b0100010000 ∷ 0b0010010000 ∷ 0b0000110000 ∷ 0b0000011000 ∷ 0b0000010100 ∷ 0b0001010000 ∷ 0b0000010000 ∷ 0b0000010010 ∷ 0b0000010001 ∷ []

-- the entry of a phase and a step, as the code reads it
abbrev pub entry : ℕ → ℕ → Bool
entry phase step = eqb (bit_and (get_or rows phase 0 / 2 ^ (9 - step)) 1) 1

by_code : ℕ → Bool
by_code i = entry (i / 10) (i % 10)

by_table : ℕ → Bool
by_table i = get_or table i false

all_same : agree_below by_code by_table 100 ≡ true
unfolding by_code by_table table
all_same = refl

at_entry : (i : ℕ) → i < 100 → entry (i / 10) (i % 10) ≡ get_or table i false
unfolding by_code by_table
at_entry i h = agree_below_at by_code by_table 100 i all_same h

pub entry_is : (phase step : ℕ) → phase < 10 → step < 10 → entry phase step ≡ get_or table (phase * 10 + step) false
entry_is phase step p s =
    let row : (phase * 10 + step) / 10 ≡ phase = omega arith in
    let column : (phase * 10 + step) % 10 ≡ step = omega arith in
    rw (row, column) at (at_entry (phase * 10 + step) (omega arith))
