-- The table allows a step exactly when the step's own rule does: one test of its hundred entries, and the law at each.
-- Assumes nothing.
use Prim.Native.Nat.{ℕ, ◌+◌, ◌*◌, ◌/◌, ◌%◌, ◌≤◌, ◌<◌}
use mathlib.Core.Path.{◌≡◌, refl, ◌∙◌}
use mathlib.Core.Bool.{Bool, true, false}
use native.Mathlib.Omega.{arith}
use borrow.Author.Tests.{lt-ltb}
use lib.ListN.{get_or}
use Rattle.std.proofs.lemmas.Bool.{agree_below, agree_below_at}
use Rattle.tables.specs.Tables.{and_also}
use Rattle.phases.specs.declared.table.Kind.{Kind}
use Rattle.phases.specs.declared.table.Kind.TheVariants.{Card, Decide, Green, Red, Walk, Tick, Passed, Lapsed, Dark, Ack, Unknown}
use Rattle.phases.specs.Phase.{closed}
use Rattle.phases.specs.Kinds.{kind_of, allows}
use Rattle.phases.specs.Table.{table, asked}

-- the entry at i, and what the rule of step i % 10 says of phase i / 10
by_table : ℕ → Bool
by_table i = get_or table i false

by_rule : ℕ → Bool
by_rule i = allows (kind_of (i % 10)) (i / 10)

-- the computed test
all_right : agree_below by_table by_rule 100 ≡ true
unfolding by_table by_rule table allows kind_of
all_right = refl

at_entry : (i : ℕ) → i < 100 → get_or table i false ≡ allows (kind_of (i % 10)) (i / 10)
unfolding by_table by_rule
at_entry i h = agree_below_at by_table by_rule 100 i all_right h

by_number : (k : Kind) (n ph : ℕ) → kind_of n ≡ k → n < 10 → ph ≤ closed → get_or table (ph * 10 + n) false ≡ allows k ph
by_number k n ph is small known =
    let row : (ph * 10 + n) / 10 ≡ ph = omega arith in
    let column : (ph * 10 + n) % 10 ≡ n = omega arith in
    at_entry (ph * 10 + n) (omega arith) ∙ rw (row, column, is)

pub table_allows : (k : Kind) (ph : ℕ) → ph ≤ closed → asked k ph ≡ allows k ph
unfolding asked kind_of and_also allows
table_allows Card ph h = rw (lt-ltb ph 10 (omega arith)) (by_number Card 0 ph refl (omega arith) h)
table_allows Decide ph h = rw (lt-ltb ph 10 (omega arith)) (by_number Decide 1 ph refl (omega arith) h)
table_allows Green ph h = rw (lt-ltb ph 10 (omega arith)) (by_number Green 2 ph refl (omega arith) h)
table_allows Red ph h = rw (lt-ltb ph 10 (omega arith)) (by_number Red 3 ph refl (omega arith) h)
table_allows Walk ph h = rw (lt-ltb ph 10 (omega arith)) (by_number Walk 4 ph refl (omega arith) h)
table_allows Tick ph h = rw (lt-ltb ph 10 (omega arith)) (by_number Tick 5 ph refl (omega arith) h)
table_allows Passed ph h = rw (lt-ltb ph 10 (omega arith)) (by_number Passed 6 ph refl (omega arith) h)
table_allows Lapsed ph h = rw (lt-ltb ph 10 (omega arith)) (by_number Lapsed 7 ph refl (omega arith) h)
table_allows Dark ph h = rw (lt-ltb ph 10 (omega arith)) (by_number Dark 8 ph refl (omega arith) h)
table_allows Ack ph h = rw (lt-ltb ph 10 (omega arith)) (by_number Ack 9 ph refl (omega arith) h)
table_allows Unknown ph h = refl
