-- "Which step a phase allows is one fixed table, a hundred entries, ten phases by ten steps." (01, "Steps")
use Rattle.std.specs.Prelude.{ℕ, ◌+◌, ◌*◌, Bool, true, false, List, [], ◌∷◌, get_or, ltb}
use Rattle.tables.specs.Tables.{and_also}
use Rattle.phases.specs.declared.table.Kind.{Kind}
use Rattle.phases.specs.Kinds.{number_of_kind}

-- A row for each phase from 0 to 9, with an entry for each of
-- card, decide, green, red, walk, tick, passed, lapsed, dark, ack
unfoldable pub table : List Bool
table =
    true ∷ false ∷ false ∷ false ∷ false ∷ true ∷ false ∷ false ∷ false ∷ false ∷
    false ∷ true ∷ false ∷ false ∷ false ∷ true ∷ false ∷ false ∷ false ∷ false ∷
    false ∷ false ∷ true ∷ false ∷ false ∷ true ∷ false ∷ false ∷ false ∷ false ∷
    false ∷ false ∷ false ∷ false ∷ true ∷ true ∷ false ∷ false ∷ false ∷ false ∷
    false ∷ false ∷ false ∷ false ∷ false ∷ true ∷ true ∷ false ∷ false ∷ false ∷
    false ∷ false ∷ false ∷ false ∷ false ∷ true ∷ false ∷ true ∷ false ∷ false ∷
    false ∷ false ∷ false ∷ true ∷ false ∷ true ∷ false ∷ false ∷ false ∷ false ∷
    false ∷ false ∷ false ∷ false ∷ false ∷ true ∷ false ∷ false ∷ false ∷ false ∷
    false ∷ false ∷ false ∷ false ∷ false ∷ true ∷ false ∷ false ∷ true ∷ false ∷
    false ∷ false ∷ false ∷ false ∷ false ∷ true ∷ false ∷ false ∷ false ∷ true ∷
    []

-- what the table says of a step and a phase; of any other number it says no
unfoldable pub asked : Kind → ℕ → Bool
asked k phase = and_also (ltb (number_of_kind k) 10) (and_also (ltb phase 10) (get_or table (phase * 10 + number_of_kind k) false))
