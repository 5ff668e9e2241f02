-- What the code computes to tell whether a door's fields fit its phase (01, "The record", the table of phases).
use Rattle.std.specs.Prelude.{ℕ, Bool, cond, eqb, ltb, leb}
use Rattle.tables.specs.Tables.{and_also}
use Rattle.door.specs.declared.Door.{Door}
use Rattle.phases.specs.Phase.{closed, free, keeps, least_count, most_count}

-- a phase that keeps a person has one who exists, and every other phase has 0
unfoldable pub holder_fits : ℕ → ℕ → ℕ → Bool
holder_fits people phase holder = cond (keeps phase) (ltb holder people) (eqb holder 0)

-- a countdown lies between the bounds of its phase
abbrev pub count_fits : ℕ → ℕ → Bool
count_fits phase count = and_also (leb (least_count phase) count) (leb count (most_count phase))

-- a door's fields fit its phase
unfoldable pub fields_fit : ℕ → Door → Bool
fields_fit people c =
    and_also (leb c.phase closed)
    (and_also (holder_fits people c.phase c.holder) (count_fits c.phase c.count))

-- a door is free
unfoldable pub is_free : Door → Bool
is_free c = and_also (eqb c.phase free) (and_also (eqb c.holder 0) (eqb c.count 0))
