-- The run that 01 prints ("Program and one whole run"): each step of the steps sheet with what the panel prints of it.
use Rattle.std.specs.Prelude.{ℕ, List, [], ◌∷◌}
use Rattle.phases.specs.declared.table.Kind.{Kind}
use Rattle.phases.specs.declared.table.Kind.TheVariants.{Card, Decide, Green, Red, Walk, Passed}
use Rattle.run_events.specs.Lines.{Line}

-- a step of the steps sheet, and what the panel prints of it
abbrev pub printed_line : Kind → ℕ → ℕ → ℕ → ℕ → ℕ → ℕ → Line
printed_line kind d person answer phase reason held =
    record { row = record { kind = kind; at = d; person = person }; reply = record { answer = answer; phase = phase; reason = reason; held = held } }

abbrev pub run_of01 : List Line
run_of01 =
    printed_line Card 0 0 0 1 0 0 ∷
    printed_line Decide 0 0 0 2 0 0 ∷
    printed_line Green 0 0 0 3 0 0 ∷
    printed_line Walk 0 0 0 4 0 0 ∷
    printed_line Card 1 0 0 1 0 0 ∷
    printed_line Decide 1 0 0 6 1 0 ∷
    printed_line Passed 0 0 0 9 0 0 ∷
    printed_line Red 1 0 0 7 0 0 ∷
    printed_line Decide 0 0 12 9 0 0 ∷
    printed_line Card 9 0 11 0 0 0 ∷
    []
