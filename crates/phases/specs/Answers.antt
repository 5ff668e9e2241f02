-- How a step or a run ends, by the paper's numbers (01, "Numbers given back").
use Rattle.std.specs.Prelude.{ℕ}
use Rattle.numbers.specs.Numbers.{done_no, no_such_no, not_allowed_no, too_short_no, unsound_no}
use Rattle.phases.specs.declared.answer.Answer.{Answer}
use Rattle.phases.specs.declared.answer.Answer.TheVariants.{Done, NoSuch, NotAllowed, TooShort, Unsound}

abbrev pub answer_no : Answer → ℕ
-- "done"
answer_no Done = done_no
-- "no such door, person or location"
answer_no NoSuch = no_such_no
-- "this door's phase doesn't allow the step"
answer_no NotAllowed = not_allowed_no
-- "list lent .. is shorter"
answer_no TooShort = too_short_no
-- "unsound record"
answer_no Unsound = unsound_no

-- ---- why a card is denied: "reason 1 (not at the origin), 2 (no right), 3 (grant elsewhere)"; 0 is no reason

abbrev pub reason_none : ℕ
reason_none = 0

abbrev pub reason_away : ℕ
reason_away = 1

abbrev pub reason_barred : ℕ
reason_barred = 2

abbrev pub reason_busy : ℕ
reason_busy = 3
