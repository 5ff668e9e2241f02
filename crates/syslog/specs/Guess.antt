-- How the reader finds the event with whose line it compares. It never parses strictly: a guess is made of any bytes, and what decides
-- is the comparison. No public promise cites what stands here; the proofs and the private functions do.
use Rattle.std.specs.Prelude.{ℕ, zero, suc, ◌+◌, ◌-◌, ◌*◌, Bool, cond, List, [], ◌∷◌, eqb, ltb, leb}
use Rattle.tables.specs.Tables.{and_also}
use Rattle.syslog.specs.declared.Msgid.{Msgid}
use Rattle.syslog.specs.declared.Msgid.TheVariants.{Grant, Deny, Pass, Lapse}
use Rattle.syslog.specs.declared.LineEvent.{LineEvent}

-- the MSGID that begins with a letter: D, L, P, and else GRANT
unfoldable pub msgid_by : ℕ → Msgid
msgid_by b = cond (eqb b 68) Deny (cond (eqb b 76) Lapse (cond (eqb b 80) Pass Grant))

-- by the first letter of the text; `@`, 64, stands in front of the letters
unfoldable pub msgid_in : List ℕ → Msgid
msgid_in [] = Grant
msgid_in (b ∷ bs) = cond (ltb 64 b) (msgid_by b) (msgid_in bs)

-- what stands behind the first `=`
unfoldable pub behind_mark : List ℕ → List ℕ
behind_mark [] = []
behind_mark (b ∷ bs) = cond (eqb b 61) bs (behind_mark bs)

-- is a byte a digit?
unfoldable pub is_digit : ℕ → Bool
is_digit b = and_also (leb 48 b) (leb b 57)

-- the number at the front, by so many digits at most, behind those that were read
unfoldable pub number_on : ℕ → ℕ → List ℕ → ℕ
number_on zero n bs = n
number_on (suc more) n [] = n
number_on (suc more) n (b ∷ bs) = cond (is_digit b) (number_on more (n * 10 + (b - 48)) bs) n

-- a guess looks at four digits; no number of a line that fits, and no octet count, has more than two
abbrev pub number_from : List ℕ → ℕ
number_from bs = number_on 4 0 bs

-- the door behind the first `=`, the person behind the second, the reason behind the third, the held door behind the fourth; a number is 0
-- where there is no such mark
abbrev pub guess_of : List ℕ → LineEvent
guess_of text =
    record {
      msgid = msgid_in text;
      door = number_from (behind_mark text);
      person = number_from (behind_mark (behind_mark text));
      reason = number_from (behind_mark (behind_mark (behind_mark text)));
      held = number_from (behind_mark (behind_mark (behind_mark (behind_mark text))));
    }

-- a line has 10 to 99 bytes, so that its count has two digits, and a blank stands behind them
abbrev pub frame_size : List ℕ → ℕ
frame_size bs = number_from bs + 3
