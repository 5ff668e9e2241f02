-- Answers of the functions over lists, tables, phases and one door are unique; what that says of each is in `specs/Unique.antt`. Assumes
-- nothing.
use mathlib.Core.Path.{sym, ◌∙◌}
use mathlib.Core.List.{[]}
use Rattle.numbers.proofs.Alone.{alone, beside}
use Rattle.table_answers.specs.Unique.{TablesUnique, RulesUnique, DoorUnique}

pub tables_unique : TablesUnique
tables_unique =
    record {
      byte_at = λ list at. alone;
      word_at = λ list at. alone;
      flag_at = λ list at. alone;
      put_byte = λ list at n. alone;
      put_word = λ list at n. alone;
    }

pub rules_unique : RulesUnique
rules_unique =
    record {
      may_be_lem = λ right p l. alone;
      in_range = λ most site. alone;
      first_no_exit_lem = λ locations given. alone;
      first_stray_lem = λ locations exit. alone;
      first_no_door_lem = λ locations doors origin destination exit x y a b. a 0 ∙ sym (b 0);
      first_no_right_lem = λ people locations exit right x y a b. a 0 [] [] ∙ sym (b 0 [] []);
      first_shut_out_lem = λ people doors origin destination right x y a b. a 0 [] ∙ sym (b 0 []);
      lawful = λ most site right. alone;
      way_by_exits = λ locations exit from list. beside;
    }

pub door_unique : DoorUnique
door_unique =
    record {
      answer_number = λ a. alone;
      kind_of_lem = λ n. alone;
      kind_number = λ k. alone;
      allowed_in = λ k phase. alone;
      grants = λ phase. alone;
      new = λ phase holder count. alone;
      among = λ phase holder count d. alone;
      free = alone;
      fits = λ people c. alone;
      does = λ k p why c. alone;
    }
