-- Demand 1 of lent lists and of the rules of tables; what it says is in `specs/Answers.antt`. Assumes nothing.
use Prim.Native.Nat.{ℕ, ◌-◌, ◌≤◌, ◌<◌}
use mathlib.Core.Path.{◌≡◌, refl, ap, ◌∙◌}
use mathlib.Core.Bool.{Bool, true, false, false≢true}
use mathlib.Core.List.{List}
use mathlib.Core.Logic.{inl, inr, ◌⊎◌, ⊎_elim}
use borrow.Author.Tests.{eqb-true, eq-eqb, ltb-true, lt-ltb, le-leb, lt-leb}
use lib.ListN.{length, get_or, length-set, get_or-eq_default}
use lib.Seq.{get_or_at, set_out, get_or-set_same, get_or-set_other}
use lib.Dec.{eqb, ltb}
use Rattle.tables.specs.Tables.{may_be, or_else, and_also, right_at, most_locations}
use Rattle.tables.specs.Below.{Tells}
use Rattle.tables.specs.Tests.{strays, first_stray}
use Rattle.tables.specs.Way.{way_of, if_room, way_told_in, way_written_in}
use Rattle.tables.proofs.Laws.{clash, least_at}
use Rattle.tables.proofs.Answers.{in_range_tells, rule_6, rule_7, rule_8, rule_9, rule_10, lawful_tells}
use Rattle.tables.proofs.WayOut.{way_at_most}
use Rattle.table_answers.specs.Answers.{PutTells, ReadTells, TablesAnswers, WayTells, RulesAnswers}

-- ---- lent lists

pub read_there : {A : Type 0} (nothing : A) (list : List A) (at : ℕ) → ReadTells nothing list at (get_or list at nothing)
read_there {A} nothing list at =
    record {
      there = λ before x after is long. ap (λ (l : List A). get_or l at nothing) is ∙ get_or_at before x after nothing at long;
      past = λ h. get_or-eq_default list nothing h;
    }

put_there : (list : List ℕ) (at n : ℕ) → PutTells list at n
put_there list at n =
    record {
      as_long = length-set list at n;
      there = get_or-set_same list at n 0;
      others = λ i other. get_or-set_other list at i n 0 other;
      past = λ h. set_out list at n h;
    }

pub of_tables : TablesAnswers
of_tables = record { byte_at = read_there 0; word_at = read_there 0; flag_at = read_there false; put_byte = put_there; put_word = put_there }

-- ---- the rules of tables

-- a way is told and written where the list has room for it, and else neither
way_tells : (way list : List ℕ) → length way ≤ most_locations - 1 → WayTells way list
unfolding way_told_in way_written_in if_room
way_tells way list most =
    record {
      short = λ h. let e = lt-leb (length way) (length list) h in (rw e, rw e);
      room = λ h. let e = le-leb (length way) (length list) h in (rw e, rw e);
      most = most;
    }

may_be_tells : (right : List Bool) (p l : ℕ) → Tells (may_be right p l) ((l ≡ 0) ⊎ ((l < most_locations) × (right_at right p l ≡ true)))
unfolding may_be or_else and_also
may_be_tells right p l = go (eqb l 0) refl (ltb l most_locations) refl
  where
    go : (a : Bool) → eqb l 0 ≡ a → (b : Bool) → ltb l most_locations ≡ b
        → Tells (or_else a (and_also b (right_at right p l))) ((l ≡ 0) ⊎ ((l < most_locations) × (right_at right p l ≡ true)))
    go true a b _ = record { yes = λ _. inl (eqb-true l 0 a); back = λ _. refl }
    go false a true b =
        record { yes = λ e. inr (ltb-true l most_locations b, e); back = ⊎_elim (λ is. clash (eq-eqb l 0 is) a) (λ has. has.1) }
    go false a false b =
        record {
          yes = λ e. absurd (false≢true e);
          back = ⊎_elim (λ is. clash (eq-eqb l 0 is) a) (λ has. clash (lt-ltb l most_locations has.0) b);
        }

pub of_rules : RulesAnswers
unfolding first_stray
of_rules =
    record {
      may_be_lem = may_be_tells;
      in_range = in_range_tells;
      first_no_exit_lem = rule_6;
      first_stray_lem = λ locations exit. ((λ l e. (least_at (strays locations exit) locations l e).0), rule_7 locations exit);
      first_no_door_lem = rule_8;
      first_no_right_lem = rule_9;
      first_shut_out_lem = rule_10;
      lawful = lawful_tells;
      way_by_exits = λ locations exit from list. way_tells (way_of locations exit from) list (way_at_most locations exit from);
    }
