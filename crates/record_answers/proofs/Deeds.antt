-- Demand 1 of a step that is judged on lent lists and carried out on them, and that each has one answer. Assumes nothing.
use Prim.Native.Nat.{ℕ, ◌≤◌, ◌<◌}
use mathlib.Core.Path.{◌≡◌, refl, sym, ◌∙◌}
use mathlib.Core.Bool.{Bool, true, false, not}
use mathlib.Core.List.{List, []}
use mathlib.Core.Logic.{inl, inr}
use native.Mathlib.Omega.{arith}
use borrow.Author.Tests.{ltb-true, ltb-false, lt-ltb}
use lib.ListN.{get_or, length-set}
use lib.Seq.{get_or-set_same, get_or-set_other}
use lib.Dec.{ltb}
use Rattle.numbers.specs.Numbers.{no_such_no, not_allowed_no, unsound_no}
use Rattle.tables.specs.Tables.{Plan, or_else, most_people}
use Rattle.tables.specs.Below.{Tells}
use Rattle.tables.proofs.Laws.{clash, and_left, and_right, and_both}
use Rattle.tables.proofs.Cases.{either}
use Rattle.phases.specs.declared.table.Kind.{Kind}
use Rattle.phases.specs.declared.answer.Answer.TheVariants.{Done}
use Rattle.phases.specs.Answers.{answer_no}
use Rattle.phases.specs.Kinds.{names_person}
use Rattle.phases.specs.Table.{asked}
use Rattle.door.specs.declared.Door.{Door}
use Rattle.door_does.specs.declared.Does.{Does}
use Rattle.door_does.specs.declared.Does.TheVariants.{Stays, Turns, Moves}
use Rattle.door.specs.Door.{door_in}
use Rattle.door_does.specs.Does.{effect}
use Rattle.granting.specs.Reasons.{first_reason}
use Rattle.deeds.specs.declared.Deed.{Deed}
use Rattle.deeds.specs.declared.Deed.TheVariants.{Tells as Told-so, Puts, Leads}
use Rattle.deeds.specs.Deeds.{exist_among, deed_of, judged_of, told_of, phases_after, holders_after, counts_after}
use Rattle.record.specs.Doors.{record_of}
use Rattle.record.proofs.Deeds.{judged_step}
use Rattle.record.proofs.Laws.{sound_steps}
use Rattle.numbers.specs.Telling.{NumberBy, done, ◌unless◌then◌}
use Rattle.numbers.proofs.Alone.{beside_four}
use Rattle.record_answers.specs.Deeds.{JudgeTells, DoorPut, CarryTells, DeedsAnswers, DeedsUnique}

exist_tells : (people doors : ℕ) (k : Kind) (d p : ℕ) → Tells (exist_among people doors k d p) ((d < doors) × (names_person k ≡ true → p < people))
unfolding exist_among or_else
exist_tells people doors k d p =
    record {
      yes = λ e. (ltb-true d doors (and_left _ _ e), λ named. ltb-true p people (rw named at (and_right (ltb d doors) _ e)));
      back = λ x. and_both _ _ (lt-ltb d doors x.0) (person (names_person k) x.1);
    }
  where
    person : (b : Bool) → (b ≡ true → p < people) → or_else (not b) (ltb p people) ≡ true
    person true h = lt-ltb p people (h refl)
    person false h = refl

-- a step that may be done tells 0
done_told : (x : Does) (current p to n : ℕ) (phase holder : List ℕ) → (told_of (deed_of x current p to n phase holder)).answer ≡ Done
done_told Stays current p to n phase holder = refl
done_told (Turns c why) current p to n phase holder = refl
done_told (Moves c) current p to n phase holder = refl

-- the number of a deed is that of the first fact that fails
abbrev Numbered : Plan → List ℕ → Kind → ℕ → ℕ → Deed → Type 0
Numbered site phase k d p deed =
    NumberBy
    (unsound_no unless site.people ≤ most_people
    then no_such_no unless (d < site.doors) × (names_person k ≡ true → p < site.people)
    then not_allowed_no unless asked k (get_or phase d 0) ≡ true
    then done)
    (answer_no (told_of deed).answer)

judge_tells : (site : Plan) (right : List Bool) (place phase holder count : List ℕ) (k : Kind) (d p : ℕ) → JudgeTells site right place phase holder count k d p
unfolding judged_of
judge_tells site right place phase holder count k d p =
    record {
      number =
          either (Numbered site phase k d p) (ltb most_people site.people) (λ many. let m : most_people < site.people = ltb-true most_people site.people many in inl ((λ h. omega (arith, m)), refl))
          (λ few.
          let room = ltb-false most_people site.people few in
          either (Numbered site phase k d p) (exist_among site.people site.doors k d p)
          (λ e.
          let x = (exist_tells site.people site.doors k d p).yes e in
          either (Numbered site phase k d p) (asked k (get_or phase d 0))
          (λ may. inr (room, inr (x, inr (may, rw (done_told (effect k p (first_reason site right place phase holder d (get_or holder d 0)) (door_in phase holder count d)) (get_or phase d 0) (get_or holder d 0) (get_or site.destination d 0) site.doors phase holder)))))
          (λ barred. inr (room, inr (x, inl ((λ may. clash may barred), refl)))))
          (λ e. inr (room, inl ((λ x. clash ((exist_tells site.people site.doors k d p).back x) e), refl))));
      is_step_lem =
          λ sh long s.
          let r = record_of site right place phase holder count in judged_step r k d p long s ∙ sym (sound_steps r k d p sh s);
    }

-- a door that is put leaves the others as they were
put_others : (d : ℕ) (phase holder count : List ℕ) (c : Door) (e : ℕ) → (e ≡ d → ⊥)
    → door_in (phases_after (Puts c 0 0) d phase) (holders_after (Puts c 0 0) d holder) (counts_after (Puts c 0 0) d count) e ≡ door_in phase holder count e
put_others d phase holder count c e ne =
    rw (get_or-set_other phase d e c.phase 0 ne, get_or-set_other holder d e c.holder 0 ne, get_or-set_other count d e c.count 0 ne)

-- and is put itself, where the lists have it
put_own : (d : ℕ) (phase holder count : List ℕ) (c : Door) (why held : ℕ) → DoorPut (Puts c why held) d phase holder count c why held
put_own d phase holder count c why held =
    record {
      own_phase = get_or-set_same phase d c.phase 0;
      own_holder = get_or-set_same holder d c.holder 0;
      own_count = get_or-set_same count d c.count 0;
      told_done = refl;
      told_phase = refl;
      told_reason = refl;
      told_held = refl;
    }

carry_tells : (deed : Deed) (d : ℕ) (place phase holder count : List ℕ) → CarryTells deed d place phase holder count
carry_tells (Told-so answer so) d place phase holder count =
    record { unaltered = λ _. (refl, refl, refl, refl); others = λ e ne. refl; carried_out = (refl, refl, refl, refl, refl); as_long = (refl, refl, refl, refl) }
carry_tells (Puts c why held) d place phase holder count =
    record {
      unaltered = λ no_way. absurd (no_way refl);
      others = put_others d phase holder count c;
      carried_out = (put_own d phase holder count c why held, refl);
      as_long = (refl, length-set phase d c.phase, length-set holder d c.holder, length-set count d c.count);
    }
carry_tells (Leads c p l) d place phase holder count =
    let own = put_own d phase holder count c 0 0 in
    record {
      unaltered = λ no_way. absurd (no_way refl);
      others = put_others d phase holder count c;
      carried_out = (
        record { own_phase = own.own_phase; own_holder = own.own_holder; own_count = own.own_count; told_done = refl; told_phase = refl; told_reason = refl; told_held = refl },
        get_or-set_same place p l 0,
        λ q other. get_or-set_other place p q l 0 other,
      );
      as_long = (length-set place p l, length-set phase d c.phase, length-set holder d c.holder, length-set count d c.count);
    }

pub of_deeds : DeedsAnswers
of_deeds = record { judge = judge_tells; carry_out = carry_tells }

pub deeds_unique : DeedsUnique
deeds_unique =
    record {
      judge = λ people doors origin destination right place phase holder count k d p x y a b. a 0 [] ∙ sym (b 0 []);
      carry_out = λ deed d place phase holder count. beside_four;
    }
