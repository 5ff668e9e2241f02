-- Rows that are answered as they come: what is told of them, and that it is unique; what that says is in `specs/Rows.antt`. Assumes nothing.
use Prim.Native.Nat.{ℕ}
use mathlib.Core.Path.{◌≡◌, sym, ap, ◌∙◌}
use mathlib.Core.List.{List}
use lib.ListN.{length-set, length-replicate}
use lib.Seq.{get_or-set_same, get_or-set_other}
use Rattle.tables.specs.Tables.{most_doors}
use Rattle.tables.specs.Zero.{zeros}
use Rattle.tables.proofs.Zero.{zeros_at}
use Rattle.numbers.proofs.Alone.{alone}
use Rattle.phases.specs.Answers.{answer_no}
use Rattle.deeds.specs.declared.Told.{Told}
use Rattle.record.specs.declared.record.Record.{Record}
use Rattle.sheet_answers.proofs.Texts.{written_told}
use Rattle.attend.specs.declared.Attended.{Attended}
use Rattle.attend.specs.Attend.{Attends}
use Rattle.record_answers.proofs.Record.{step_tells}
use Rattle.attend.proofs.Theorems.{bad_row_stays, refused_row_stays, bad_row_printed, step_printed, row_fits_lem}
use Rattle.demands.specs.Rows.{AttendTells, LiveAnswers, LiveUnique}

row_tells : {r : Record} {row : List ℕ} {n : ℕ} {before : List ℕ} {attended : Attended} {next : Record} {after : List ℕ} → Attends r row n before attended next after
    → AttendTells r row n before attended next after
row_tells {r} {row} {n} a =
    record {
      printed_bad = λ e. bad_row_printed n row _ e;
      printed_step = λ k d p e. step_printed r n row k d p e;
      number = λ k d p e. step_tells r k d p;
      bad_form = λ e. a.next_is ∙ bad_row_stays r row e;
      refused = λ no. a.next_is ∙ refused_row_stays r row (λ e. no (ap (λ (t : Told). answer_no t.answer) a.told_is ∙ e));
      written = written_told a.wrote;
      short = λ sh h. row_fits_lem r sh n h row;
    }

pub of_live : LiveAnswers
unfolding zeros
of_live =
    record {
      attend = λ r row n before attended next after a. row_tells a;
      attend_once = λ r row n before turn after a. row_tells a;
      put_event = λ cards kind answer phase reason held door person list at cards' after next w put. (
        written_told w,
        rw put (length-set cards _ _),
        (λ there. rw put (get_or-set_same cards door _ 0 there)),
        (λ other apart. rw put (get_or-set_other cards door other _ 0 apart)),
      );
      no_cards = (length-replicate {A = ℕ} most_doors 0, zeros_at most_doors);
    }

-- two answers to one row are one
same_attended : {r : Record} {row : List ℕ} {n : ℕ} {before : List ℕ} {a b : Attended} {next other : Record} {after behind : List ℕ}
    → Attends r row n before a next after → Attends r row n before b other behind → a ≡ b
same_attended {a = a} {b} p q =
    let asked : a.asked ≡ b.asked = p.asked_is ∙ sym q.asked_is in
    let told : a.told ≡ b.told = p.told_is ∙ sym q.told_is in
    let size : a.length ≡ b.length = p.wrote.place ∙ sym q.wrote.place in
    λ i. record { asked = asked i; told = told i; length = size i }

pub live_unique : LiveUnique
live_unique =
    record {
      attend = λ r row n before x y p q.
          let attended = same_attended p q in
          let next = p.next_is ∙ sym q.next_is in
          let after = p.wrote.list ∙ sym q.wrote.list in
          λ i. (attended i, next i, after i);
      attend_once = λ r row n before x y p q.
          let attended = same_attended p q in
          let next = p.next_is ∙ sym q.next_is in
          let after = p.wrote.list ∙ sym q.wrote.list in
          λ i. (record { next = next i; attended = attended i }, after i);
      put_event = λ cards kind answer phase reason held door person list at x y p q.
          let place = p.0.place ∙ sym q.0.place in
          let after = p.0.list ∙ sym q.0.list in
          let cards' = p.1 ∙ sym q.1 in
          λ i. (place i, after i, cards' i);
      no_cards = alone;
    }
