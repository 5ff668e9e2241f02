-- Demand 1 of phases and of one door; what it says is in `specs/Answers.antt`. Assumes nothing.
use Prim.Native.Nat.{ℕ, ◌+◌, ◌-◌, ◌≤◌, ◌<◌}
use mathlib.Core.Path.{◌≡◌, refl, sym, ap}
use mathlib.Core.Bool.{false, cond, false≢true}
use mathlib.Core.List.{[], ◌∷◌}
use mathlib.Core.Logic.{◌⊎◌, inl, inr, ⊎_elim}
use native.Mathlib.Omega.{arith}
use borrow.Author.Tests.{ne_eqb, eqb-true, eqb-false, ltb-true, ltb-false}
use lib.Dec.{eqb, ltb}
use Rattle.tables.specs.Tables.{or_else, and_also}
use Rattle.tables.specs.Below.{Tells}
use Rattle.tables.proofs.Laws.{tell_and, tell_le, tell_as}
use Rattle.door.specs.declared.Door.{Door}
use Rattle.phases.specs.declared.table.Kind.{Kind}
use Rattle.phases.specs.declared.table.Kind.TheVariants.{Card, Decide, Green, Red, Walk, Tick, Passed, Lapsed, Dark, Ack, Unknown}
use Rattle.phases.specs.declared.answer.Answer.{Answer}
use Rattle.phases.specs.declared.answer.Answer.TheVariants.{Done, NoSuch, NotAllowed, TooShort, Unsound}
use Rattle.phases.specs.Phase.{read, granted, green, walked, expired, denied, red, dimmed, closed, green_span, red_span, keeps, grants, lit, least_count, most_count}
use Rattle.door.specs.Door.{door, free_door}
use Rattle.door_fits.specs.Fits.{fields_fit}
use Rattle.door_does.specs.declared.Does.TheVariants.{Stays, Turns, Moves}
use Rattle.phases.specs.Answers.{answer_no}
use Rattle.phases.specs.Kinds.{kind_of, number_of_kind}
use Rattle.door_does.specs.Does.{burns, effect}
use Rattle.phases.proofs.Entries.{table_allows}
use Rattle.phases.proofs.Steps.{kind_back}
use Rattle.tables.proofs.Cases.{either}
use Rattle.numbers.specs.Telling.{OneOf}
use Rattle.door_fits.proofs.Fields.{tell_fields}
use Rattle.table_answers.specs.Answers.{none, Idles, of_step, phase_then, holder_then, count_then, DoorTurned, DoesTells, DoorFits, DoorAnswers}
use Rattle.table_answers.proofs.Tables.{read_there}

a_number : (a : Answer) → OneOf (0 ∷ 11 ∷ 12 ∷ 13 ∷ 14 ∷ []) (answer_no a)
a_number Done = inl refl
a_number NoSuch = inr (inl refl)
a_number NotAllowed = inr (inr (inl refl))
a_number TooShort = inr (inr (inr (inl refl)))
a_number Unsound = inr (inr (inr (inr (inl refl))))

no_step : (n : ℕ) → 10 ≤ n → kind_of n ≡ Unknown
unfolding kind_of
no_step n h =
    let other : (k : ℕ) → k < 10 → eqb n k ≡ false = λ k low. ne_eqb n k (λ e. omega arith) in
    rw (other 0 (omega arith), other 1 (omega arith), other 2 (omega arith), other 3 (omega arith), other 4 (omega arith), other 5 (omega arith), other 6 (omega arith), other 7 (omega arith), other 8 (omega arith), other 9 (omega arith))

-- and a number before that names one: where it isn't the next, it is past it
another : (n k : ℕ) (named : Kind) {rest : Kind} → (number_of_kind named ≡ number_of_kind Unknown → ⊥) → k ≤ n
    → (k + 1 ≤ n → rest ≡ Unknown → number_of_kind Unknown ≤ n) → cond (eqb n k) named rest ≡ Unknown → number_of_kind Unknown ≤ n
another n k named other low on =
    either (λ (x : Kind). x ≡ Unknown → number_of_kind Unknown ≤ n) (eqb n k) (λ _ e. absurd (other (ap number_of_kind e)))
    (λ no. let is_not = eqb-false n k no in on (omega arith))

some_step : (n : ℕ) → kind_of n ≡ Unknown → number_of_kind Unknown ≤ n
unfolding kind_of
some_step n =
    another n 0 Card (λ z. omega arith) (omega arith)
    (λ low. another n 1 Decide (λ z. omega arith) low
    (λ low. another n 2 Green (λ z. omega arith) low
    (λ low. another n 3 Red (λ z. omega arith) low
    (λ low. another n 4 Walk (λ z. omega arith) low
    (λ low. another n 5 Tick (λ z. omega arith) low
    (λ low. another n 6 Passed (λ z. omega arith) low
    (λ low. another n 7 Lapsed (λ z. omega arith) low
    (λ low. another n 8 Dark (λ z. omega arith) low
    (λ low. another n 9 Ack (λ z. omega arith) low
    (λ high _. high))))))))))

-- two kinds of different numbers
apart : {X : Type 0} {a b : Kind} → (number_of_kind a ≡ number_of_kind b → ⊥) → a ≡ b → X
apart other e = absurd (other (ap number_of_kind e))

-- a step does one of the three
module _ (k : Kind) (p why : ℕ) (c : Door) where
  idle_told : Idles k c → (number_of_kind k ≡ number_of_kind Passed → ⊥) → DoesTells k p why c Stays
  idle_told is other =
      record {
        stays = ((λ _. is), λ _. refl);
        moves = λ x. ((λ e. let z : ◌≡◌ {A = ℕ} 0 1 = cc in absurd (omega arith)), λ w. apart other w.0);
        turns = λ x told e. let z : ◌≡◌ {A = ℕ} 0 1 = cc in absurd (omega arith);
      }

  turn_told : (x : Door) (told : ℕ) → (number_of_kind k ≡ number_of_kind Passed → ⊥) → (Idles k c → ⊥) → DoorTurned k p why c x told
      → DoesTells k p why c (Turns x told)
  turn_told x told other busy turned =
      record {
        stays = ((λ e. let z : ◌≡◌ {A = ℕ} 0 1 = cc in absurd (omega arith)), λ is. absurd (busy is));
        moves = λ y. ((λ e. let z : ◌≡◌ {A = ℕ} 0 1 = cc in absurd (omega arith)), λ w. apart other w.0);
        turns = λ y so e. let to : x ≡ y = cc in let tells : told ≡ so = cc in rw (← to, ← tells) turned;
      }

  -- a step other than a tick that tells no reason
  plain_told : (x : Door) → (number_of_kind k ≡ number_of_kind Passed → ⊥) → (number_of_kind k ≡ number_of_kind Tick → ⊥)
      → (number_of_kind k ≡ number_of_kind Unknown → ⊥) → 0 ≡ of_step k (0 ∷ why ∷ []) → x.phase ≡ phase_then k → x.holder ≡ holder_then k p c → x.count ≡ count_then k c
      → x.phase ≤ closed → DoesTells k p why c (Turns x 0)
  plain_told x not_passed not_tick not_unknown reason phase holder count known =
      turn_told x 0 not_passed (⊎_elim (λ w. apart not_tick w.0) (apart not_unknown))
      (record {
        the_reason = reason;
        denies = λ some. absurd (some refl);
        the_phase = λ _ _. phase;
        the_holder = λ _. holder;
        the_count = count;
        burns_on = apart not_tick;
        goes_out = apart not_tick;
        of_the_ten = λ _. known;
        a_reason = λ _. none;
      })

-- a tick at a door whose light burns
module _ (p why : ℕ) (c : Door) (out : ℕ) (lit : ((c.phase ≡ green) × (out ≡ expired)) ⊎ ((c.phase ≡ red) × (out ≡ dimmed))) where
  burning : Idles Tick c → ⊥
  burning = ⊎_elim (λ w. ⊎_elim (λ g. w.1 g.0) (λ r. w.2 r.0) lit) (apart (λ z. omega arith))

  burn_told : DoesTells Tick p why c (burns c out)
  burn_told =
      either (DoesTells Tick p why c) (ltb 1 c.count)
      (λ more.
      let left = ltb-true 1 c.count more in
      turn_told Tick p why c (door c.phase c.holder (c.count - 1)) 0 (λ z. omega arith) burning
      (record {
        the_reason = refl;
        denies = λ some. absurd (some refl);
        the_phase = λ _ no_tick. absurd (no_tick refl);
        the_holder = λ _. refl;
        the_count = refl;
        burns_on = λ _ _. refl;
        goes_out = λ _ z. absurd (omega arith);
        of_the_ten = λ h. h;
        a_reason = λ _. none;
      }))
      (λ last.
      let left = ltb-false 1 c.count last in
      turn_told Tick p why c (door out c.holder 0) 0 (λ z. omega arith) burning
      (record {
        the_reason = refl;
        denies = λ some. absurd (some refl);
        the_phase = λ _ no_tick. absurd (no_tick refl);
        the_holder = λ _. refl;
        the_count = omega arith;
        burns_on = λ _ some. absurd (some refl);
        goes_out = λ _ _. lit;
        of_the_ten = λ _. ⊎_elim (λ g. let e = g.1 in omega arith) (λ r. let e = r.1 in omega arith) lit;
        a_reason = λ _. none;
      }))

pub effect_told : (k : Kind) (p why : ℕ) (c : Door) → DoesTells k p why c (effect k p why c)
unfolding effect
effect_told Card p why c =
    plain_told Card p why c (door read p 0) (λ z. omega arith) (λ z. omega arith) (λ z. omega arith) refl refl refl refl (omega arith)
effect_told Decide p why c =
    either (DoesTells Decide p why c) (eqb why 0)
    (λ none_told.
    plain_told Decide p why c (door granted c.holder 0) (λ z. omega arith) (λ z. omega arith) (λ z. omega arith) (sym (eqb-true why 0 none_told)) refl refl refl (omega arith))
    (λ some_told.
    let is_told = eqb-false why 0 some_told in
    turn_told Decide p why c (door denied 0 0) why (λ z. omega arith) (⊎_elim (λ w. apart (λ z. omega arith) w.0) (apart (λ z. omega arith)))
    (record {
      the_reason = refl;
      denies = λ _. refl;
      the_phase = λ z _. absurd (is_told z);
      the_holder = λ z. absurd (is_told z);
      the_count = refl;
      burns_on = apart (λ z. omega arith);
      goes_out = apart (λ z. omega arith);
      of_the_ten = λ _. omega arith;
      a_reason = λ w. w;
    }))
effect_told Green p why c =
    plain_told Green p why c (door green c.holder green_span) (λ z. omega arith) (λ z. omega arith) (λ z. omega arith) refl refl refl refl (omega arith)
effect_told Red p why c =
    plain_told Red p why c (door red c.holder red_span) (λ z. omega arith) (λ z. omega arith) (λ z. omega arith) refl refl refl refl (omega arith)
effect_told Walk p why c =
    plain_told Walk p why c (door walked c.holder 0) (λ z. omega arith) (λ z. omega arith) (λ z. omega arith) refl refl refl refl (omega arith)
effect_told Tick p why c =
    either (DoesTells Tick p why c) (eqb c.phase green) (λ is. burn_told p why c expired (inl (eqb-true c.phase green is, refl)))
    (λ no_green.
    either (DoesTells Tick p why c) (eqb c.phase red) (λ is. burn_told p why c dimmed (inr (eqb-true c.phase red is, refl)))
    (λ no_red. idle_told Tick p why c (inl (refl, eqb-false c.phase green no_green, eqb-false c.phase red no_red)) (λ z. omega arith)))
effect_told Passed p why c =
    record {
      stays = ((λ e. let z : ◌≡◌ {A = ℕ} 0 1 = cc in absurd (omega arith)), ⊎_elim (λ w. apart (λ z. omega arith) w.0) (apart (λ z. omega arith)));
      moves = λ x. ((λ e. (refl, cc)), λ w. ap Moves (sym w.1));
      turns = λ x told e. let z : ◌≡◌ {A = ℕ} 0 1 = cc in absurd (omega arith);
    }
effect_told Lapsed p why c =
    plain_told Lapsed p why c (door closed 0 0) (λ z. omega arith) (λ z. omega arith) (λ z. omega arith) refl refl refl refl (omega arith)
effect_told Dark p why c =
    plain_told Dark p why c (door closed c.holder 0) (λ z. omega arith) (λ z. omega arith) (λ z. omega arith) refl refl refl refl (omega arith)
effect_told Ack p why c =
    plain_told Ack p why c free_door (λ z. omega arith) (λ z. omega arith) (λ z. omega arith) refl refl refl refl (omega arith)
effect_told Unknown p why c = idle_told Unknown p why c (inr refl) (λ z. omega arith)

fits_tells : (people : ℕ) (c : Door) → Tells (fields_fit people c) (DoorFits people c)
fits_tells people c =
    tell_as (λ t. record { known = t.0; held = t.1.0.0; nobody = t.1.0.1; least = t.1.1.0; most = t.1.1.1 })
    (λ f. (f.known, ((f.held, f.nobody), (f.least, f.most)))) (tell_fields people c)

free_fits : (people : ℕ) → DoorFits people free_door
unfolding keeps least_count lit most_count and_also or_else
free_fits people = record { known = omega arith; held = λ e. absurd (false≢true e); nobody = λ _. refl; least = omega arith; most = omega arith }

pub of_door : DoorAnswers
unfolding grants
of_door =
    record {
      answer_number = a_number;
      kind_of_lem = λ n. (some_step n, no_step n);
      kind_number = kind_back;
      allowed_in = table_allows;
      grants = λ phase. tell_and (tell_le granted phase) (tell_le phase expired);
      new = λ phase holder count. (refl, refl, refl);
      among = λ phase holder count d. (read_there 0 phase d, read_there 0 holder d, read_there 0 count d);
      free = (refl, refl, refl, free_fits);
      fits = fits_tells;
      does = effect_told;
    }
