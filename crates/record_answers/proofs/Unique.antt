-- Answers of the functions over the record are unique; what that says of each is in `specs/Unique.antt`. Assumes nothing.
use mathlib.Core.Path.{sym, ◌∙◌, ◌≡◌}
use mathlib.Core.List.{[]}
use Rattle.numbers.proofs.Alone.{alone, beside, beside_four}
use Rattle.record_answers.specs.Unique.{SoundUnique, RecordUnique}

pub sound_unique : SoundUnique
sound_unique =
    record {
      grant_of_lem = λ n phase holder p. alone;
      first_reason_lem = λ doors origin destination right place phase holder d p x y a b. a 0 0 [] ∙ sym (b 0 0 []);
      held_with_lem = λ why n phase holder p. alone;
      sole_grants_lem = λ n phase holder. alone;
      lists_sound_lem = λ site right place phase holder count. alone;
    }

pub record_unique : RecordUnique
record_unique =
    record {
      fresh = λ site right. alone;
      is_sound = λ r. alone;
      moving = λ r x y a b. let e : x.place ≡ y.place = a.0 ∙ sym b.0 in let f : x.phase ≡ y.phase = a.1 ∙ sym b.1 in let g : x.holder ≡ y.holder = a.2 ∙ sym b.2 in let h : x.count ≡ y.count = a.3 ∙ sym b.3 in λ i. record { place = e i; phase = f i; holder = g i; count = h i };
      hold = λ r place phase holder count. alone;
      step_telling = λ r told. alone;
      step_told = λ s. alone;
      step = λ r k d p. alone;
      step_numbered = λ r n d p. alone;
      step_lent = λ r k d p. beside;
      lend = λ r k d p. alone;
      card = λ r d p. alone;
      decide = λ r d. alone;
      green = λ r d. alone;
      red = λ r d. alone;
      walk = λ r d. alone;
      tick = λ r d. alone;
      passed = λ r d. alone;
      lapsed = λ r d. alone;
      dark = λ r d. alone;
      ack = λ r d. alone;
      run = λ r steps doors persons answers phases reasons held. beside_four;
      place_of_lem = λ r p x y a b. a.0 ∙ sym b.0;
      granted_to_lem = λ r p x y a b. a.0 ∙ sym b.0;
      way_out_lem = λ r l list x y a b. beside x y (a.0, a.3) (b.0, b.3);
    }
