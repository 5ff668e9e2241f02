-- The texts of specs/Examples.antt, computed. Assumes nothing.
use mathlib.Core.Path.{refl}
use Rattle.text.specs.Text.{digits, decimal, row_of_numbers}
use Rattle.text.specs.Wrote.{behind}
use Rattle.text.specs.Printed.{fits_in, printed_of, written}
use Rattle.text.specs.Examples.{TextExamples}

pub text_examples : TextExamples
unfolding digits decimal row_of_numbers behind fits_in printed_of written
text_examples =
    record {
      numbers_written = (refl, refl, refl, refl);
      rows_written = (refl, refl);
      places = (refl, refl);
      in_a_longer = (refl, refl);
      in_its_own = (refl, refl);
      in_a_shorter = (refl, refl);
      numbers = (refl, refl);
    }
