-- The record of an accepted site sheet is fresh, as demand 3 asks. Assumes nothing.
use Prim.Native.Nat.{ℕ}
use mathlib.Core.Path.{◌≡◌, refl, sym, subst}
use mathlib.Core.List.{List}
use Rattle.record.specs.declared.record.Record.{Record}
use Rattle.record.specs.Doors.{plan_of, fresh_record}
use Rattle.grammar.specs.Sizes.{limit}
use Rattle.verdict.specs.Verdict.{Accepted}
use Rattle.site_sheet.specs.Site.{site_of}
use Rattle.site_sheet.proofs.Theorems.{accepted_holds}
use Rattle.card_by_card.specs.Served.{Fresh}

-- the record of an accepted sheet is fresh
pub accepted_fresh : (s : List ℕ) → (site_of s).verdict ≡ Accepted → Fresh (site_of s).«record»
accepted_fresh s e =
    let a = accepted_holds limit s e in
    record {
      fresh =
          subst (λ (r : Record). r ≡ fresh_record (plan_of r) r.right)
          (sym a.fresh) refl;
      shaped = a.shaped;
      sound = a.sound;
    }
