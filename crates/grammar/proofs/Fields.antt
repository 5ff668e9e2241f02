-- The field cutter and the grammar at one position of a sheet: where it reports a fault, that byte is the first.
-- Assumes nothing.
use Prim.Native.Nat.{ℕ, ◌+◌, ◌<◌}
use native.Mathlib.Omega.{arith}
use mathlib.Core.Path.{◌≡◌, refl, sym, ap, ◌∙◌}
use mathlib.Core.Logic.{◌↔◌}
use mathlib.Core.Bool.{Bool, true, false}
use mathlib.Core.List.{List, [], ◌∷◌, ◌++◌, append_assoc, append-nil}
use lib.ListN.{length, take, drop, length-append, drop_of_length-le, take-append-drop}
use lib.Seq.{length-take-le, take_at, drop_at}
use lib.Dec.{ltb}
use borrow.Author.Tests.{ltb-true, ltb-false}
use Rattle.grammar.specs.declared.cut.Mode.TheVariants.{Fresh}
use Rattle.grammar.specs.declared.cut.FieldCut.{FieldCut}
use Rattle.grammar.specs.declared.cut.FieldCut.TheVariants.{Next, Last, Fault}
use Rattle.grammar.specs.Grammar.{comma, cr, lf, Field, Written, field_text, FieldAt, before_comma, before_crlf, before_end}
use Rattle.grammar.specs.Cut.{empty_at, end_of, field_from, cut_field}
use Rattle.grammar.specs.Where.{cell_of}
use Rattle.grammar.specs.Meaning.{FirstFieldFault}
use Rattle.grammar.proofs.Written.{mode_after, field_run, field_steps, rest_after, field_comma, field_crlf, field_last}
use Rattle.grammar.proofs.Found.{in_fresh, with_crlf, with_sheet, FieldFound, field_found}
use Rattle.grammar.proofs.Faults.{HasField, Stuck, field_stuck, front_longer}

-- the field at the front of a text
record FieldFront (text : List ℕ) : Type 0 where
  field : Field
  is : FieldAt text field

front : {text : List ℕ} (cut : FieldCut) → HasField cut → FieldFound text cut → FieldFront text
front (Next cell next) h f = record { field = f.is.field; is = before_comma f.rest f.is.written f.is.text_is }
front (Last cell next) h (with_crlf rest f) = record { field = f.field; is = before_crlf rest f.written f.text_is }
front (Last cell next) h (with_sheet f) = record { field = f.field; is = before_end f.written (f.text_is ∙ append-nil (field_text f.field)) }
front (Fault byte) h f = absurd h

-- a text that begins with a field is no fault
module _ (i byte : ℕ) where
  runs : (f : Field) (t : List ℕ) {text : List ℕ} {cut : FieldCut} → Written f → text ≡ field_text f ++ t
      → field_from (mode_after f) (cell_of i f) (i + length (field_text f)) t ≡ cut → field_from Fresh (empty_at i) i text ≡ cut
  runs f t w e q = rw e (field_run field_steps f i t w ∙ q)

  no_fault : {text : List ℕ} {f : Field} → FieldAt text f → field_from Fresh (empty_at i) i text ≡ Fault byte → ⊥
  no_fault {f = f} (before_comma rest w e) q =
      let p = runs f (comma ∷ rest) w e (field_comma _ _ rest (rest_after f)) in let z : ◌≡◌ {A = ℕ} 0 1 = cc in omega arith
  no_fault {f = f} (before_crlf rest w e) q =
      let p = runs f (cr ∷ lf ∷ rest) w e (field_crlf _ _ rest (rest_after f)) in let z : ◌≡◌ {A = ℕ} 0 1 = cc in omega arith
  no_fault {f = f} (before_end w e) q =
      let p = runs f [] w (e ∙ sym (append-nil (field_text f))) (field_last _ _ (rest_after f)) in let z : ◌≡◌ {A = ℕ} 0 1 = cc in omega arith

module _ (s : List ℕ) (at byte : ℕ) (e : cut_field s at ≡ Fault byte) where
  fault_there : at < length s
  unfolding cut_field field_from end_of
  fault_there = go (ltb at (length s)) refl
    where
      go : (q : Bool) → ltb at (length s) ≡ q → at < length s
      go true q = ltb-true at (length s) q
      go false q = let h = drop_of_length-le s (ltb-false at (length s) q) in let p = rw h at e in let z : ◌≡◌ {A = ℕ} 0 1 = cc in absurd (omega arith)

  stuck : Stuck (λ (n : ℕ). HasField) Fault (field_from Fresh (empty_at at) at) (drop at s) at byte
  unfolding cut_field
  stuck = rw e at (field_stuck (drop at s) Fresh (empty_at at) at)

  long : length s ≡ at + (length stuck.before + length stuck.behind)
  long =
      let t = fault_there in
      let l : length (take at s) ≡ at = length-take-le at s (omega arith) in
      let m : length s ≡ length (take at s) + (length stuck.before + length stuck.behind) =
      ap length (sym (take-append-drop at s) ∙ ap (λ (x : List ℕ). take at s ++ x) stuck.split) ∙ simp length-append in
      omega arith

  -- the sheet up to n bytes, with another text behind it, from the field's first byte on
  up_to : (ahead behind other : List ℕ) → drop at s ≡ ahead ++ behind → (n : ℕ) → n ≡ at + length ahead → drop at (take n s ++ other) ≡ ahead ++ other
  up_to ahead behind other h n p =
      let t = fault_there in
      let l : length (take at s) ≡ at = length-take-le at s (omega arith) in
      let m : length (take at s ++ ahead) ≡ n = simp length-append (omega arith) in
      let q : s ≡ (take at s ++ ahead) ++ behind = sym (take-append-drop at s) ∙ ap (λ (x : List ℕ). take at s ++ x) h ∙ sym (append_assoc (take at s) ahead behind) in
      let k : take n s ≡ take at s ++ ahead = ap (take n) q ∙ take_at (take at s ++ ahead) behind n m in
      rw (k, append_assoc (take at s) ahead other) (drop_at (take at s) (ahead ++ other) at l)

  mended : FieldFront (stuck.before ++ stuck.mend)
  mended = front (field_from Fresh (empty_at at) at (stuck.before ++ stuck.mend)) stuck.mended (field_found (stuck.before ++ stuck.mend) Fresh (empty_at at) at in_fresh)

  no_more : (other : List ℕ) (f : Field) (behind : List ℕ) → stuck.behind ≡ behind → byte < length s → FieldAt (drop at (take (byte + 1) s ++ other)) f → ⊥
  no_more other f [] h n a =
      let z : length stuck.behind ≡ 0 = ap length h in
      let m = long in
      let p = stuck.place in
      omega arith
  no_more other f (c ∷ behind) h n a =
      let q : drop at s ≡ (stuck.before ++ (c ∷ [])) ++ behind = stuck.split ∙ rw h (sym (append_assoc stuck.before (c ∷ []) behind)) in
      let m : byte + 1 ≡ at + length (stuck.before ++ (c ∷ [])) = let p = stuck.place in simp length-append (omega arith) in
      let text_is : drop at (take (byte + 1) s ++ other) ≡ stuck.before ++ (c ∷ other) =
      up_to (stuck.before ++ (c ∷ [])) behind other q (byte + 1) m ∙ append_assoc stuck.before (c ∷ []) other in
      no_fault at byte (rw text_is at a) (stuck.hopeless c behind other h)

  field_fault : FirstFieldFault s at byte
  unfolding cut_field
  field_fault =
      let p = stuck.place in
      record {
        from = omega arith;
        within = let m = long in omega arith;
        mend = stuck.mend;
        field = mended.field;
        mended = rw (up_to stuck.before stuck.behind stuck.mend stuck.split byte p) mended.is;
        hopeless = λ other f n a. no_more other f stuck.behind refl n a;
        too_soon = λ f a. no_fault at byte a e;
      }

-- a fault has one byte
not_before : {s : List ℕ} {at a b : ℕ} → FirstFieldFault s at a → FirstFieldFault s at b → a < b → ⊥
not_before {s} {at} {a} {b} f g h = let w = g.within in f.hopeless _ g.field (omega arith) (rw (front_longer s a b g.mend h) at g.mended)

-- where the field cutter reports a fault it is the first, and it reports the first
pub field_fault_exact : (s : List ℕ) (at byte : ℕ) → (cut_field s at ≡ Fault byte) ↔ FirstFieldFault s at byte
unfolding cut_field
field_fault_exact s at byte = ((λ e. field_fault s at byte e), (λ f. go (cut_field s at) refl f (field_found (drop at s) Fresh (empty_at at) at in_fresh)))
  where
    go : (cut : FieldCut) → cut_field s at ≡ cut → FirstFieldFault s at byte → FieldFound (drop at s) cut → cut ≡ Fault byte
    go (Next cell next) e f h = let x = front (Next cell next) tt h in absurd (f.too_soon x.field x.is)
    go (Last cell next) e f h = let x = front (Last cell next) tt h in absurd (f.too_soon x.field x.is)
    go (Fault b) e f h = let g = field_fault s at b e in ap Fault (omega (arith, not_before f g, not_before g f))
