-- Text written into a list: texts written one behind the other are one text. `Pending` says what is still to be written; it begins
-- with the whole text, each part that is written is taken off its front, and it ends with nothing. Assumes nothing.
use Prim.Native.Nat.{ℕ, zero, suc, ◌+◌, ◌≤◌}
use mathlib.Core.Path.{◌≡◌, refl, sym, ap, subst, ◌∙◌}
use mathlib.Core.Bool.{Bool, true, false}
use mathlib.Core.List.{List, [], ◌∷◌, ◌++◌}
use native.Mathlib.Omega.{arith}
use native.Mathlib.Nat.{add-zero}
use lib.Dec.{leb}
use borrow.Author.Tests.{leb-true, leb-false}
use lib.ListN.{length, set, length-append}
use lib.Seq.{sets, length-sets}
use Rattle.text.specs.Wrote.{last_place, behind, Wrote}

-- ---- places

behind_none : (at : ℕ) → at ≤ last_place → behind at 0 ≡ at
unfolding behind
behind_none at h = omega arith

place_there : (at n : ℕ) → behind at n ≤ last_place
unfolding behind
place_there at n = omega arith

behind_both : (at n m : ℕ) → behind (behind at n) m ≡ behind at (n + m)
unfolding behind
behind_both at n m = omega arith

-- ---- what lies past the end is left out

pub set_past : (l : List ℕ) (i : ℕ) (b : ℕ) → length l ≤ i → set l i b ≡ l
set_past [] i b h = refl
set_past (x ∷ l) zero b h = absurd (omega arith)
set_past (x ∷ l) (suc i) b h = ap (λ (r : List ℕ). x ∷ r) (set_past l i b (omega arith))

pub sets_past : (l : List ℕ) (i : ℕ) (text : List ℕ) → length l ≤ i → sets l i text ≡ l
sets_past l i [] h = refl
sets_past l i (b ∷ text) h = rw (set_past l i b h) (sets_past l (suc i) text (omega arith))

sets_append : (l : List ℕ) (at : ℕ) (xs ys : List ℕ) → sets l at (xs ++ ys) ≡ sets (sets l at xs) (at + length xs) ys
sets_append l at [] ys = rw (add-zero at)
sets_append l at (x ∷ xs) ys =
    let e : suc at + length xs ≡ at + suc (length xs) = omega arith in
    sets_append (set l at x) (suc at) xs ys ∙ ap (λ (k : ℕ). sets (sets (set l at x) (suc at) xs) k ys) e

-- a list ends before the last place, so that a text behind it and one behind the last place are both left out
sets_behind : (l : List ℕ) (at n : ℕ) (ys : List ℕ) → length l ≤ last_place → sets l (behind at n) ys ≡ sets l (at + n) ys
unfolding behind
sets_behind l at n ys h = go (leb (at + n) last_place) refl
  where
    go : (q : Bool) → leb (at + n) last_place ≡ q → sets l (behind at n) ys ≡ sets l (at + n) ys
    go true q = let k = leb-true (at + n) last_place q in let e : behind at n ≡ at + n = omega arith in ap (λ (i : ℕ). sets l i ys) e
    go false q = let k = leb-false (at + n) last_place q in sets_past l (behind at n) ys (omega arith) ∙ sym (sets_past l (at + n) ys (omega arith))

-- ---- the same text, said otherwise

pub said : {before : List ℕ} {at : ℕ} {x y after : List ℕ} {next : ℕ} → x ≡ y → Wrote before at x after next → Wrote before at y after next
said {before} {at} {x} {y} {after} {next} e w = subst (λ (t : List ℕ). Wrote before at t after next) e w

-- ---- a text is written in part: `rest` is still to be written, from `next` on

pub record Pending (before : List ℕ) (at : ℕ) (all out : List ℕ) (next : ℕ) (rest : List ℕ) : Type 0 where
  pub fits : length before ≤ last_place
  pub there : next ≤ last_place
  pub long : length out ≡ length before
  pub place : behind next (length rest) ≡ behind at (length all)
  pub list : sets out next rest ≡ sets before at all

-- nothing is written yet
pub begun : {before : List ℕ} {at : ℕ} {all : List ℕ} → length before ≤ last_place → at ≤ last_place → Pending before at all before at all
begun h t = record { fits = h; there = t; long = refl; place = refl; list = refl }

module _ {before : List ℕ} {at : ℕ} {all out : List ℕ} {next : ℕ} {rest : List ℕ} (p : Pending before at all out next rest) where
  -- a part of the rest is written
  pub more : {x y after : List ℕ} {seam : ℕ} → rest ≡ x ++ y → Wrote out next x after seam → Pending before at all after seam y
  more {x} {y} {after} {seam} e w =
      let l : length rest ≡ length x + length y = ap length e ∙ length-append x y in
      let same : length (sets out next x) ≡ length out = length-sets out next x in
      let long = p.long in
      let fits = p.fits in
      record {
        fits = p.fits;
        there = rw w.place (place_there next (length x));
        long = rw w.list same ∙ p.long;
        place = rw (w.place, behind_both next (length x) (length y), ← l) p.place;
        list =
            rw (w.list, w.place) (sets_behind (sets out next x) next (length x) y (omega arith)) ∙ sym (sets_append out next x y)
            ∙ rw e at p.list;
      }

  -- the rest is written
  pub last : {after : List ℕ} {end : ℕ} → Wrote out next rest after end → Wrote before at all after end
  last w = record { place = w.place ∙ p.place; list = w.list ∙ p.list }

  -- nothing is left
  pub ended : rest ≡ [] → Wrote before at all out next
  ended e = record { place = sym (behind_none next p.there) ∙ rw e at p.place; list = rw e at p.list }
