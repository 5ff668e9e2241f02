-- A DENY line with reason 3 has its held door behind the reason, and ` held=` stands nowhere else in a line. Assumes nothing.
use Prim.Native.Nat.{ℕ, ◌≤◌, ◌<◌}
use mathlib.Core.Path.{◌≡◌, refl, sym, ap, subst, ◌∙◌}
use mathlib.Core.Bool.{Bool, true, false, cond, false≢true}
use mathlib.Core.List.{List, [], ◌∷◌, ◌++◌, append_assoc, append-nil, append_cancel_left, append_cancel_right, head-eq_of_cons-eq, tail-eq_of_cons-eq}
use native.Mathlib.Omega.{arith}
use borrow.Author.Tests.{eqb-true, eqb-false, eq-eqb}
use lib.Dec.{eqb}
use lib.ListN.{length}
use Rattle.std.specs.Prelude.{Err}
use Rattle.text.specs.Text.{digits, decimal}
use Rattle.syslog.specs.declared.Msgid.{Msgid}
use Rattle.syslog.specs.declared.Msgid.TheVariants.{Grant, Deny, Pass, Lapse}
use Rattle.syslog.specs.declared.LineEvent.{LineEvent}
use Rattle.syslog.specs.Line.{person_mark, reason_mark, held_mark, held_reason, held_part, reason_part, line_of, head_of, tail_of, ReasonFits}
use Rattle.syslog.specs.Rfc.{EachByte, no_more, and}
use Rattle.syslog.specs.Guess.{msgid_in, behind_mark, number_from}
use Rattle.syslog.specs.Reading.{not_ours, ReadsLine}
use Rattle.syslog.specs.Claims.{without_held, held_text, EndsInHeld, HeldWithReason3}
use Rattle.syslog.proofs.Digits.{Stops, at_end, number_back, each_both, each_digit}
use Rattle.syslog.proofs.Lengths.{head_and_tail}
use Rattle.syslog.proofs.Guessing.{head_msgid, head_mark, both_passed, held_stops}
use Rattle.syslog.proofs.Message.{each_wider}

-- two texts that begin with a number and don't go on with a digit: the numbers are the same, and so is what follows
number_first : {n m : ℕ} {x y : List ℕ} → n < 10000 → m < 10000 → Stops x → Stops y → decimal n ++ x ≡ decimal m ++ y → (n ≡ m) × (x ≡ y)
number_first {n} {m} {x} {y} a b sx sy is =
    let same : n ≡ m = sym (number_back n a sx) ∙ ap number_from is ∙ number_back m b sy in
    (same, append_cancel_left (decimal n) x y (is ∙ ap (λ (k : ℕ). decimal k ++ y) (sym same)))

-- the beginnings of two texts, and what follows them
heads_same : (m k : Msgid) {x y : List ℕ} → head_of m ++ x ≡ head_of k ++ y → (m ≡ k) × (x ≡ y)
heads_same m k {x} {y} is = (sym (head_msgid m x) ∙ ap msgid_in is ∙ head_msgid k y, sym (head_mark m x) ∙ ap behind_mark is ∙ head_mark k y)

-- a line with a text behind it
line_more : (m : Msgid) (door person : ℕ) (end t : List ℕ)
    → (head_of m ++ (decimal door ++ (person_mark ++ (decimal person ++ end)))) ++ t ≡ head_of m ++ (decimal door ++ (person_mark ++ (decimal person ++ (end ++ t))))
line_more m door person end t =
    append_assoc (head_of m) (decimal door ++ (person_mark ++ (decimal person ++ end))) t
    ∙ ap (λ (x : List ℕ). head_of m ++ x) (append_assoc (decimal door) (person_mark ++ (decimal person ++ end)) t)
    ∙ ap (λ (x : List ℕ). head_of m ++ (decimal door ++ (person_mark ++ x))) (append_assoc (decimal person) end t)

-- ---- a denial with reason 3 that ends there

no_end : (reason held : ℕ) → reason ≤ held_reason → decimal held_reason ≡ decimal reason ++ held_part reason held → ⊥
no_end reason held few is =
    let both = number_first {n = held_reason} {x = []} (omega arith) (omega arith) at_end (held_stops reason held) (append-nil (decimal held_reason) ∙ is) in
    let part : [] ≡ held_mark ++ decimal held = both.1 ∙ rw (eq-eqb reason held_reason (sym both.0)) in
    let long = ap length part in
    omega arith

no_denial : (m : Msgid) (reason held : ℕ) → Deny ≡ m → ReasonFits m reason → decimal held_reason ≡ behind_mark (reason_part m reason held) → ⊥
unfolding behind_mark
no_denial m reason held is =
    subst (λ (k : Msgid). ReasonFits k reason → decimal held_reason ≡ behind_mark (reason_part k reason held) → ⊥) is (λ f e. no_end reason held f.1 e)

without_held_lem : (door person : ℕ) → ReadsLine (without_held door person) (Err not_ours)
unfolding behind_mark
without_held_lem door person e l =
    let is = l.is ∙ head_and_tail e in
    let third = ap (λ (t : List ℕ). behind_mark (behind_mark t)) (heads_same Deny e.msgid is).1 in
    no_denial e.msgid e.reason e.held (heads_same Deny e.msgid is).0 l.fits.reason
    (sym (both_passed door person (reason_mark ++ decimal held_reason)) ∙ third ∙ both_passed e.door e.person (reason_part e.msgid e.reason e.held))

-- ---- a denial with reason 3 and its door

held_ends : (door person held : ℕ) → line_of (record { msgid = Deny; door = door; person = person; reason = 3; held = held }) ≡ without_held door person ++ held_text held
held_ends door person held = head_and_tail _ ∙ sym (line_more Deny door person (reason_mark ++ decimal 3) (held_text held))

-- ---- where ` held=` stands

-- no byte is the `h` of ` held=`, 104
abbrev Plain : List ℕ → Type 0
Plain bs = EachByte (λ (b : ℕ). b ≡ 104 → ⊥) bs

without_h : List ℕ → Bool
without_h [] = true
without_h (b ∷ bs) = cond (eqb b 104) false (without_h bs)

plain : (bs : List ℕ) → without_h bs ≡ true → Plain bs
unfolding without_h
plain [] e = no_more
plain (b ∷ bs) e = go (eqb b 104) refl (plain bs) e
  where
    go : (t : Bool) → eqb b 104 ≡ t → (without_h bs ≡ true → Plain bs) → cond t false (without_h bs) ≡ true → Plain (b ∷ bs)
    go true is more none = absurd (false≢true none)
    go false is more none = and (eqb-false b 104 is) (more none)

plain_number : (n : ℕ) → Plain (decimal n)
plain_number n = each_wider (λ b d is. omega (arith, d.1)) (each_digit n)

plain_head : (m : Msgid) → Plain (head_of m)
unfolding decimal digits without_h
plain_head Grant = plain (head_of Grant) refl
plain_head Deny = plain (head_of Deny) refl
plain_head Pass = plain (head_of Pass) refl
plain_head Lapse = plain (head_of Lapse) refl

-- a line is plain up to its end
plain_line : (m : Msgid) (door person : ℕ) {end : List ℕ} → Plain end → Plain (head_of m ++ (decimal door ++ (person_mark ++ (decimal person ++ end))))
unfolding without_h
plain_line m door person end =
    each_both (plain_head m) (each_both (plain_number door) (each_both (plain person_mark refl) (each_both (plain_number person) end)))

plain_reason : (reason : ℕ) → Plain (reason_mark ++ decimal reason)
unfolding without_h
plain_reason reason = each_both (plain reason_mark refl) (plain_number reason)

-- a text with an `h` isn't plain, and one with a single `h` is cut there in one way
no_h : (front rest : List ℕ) → Plain (front ++ (104 ∷ rest)) → ⊥
no_h [] rest (and other on) = other refl
no_h (b ∷ front) rest (and other on) = no_h front rest on

one_h : (a b c d : List ℕ) → a ++ (104 ∷ b) ≡ c ++ (104 ∷ d) → Plain c → Plain d → (a ≡ c) × (b ≡ d)
one_h [] b [] d e f g = (refl, tail-eq_of_cons-eq e)
one_h [] b (y ∷ c) d e (and other on) g = absurd (other (sym (head-eq_of_cons-eq e)))
one_h (x ∷ a) b [] d e f g = absurd (no_h a b (subst Plain (sym (tail-eq_of_cons-eq e)) g))
one_h (x ∷ a) b (y ∷ c) d e (and other on) g =
    let both = one_h a b c d (tail-eq_of_cons-eq e) on g in
    let first = head-eq_of_cons-eq e in
    let rest = both.0 in
    ((λ i. first i ∷ rest i), both.1)

-- ` held=` is a blank, an `h` and `eld=`
abbrev behind_h : List ℕ → List ℕ
behind_h t = 101 ∷ 108 ∷ 100 ∷ 61 ∷ t

at_h : (front rest : List ℕ) → front ++ (held_mark ++ rest) ≡ (front ++ (32 ∷ [])) ++ (104 ∷ behind_h rest)
at_h front rest = sym (append_assoc front (32 ∷ []) (104 ∷ behind_h rest))

module _ (front rest : List ℕ) (e : LineEvent) (is : front ++ (held_mark ++ rest) ≡ line_of e) where
  line_here : (front ++ (32 ∷ [])) ++ (104 ∷ behind_h rest) ≡ head_of e.msgid ++ tail_of e
  line_here = sym (at_h front rest) ∙ is ∙ head_and_tail e

  -- the end of the line isn't plain
  not_plain : Plain (reason_part e.msgid e.reason e.held) → ⊥
  not_plain end = no_h (front ++ (32 ∷ [])) (behind_h rest) (subst Plain (sym line_here) (plain_line e.msgid e.door e.person end))

  -- so it is that of a denial with reason 3
  held_behind : e.msgid ≡ Deny → e.reason ≡ 3 → EndsInHeld front rest e
  unfolding without_h
  held_behind m r =
      let whole : line_of e ≡ without_held e.door e.person ++ held_text e.held =
      (λ i. line_of (record { msgid = m i; door = e.door; person = e.person; reason = r i; held = e.held })) ∙ held_ends e.door e.person e.held in
      let both =
      one_h (front ++ (32 ∷ [])) (behind_h rest) (without_held e.door e.person ++ (32 ∷ [])) (behind_h (decimal e.held)) (sym (at_h front rest) ∙ is ∙ whole ∙ at_h (without_held e.door e.person) (decimal e.held))
      (each_both (plain_line Deny e.door e.person (plain_reason 3)) (plain (32 ∷ []) refl)) (each_both (plain (behind_h []) refl) (plain_number e.held))
      in
      record {
        denial = m;
        reason = r;
        before = append_cancel_right front (without_held e.door e.person) (32 ∷ []) both.0;
        behind = append_cancel_left (behind_h []) rest (decimal e.held) both.1;
      }

  held_only : EndsInHeld front rest e
  held_only = go e.msgid refl
    where
      denied : e.msgid ≡ Deny → (t : Bool) → eqb e.reason held_reason ≡ t → EndsInHeld front rest e
      denied m true b = held_behind m (eqb-true e.reason held_reason b)
      denied m false b = absurd (not_plain (rw (m, b, append-nil (decimal e.reason)) (plain_reason e.reason)))

      go : (m : Msgid) → e.msgid ≡ m → EndsInHeld front rest e
      go Grant m = absurd (not_plain (rw m no_more))
      go Deny m = denied m (eqb e.reason held_reason) refl
      go Pass m = absurd (not_plain (rw m no_more))
      go Lapse m = absurd (not_plain (rw m no_more))

pub held_reason_3 : HeldWithReason3
held_reason_3 = record { ends_in_it = held_ends; not_without = without_held_lem; nowhere_else = λ front rest e l. held_only front rest e l.is }
