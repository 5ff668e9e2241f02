-- What a list of bytes reads as is found by the guess: where the text isn't the guess's own, no event has it. Assumes nothing.
use Prim.Native.Nat.{ℕ, ◌+◌, ◌-◌, ◌≤◌, ◌<◌}
use mathlib.Core.Path.{◌≡◌, refl, sym, ap, subst, ◌∙◌}
use mathlib.Core.Bool.{Bool, true, false}
use mathlib.Core.List.{List, [], ◌∷◌, ◌++◌, append_assoc}
use mathlib.Core.Logic.{◌⊎◌, inl, inr, ⊎_elim}
use native.Mathlib.Omega.{arith}
use borrow.Author.Tests.{eqb-false}
use lib.Dec.{eqb}
use lib.ListN.{length, take, drop, length-append, length-drop, take-append-drop}
use lib.Seq.{length-take-le, take-append_seam, drop-append_seam}
use Rattle.std.specs.Prelude.{Option, Some, None, Result, Ok, Err}
use Rattle.std.specs.List.{slice_range}
use Rattle.tables.specs.Tables.{and_also}
use Rattle.tables.proofs.Cases.{same_or_not, below_or_not}
use Rattle.tables.proofs.Laws.{clash}
use Rattle.text.specs.Text.{decimal}
use Rattle.syslog.specs.declared.LineEvent.{LineEvent}
use Rattle.syslog.specs.declared.NotOurs.{NotOurs}
use Rattle.syslog.specs.Line.{line_of, framed_of, Fits, fits_line}
use Rattle.syslog.specs.Reading.{not_ours, LineIs, ReadsLine, FrameAt, ReadsFrame}
use Rattle.syslog.specs.Guess.{is_digit, number_from, guess_of, frame_size}
use Rattle.syslog.proofs.Digits.{Stops, at_byte, number_back}
use Rattle.syslog.proofs.Loops.{tail_is}
use Rattle.syslog.proofs.Fit.{fits_tells}
use Rattle.syslog.proofs.Lengths.{line_short, frame_is}
use Rattle.syslog.proofs.Guessing.{guess_line, guess_frame}

-- ---- lines

-- a line is the guess's own
line_guess : {text : List ℕ} {e : LineEvent} → LineIs text e → guess_of text ≡ e
line_guess {text} {e} l = ap guess_of l.is ∙ guess_line e l.fits

pub line_found : {text : List ℕ} {e : LineEvent} → fits_line e ≡ true → text ≡ line_of e → ReadsLine text (Ok e)
line_found {e = e} f is = record { fits = (fits_tells e).yes f; is = is }

pub line_unfit : {text : List ℕ} → fits_line (guess_of text) ≡ false → ReadsLine text (Err not_ours)
line_unfit {text} f e l = clash ((fits_tells (guess_of text)).back (subst Fits (sym (line_guess l)) l.fits)) f

pub line_other : {text : List ℕ} → (text ≡ line_of (guess_of text) → ⊥) → ReadsLine text (Err not_ours)
line_other {text} ne e l = ne (l.is ∙ ap line_of (sym (line_guess l)))

pub line_once : {text : List ℕ} {e f : LineEvent} → LineIs text e → LineIs text f → e ≡ f
line_once a b = sym (line_guess a) ∙ line_guess b

-- ---- frames

blank_ends : (t : List ℕ) → Stops (32 ∷ t)
unfolding is_digit and_also
blank_ends t = at_byte {b = 32} refl

-- the count in front of a frame is the length of its line
count_is : (e : LineEvent) → Fits e → (rest : List ℕ) → frame_size (framed_of e ++ rest) ≡ length (framed_of e)
unfolding framed_of
count_is e f rest =
    let s = line_short e f in
    let n : number_from (decimal (length (line_of e)) ++ (32 ∷ (line_of e ++ rest))) ≡ length (line_of e) = number_back (length (line_of e)) (omega arith) (blank_ends (line_of e ++ rest)) in
    rw (append_assoc, n) (sym (frame_is e f))

module _ {s : List ℕ} {at : ℕ} {e : LineEvent} {next : ℕ} (x : FrameAt s at e next) where
  -- what lies from the place on
  pub frame_there : drop at s ≡ framed_of e ++ x.rest
  frame_there = rw (x.place, x.split) (drop-append_seam x.front (framed_of e ++ x.rest))

  pub frame_size_lem : frame_size (drop at s) ≡ length (framed_of e)
  frame_size_lem = ap frame_size frame_there ∙ count_is e x.fits x.rest

  pub frame_text : take (frame_size (drop at s)) (drop at s) ≡ framed_of e
  frame_text = rw (frame_size_lem, frame_there) (take-append_seam (framed_of e) x.rest)

  pub frame_guess : guess_of (take (frame_size (drop at s)) (drop at s)) ≡ e
  frame_guess = ap guess_of frame_text ∙ guess_frame e x.fits

  pub frame_inside : at + length (framed_of e) ≤ length s
  frame_inside =
      let a : length s ≡ length x.front + length (framed_of e ++ x.rest) = ap length x.split ∙ length-append x.front (framed_of e ++ x.rest) in
      let b = length-append (framed_of e) x.rest in
      let p = x.place in
      omega arith

  pub frame_some : 1 ≤ length (framed_of e)
  frame_some = let l = frame_is e x.fits in omega arith

  pub frame_onward : (at < next) × (next ≤ length s)
  frame_onward = let i = frame_inside in let n = frame_some in let b = x.behind_it in (omega arith, omega arith)

pub frame_once : {s : List ℕ} {at : ℕ} {e f : LineEvent} {next then : ℕ} → FrameAt s at e next → FrameAt s at f then → (e ≡ f) × (next ≡ then)
frame_once {at = at} {e} {f} a b =
    let same : e ≡ f = sym (frame_guess a) ∙ frame_guess b in
    (same, a.behind_it ∙ ap (λ (g : LineEvent). at + length (framed_of g)) same ∙ sym b.behind_it)

-- ---- what is found at a place inside a stream

module _ (s : List ℕ) (at : ℕ) (in_it : at < length s) where
  not_end : at ≡ length s → ⊥
  not_end e = omega arith

  -- the stream ends before the frame would
  pub frame_cut : length (drop at s) < frame_size (drop at s) → ReadsFrame s at (Err not_ours)
  frame_cut h =
      (not_end, λ e next x. let z = frame_size_lem x in let i = frame_inside x in let d = length-drop at s in omega arith)

  module _ (room : frame_size (drop at s) ≤ length (drop at s)) where
    abbrev text : List ℕ
    text = take (frame_size (drop at s)) (drop at s)

    pub frame_unfit : fits_line (guess_of text) ≡ false → ReadsFrame s at (Err not_ours)
    frame_unfit f = (not_end, λ e next x. clash ((fits_tells (guess_of text)).back (subst Fits (sym (frame_guess x)) x.fits)) f)

    pub frame_other : (text ≡ framed_of (guess_of text) → ⊥) → ReadsFrame s at (Err not_ours)
    frame_other ne = (not_end, λ e next x. ne (frame_text x ∙ ap framed_of (sym (frame_guess x))))

    pub frame_found : {e : LineEvent} → fits_line e ≡ true → text ≡ framed_of e → ReadsFrame s at (Ok (Some (e, at + frame_size (drop at s))))
    frame_found {e} f is =
        let size : length text ≡ frame_size (drop at s) = length-take-le (frame_size (drop at s)) (drop at s) room in
        let there : drop at s ≡ framed_of e ++ drop (frame_size (drop at s)) (drop at s) = sym (take-append-drop (frame_size (drop at s)) (drop at s)) ∙ ap (λ (t : List ℕ). t ++ drop (frame_size (drop at s)) (drop at s)) is in
        record {
          fits = (fits_tells e).yes f;
          front = take at s;
          rest = drop (frame_size (drop at s)) (drop at s);
          split = sym (take-append-drop at s) ∙ ap (λ (t : List ℕ). take at s ++ t) there;
          place = sym (length-take-le at s (omega arith));
          behind_it = ap (λ (n : ℕ). at + n) (sym size ∙ ap length is);
        }

-- the same of what is looked up: `rest` lies from the place on and isn't empty, and `size` is the number at its front
module _ (s rest : List ℕ) (at size : ℕ) (part : rest ≡ take (length s - at) (drop at s)) (adds : length rest + at ≡ length s)
    (some : false ≡ eqb (length rest) 0) (number : size ≡ number_from rest) where
  inside : at < length s
  inside = let o = eqb-false (length rest) 0 (sym some) in omega (arith, o)

  tail : rest ≡ drop at s
  tail = part ∙ tail_is s at

  pub cut_read : length rest < size + 3 → ReadsFrame s at (Err not_ours)
  cut_read h = frame_cut s at inside (rw (number, tail) at h)

  module _ (text : List ℕ) (room : size + 3 ≤ length rest) (part_of_it : text ≡ slice_range rest 0 (size + 3)) where
    is : text ≡ take (size + 3) rest
    is = part_of_it ∙ ap (λ (n : ℕ). take n rest) (omega arith)

    pub unfit_read : fits_line (guess_of text) ≡ false → ReadsFrame s at (Err not_ours)
    unfit_read f = frame_unfit s at inside (rw (number, tail) at room) (rw (is, number, tail) at f)

    pub other_read : (text ≡ framed_of (guess_of text) → ⊥) → ReadsFrame s at (Err not_ours)
    other_read ne = frame_other s at inside (rw (number, tail) at room) (rw (is, number, tail) at ne)

    pub found_read : {e : LineEvent} → fits_line e ≡ true → text ≡ framed_of e → ReadsFrame s at (Ok (Some (e, at + (size + 3))))
    found_read f same = rw (number, tail) (frame_found s at inside (rw (number, tail) at room) f (rw (is, number, tail) at same))

-- past the end there is no frame
pub frame_past : {s : List ℕ} {at : ℕ} → length s < at → ReadsFrame s at (Err not_ours)
frame_past h = (λ e. omega arith, λ e next x. let o = frame_onward x in omega (arith, o.0, o.1))

-- ---- every list of bytes reads as something

same_text : (xs ys : List ℕ) → (xs ≡ ys) ⊎ (xs ≡ ys → ⊥)
same_text [] [] = inl refl
same_text [] (y ∷ ys) = inr (λ e. let n = ap length e in omega arith)
same_text (x ∷ xs) [] = inr (λ e. let n = ap length e in omega arith)
same_text (x ∷ xs) (y ∷ ys) = go (same_or_not x y) (same_text xs ys)
  where
    first : List ℕ → ℕ
    first [] = 0
    first (b ∷ bs) = b

    go : (x ≡ y) ⊎ (x ≡ y → ⊥) → (xs ≡ ys) ⊎ (xs ≡ ys → ⊥) → (x ∷ xs ≡ y ∷ ys) ⊎ (x ∷ xs ≡ y ∷ ys → ⊥)
    go (inl a) (inl b) = inl (rw (a, b))
    go (inl a) (inr b) = inr (λ e. b (ap (drop 1) e))
    go (inr a) b = inr (λ e. a (ap first e))

pub line_reads : (text : List ℕ) → (told : Result LineEvent NotOurs) × ReadsLine text told
line_reads text = go (fits_line (guess_of text)) refl (same_text text (line_of (guess_of text)))
  where
    go : (b : Bool) → fits_line (guess_of text) ≡ b → (text ≡ line_of (guess_of text)) ⊎ (text ≡ line_of (guess_of text) → ⊥) → (told : Result LineEvent NotOurs) × ReadsLine text told
    go false f same = (Err not_ours, line_unfit f)
    go true f (inl is) = (Ok (guess_of text), line_found f is)
    go true f (inr ne) = (Err not_ours, line_other ne)

pub frame_reads : (s : List ℕ) (at : ℕ) → (told : Result (Option (LineEvent × ℕ)) NotOurs) × ReadsFrame s at told
frame_reads s at = ⊎_elim inside (λ h. ⊎_elim (λ e. (Ok None, e)) (λ ne. (Err not_ours, (ne, λ e next x. past h (frame_onward x)))) (same_or_not at (length s))) (below_or_not at (length s))
  where
    past : {next : ℕ} → length s ≤ at → (at < next) × (next ≤ length s) → ⊥
    past h o = omega (arith, o.0, o.1)

    inside : at < length s → (told : Result (Option (LineEvent × ℕ)) NotOurs) × ReadsFrame s at told
    inside h = ⊎_elim (λ cut. (Err not_ours, frame_cut s at h cut)) whole (below_or_not (length (drop at s)) (frame_size (drop at s)))
      where
        whole : frame_size (drop at s) ≤ length (drop at s) → (told : Result (Option (LineEvent × ℕ)) NotOurs) × ReadsFrame s at told
        whole room = go (fits_line (guess_of text)) refl (same_text text (framed_of (guess_of text)))
          where
            text : List ℕ
            text = take (frame_size (drop at s)) (drop at s)

            go : (b : Bool) → fits_line (guess_of text) ≡ b → (text ≡ framed_of (guess_of text)) ⊎ (text ≡ framed_of (guess_of text) → ⊥) → (told : Result (Option (LineEvent × ℕ)) NotOurs) × ReadsFrame s at told
            go false f same = (Err not_ours, frame_unfit s at h room f)
            go true f (inl is) = (Ok (Some (guess_of text, at + frame_size (drop at s))), frame_found s at h room f is)
            go true f (inr ne) = (Err not_ours, frame_other s at h room ne)
