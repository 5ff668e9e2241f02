-- What becomes of a line: it is right and goes into the tables, or something is wrong with it and the tables stay.
-- Assumes nothing.
use Prim.Native.Nat.{ℕ, ◌+◌, ◌*◌, ◌<◌}
use native.Mathlib.Omega.{arith}
use mathlib.Core.Path.{◌≡◌, refl, sym, ap, subst, ◌∙◌}
use mathlib.Core.Bool.{false, cond}
use mathlib.Core.List.{List, [], ◌∷◌, ◌++◌}
use lib.ListN.{length, get_or}
use lib.Dec.{eqb}
use borrow.Author.Tests.{eqb-true, eqb-false}
use Rattle.tables.specs.Tables.{most_locations}
use Rattle.tables.proofs.Laws.{clash}
use Rattle.tables.proofs.Cases.{either}
use Rattle.site_lines.specs.declared.SiteLine.{SiteLine}
use Rattle.site_lines.specs.declared.SiteLine.TheVariants.{Site, Door, Exit, Right, Bad}
use Rattle.site_lines.specs.declared.Draft.{Draft}
use Rattle.site_lines.specs.Fault.{Fault}
use Rattle.site_lines.specs.Fault as fault
use Rattle.site_lines.specs.Draft.{Taken, took, not_taken, site_row_fits, door_row_fits, exit_row_fits, right_row_fits, with_site, with_door, with_exit, with_right, take_site, take_door, take_exit, take_right, take_line}
use Rattle.site_lines.specs.Taking.{sound_fault}
use Rattle.site_lines.specs.Says.{has_exit, has_right, LineInRange, site_range, door_range, exit_range, right_range, Again, second_site, second_exit, same_right, NotFirst, door_first, exit_first, right_first, Fine, Wrong, of_form, no_site, out_of_range, said_again}
use Rattle.site_lines.proofs.Fits.{SiteIn, DoorRowIn, ExitIn, RightIn, site_in, door_in_lem, exit_in_lem, right_in, site_fit, door_fit, exit_fit, right_fit}
use Rattle.site_lines.proofs.Said.{has_exit_lem, exit_has, right_row, right_has}
use Rattle.site_lines.proofs.Held.{Held, held_site, held_door, held_exit, held_right}

pub data Outcome (before : List SiteLine) (d : Draft) (line : SiteLine) (t : Taken) : Type 0 where
  fine : Fine before line → t.fault ≡ fault.Sound → Held (before ++ (line ∷ [])) t.draft → Outcome before d line t
  wrong : (f : Fault) → Wrong before line f → t ≡ not_taken d f → sound_fault f ≡ false → Outcome before d line t

pub nothing_before : (before : List SiteLine) (d : Draft) → Held before d → d.locations ≡ 0 → before ≡ []
nothing_before [] d h e = refl
nothing_before (line ∷ before) d h e = let b = h.begun (λ q. let z = ap length q in omega arith) in absurd (omega arith)

pub some_before : (before : List SiteLine) (d : Draft) → Held before d → (d.locations ≡ 0 → ⊥) → before ≡ [] → ⊥
some_before before d h n e = n (h.unbegun e)

-- a `site` row may come first
abbrev Later : SiteLine → Type 0
Later (Site p l) = ⊥
Later (Door o t) = Unit {0}
Later (Exit l m) = Unit {0}
Later (Right p l) = Unit {0}
Later Bad = ⊥

later : {line : SiteLine} → NotFirst line → Later line
later door_first = tt
later exit_first = tt
later right_first = tt

-- a door may be said again: "Two doors may join the same pair."
abbrev Once : SiteLine → Type 0
Once (Site p l) = Unit {0}
Once (Door o t) = ⊥
Once (Exit l m) = Unit {0}
Once (Right p l) = Unit {0}
Once Bad = ⊥

again_kind : {before : List SiteLine} {line : SiteLine} → Again before line → Once line
again_kind (second_site n) = tt
again_kind (second_exit e) = tt
again_kind (same_right e) = tt

module _ (before : List SiteLine) (d : Draft) (h : Held before d) where
  site_range_is : (p l : ℕ) → LineInRange before (Site p l) → SiteIn p l
  site_range_is p l (site_range a b c e) = record { people_from = a; people_to = b; locations_from = c; locations_to = e }

  site_first : (p l : ℕ) → LineInRange before (Site p l) → SiteIn p l → before ≡ [] → Outcome before d (Site p l) (took (with_site d p l))
  site_first p l r i e =
      fine (record { started = λ q n. later n; in_range = r; new = λ a. only a }) refl
      (subst (λ (b : List SiteLine). Held (b ++ (Site p l ∷ [])) (with_site d p l)) (sym e) (held_site d p l (subst (λ (b : List SiteLine). Held b d) e h) i))
    where
      only : Again before (Site p l) → ⊥
      only (second_site n) = n e

  site_outcome : (p l : ℕ) → Outcome before d (Site p l) (take_site d p l)
  unfolding take_site
  site_outcome p l =
      either (Outcome before d (Site p l)) (site_row_fits p l)
      (λ e.
      let i = site_in p l e in
      let r : LineInRange before (Site p l) = site_range i.people_from i.people_to i.locations_from i.locations_to in
      either (Outcome before d (Site p l)) (eqb d.locations 0)
      (λ z. site_first p l r i (nothing_before before d h (eqb-true d.locations 0 z)))
      (λ z. wrong fault.Twice (said_again (λ q n. later n) r (second_site (some_before before d h (eqb-false d.locations 0 z)))) refl refl))
      (λ e. wrong fault.Range (out_of_range (λ q. let z : ◌≡◌ {A = ℕ} 0 1 = cc in omega arith) (λ q n. later n) (λ r. clash (site_fit p l (site_range_is p l r)) e)) refl refl)

  -- a line that may not come first, behind some line
  module _ (line : SiteLine) (never : line ≡ Bad → ⊥) where
    after : (t : Taken) → NotFirst line → ((before ≡ [] → ⊥) → Outcome before d line t) → Outcome before d line (cond (eqb d.locations 0) (not_taken d fault.NoSite) t)
    after t n more =
        either (Outcome before d line) (eqb d.locations 0)
        (λ z. wrong fault.NoSite (no_site (nothing_before before d h (eqb-true d.locations 0 z)) n) refl refl)
        (λ z. more (some_before before d h (eqb-false d.locations 0 z)))

    no_range : (before ≡ [] → ⊥) → (LineInRange before line → ⊥) → Outcome before d line (not_taken d fault.Range)
    no_range s r = wrong fault.Range (out_of_range never (λ q n. s q) r) refl refl

    once_more : (before ≡ [] → ⊥) → LineInRange before line → Again before line → Outcome before d line (not_taken d fault.Twice)
    once_more s r a = wrong fault.Twice (said_again (λ q n. s q) r a) refl refl

    goes_in : (before ≡ [] → ⊥) → LineInRange before line → (Again before line → ⊥) → (e : Draft) → Held (before ++ (line ∷ [])) e → Outcome before d line (took e)
    goes_in s r a e k = fine (record { started = λ q n. s q; in_range = r; new = a }) refl k

  door_range_is : (o t : ℕ) → LineInRange before (Door o t) → DoorRowIn d.locations d.doors o t
  door_range_is o t (door_range a b c e) = record { from = rw h.holds.locations a; to = rw h.holds.locations b; differ = c; room = rw h.holds.doors e }

  door_outcome : (o t : ℕ) → (before ≡ [] → ⊥) → Outcome before d (Door o t) (take_door d o t)
  unfolding take_door
  door_outcome o t s =
      either (Outcome before d (Door o t)) (door_row_fits d.locations d.doors o t)
      (λ e.
      let i = door_in_lem d.locations d.doors o t e in
      goes_in (Door o t) never s (door_range (rw h.holds.locations at i.from) (rw h.holds.locations at i.to) i.differ (rw h.holds.doors at i.room))
      (λ a. no_door a) (with_door d o t) (held_door before d h o t s i))
      (λ e. no_range (Door o t) never s (λ r. clash (door_fit d.locations d.doors o t (door_range_is o t r)) e))
    where
      never : Door o t ≡ Bad → ⊥
      never q = let z : ◌≡◌ {A = ℕ} 0 1 = cc in omega arith

      no_door : Again before (Door o t) → ⊥
      no_door a = again_kind a

  exit_range_is : (l m : ℕ) → LineInRange before (Exit l m) → ExitIn d.locations l m
  exit_range_is l m (exit_range a b c) = record { inside = a; from = rw h.holds.locations b; to = rw h.holds.locations c }

  exit_outcome : (l m : ℕ) → (before ≡ [] → ⊥) → Outcome before d (Exit l m) (take_exit d l m)
  unfolding take_exit
  exit_outcome l m s =
      either (Outcome before d (Exit l m)) (exit_row_fits d.locations l m)
      (λ e.
      let i = exit_in_lem d.locations l m e in
      let r : LineInRange before (Exit l m) = exit_range i.inside (rw h.holds.locations at i.from) (rw h.holds.locations at i.to) in
      either (Outcome before d (Exit l m)) (get_or d.given l false)
      (λ g. once_more (Exit l m) never s r (second_exit (has_exit_lem l before (sym (h.holds.given l) ∙ g))))
      (λ g. let new : has_exit l before ≡ false = sym (h.holds.given l) ∙ g in goes_in (Exit l m) never s r (first new) (with_exit d l m) (held_exit before d h l m s i new)))
      (λ e. no_range (Exit l m) never s (λ r. clash (exit_fit d.locations l m (exit_range_is l m r)) e))
    where
      never : Exit l m ≡ Bad → ⊥
      never q = let z : ◌≡◌ {A = ℕ} 0 1 = cc in omega arith

      first : has_exit l before ≡ false → Again before (Exit l m) → ⊥
      first new (second_exit x) = clash (exit_has l x.row) new

  right_range_is : (p l : ℕ) → LineInRange before (Right p l) → RightIn d.people d.locations p l
  right_range_is p l (right_range a b c) = record { person = rw h.holds.people a; inside = b; location = rw h.holds.locations c }

  right_outcome : (p l : ℕ) → (before ≡ [] → ⊥) → Outcome before d (Right p l) (take_right d p l)
  unfolding take_right
  right_outcome p l s =
      either (Outcome before d (Right p l)) (right_row_fits d.people d.locations p l)
      (λ e.
      let i = right_in d.people d.locations p l e in
      let r : LineInRange before (Right p l) = right_range (rw h.holds.people at i.person) i.inside (rw h.holds.locations at i.location) in
      let f = i.location in
      let b = h.bounded.locations in
      let w : l < most_locations = omega arith in
      either (Outcome before d (Right p l)) (get_or d.right (p * most_locations + l) false)
      (λ g. once_more (Right p l) never s r (same_right (right_row p l before (sym (h.holds.rights p l w) ∙ g))))
      (λ g. let new : has_right p l before ≡ false = sym (h.holds.rights p l w) ∙ g in goes_in (Right p l) never s r (first new) (with_right d p l) (held_right before d h p l s i new)))
      (λ e. no_range (Right p l) never s (λ r. clash (right_fit d.people d.locations p l (right_range_is p l r)) e))
    where
      never : Right p l ≡ Bad → ⊥
      never q = let z : ◌≡◌ {A = ℕ} 0 1 = cc in omega arith

      first : has_right p l before ≡ false → Again before (Right p l) → ⊥
      first new (same_right a) = clash (right_has p l a) new

  pub outcome : (line : SiteLine) → Outcome before d line (take_line d line)
  unfolding take_line
  outcome (Site p l) = site_outcome p l
  outcome (Door o t) = after (Door o t) (λ q. let z : ◌≡◌ {A = ℕ} 0 1 = cc in omega arith) (take_door d o t) door_first (door_outcome o t)
  outcome (Exit l m) = after (Exit l m) (λ q. let z : ◌≡◌ {A = ℕ} 0 1 = cc in omega arith) (take_exit d l m) exit_first (exit_outcome l m)
  outcome (Right p l) = after (Right p l) (λ q. let z : ◌≡◌ {A = ℕ} 0 1 = cc in omega arith) (take_right d p l) right_first (right_outcome p l)
  outcome Bad = wrong fault.Form of_form refl refl
