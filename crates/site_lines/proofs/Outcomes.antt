-- The lines of a sheet, read into the tables: each is right behind those before it, or the first that isn't is told.
-- Assumes nothing.
use Prim.Native.Nat.{ℕ, ◌+◌}
use native.Mathlib.Omega.{arith}
use mathlib.Core.Path.{◌≡◌, refl, ◌∙◌}
use mathlib.Core.Bool.{true, false}
use mathlib.Core.List.{List, [], ◌∷◌, ◌++◌, append_assoc, append-nil}
use Rattle.site_lines.specs.declared.SiteLine.{SiteLine}
use Rattle.site_lines.specs.declared.Draft.{Draft}
use Rattle.site_lines.specs.Fault.{Fault}
use Rattle.site_lines.specs.Fault as fault
use Rattle.site_lines.specs.Draft.{Reading}
use Rattle.site_lines.specs.Draft.{take_line}
use Rattle.site_lines.specs.Taking.{sound_fault, read_lines}
use Rattle.site_lines.specs.Says.{Fine}
use Rattle.site_lines.specs.Gives.{FineLines, all_fine, one_fine, WrongAt, here, further}
use Rattle.site_lines.proofs.Held.{Held}
use Rattle.site_lines.proofs.Outcome.{Outcome, fine, wrong, outcome}

pub data ReadOf (before lines : List SiteLine) (n : ℕ) (d : Draft) (r : Reading) : Type 0 where
  all : FineLines before lines → r.fault ≡ fault.Sound → Held (before ++ lines) r.draft → ReadOf before lines n d r
  stopped : (k : ℕ) (f : Fault) → WrongAt before lines k f → r.fault ≡ f → r.row ≡ n + k → sound_fault f ≡ false → ReadOf before lines n d r

module _ (before : List SiteLine) (line : SiteLine) (lines : List SiteLine) (n : ℕ) (d : Draft) where
  onward : Fine before line → (r : Reading) → ReadOf (before ++ (line ∷ [])) lines (n + 1) (take_line d line).draft r → ReadOf before (line ∷ lines) n d r
  onward f r (all a s h) = all (one_fine f a) s (rw (append_assoc before (line ∷ []) lines) at h)
  onward f r (stopped k g w s e q) = stopped (k + 1) g (further f w) s (e ∙ omega arith) q

  read_turn : Outcome before d line (take_line d line)
      → (Held (before ++ (line ∷ [])) (take_line d line).draft → ReadOf (before ++ (line ∷ [])) lines (n + 1) (take_line d line).draft (read_lines (take_line d line).draft (n + 1) lines))
      → ReadOf before (line ∷ lines) n d (read_lines d n (line ∷ lines))
  unfolding read_lines
  read_turn (fine f s h) more =
      let e : sound_fault (take_line d line).fault ≡ true = rw s in
      rw e (onward f (read_lines (take_line d line).draft (n + 1) lines) (more h))
  read_turn (wrong f w t q) more = stopped 0 f (here w) (rw (t, q)) (rw (t, q) (omega arith)) q

pub read_of : (lines before : List SiteLine) (n : ℕ) (d : Draft) → Held before d → ReadOf before lines n d (read_lines d n lines)
unfolding read_lines
read_of [] before n d h = all all_fine refl (rw (append-nil before) h)
read_of (line ∷ lines) before n d h =
    read_turn before line lines n d (outcome before d h line) (λ k. read_of lines (before ++ (line ∷ [])) (n + 1) (take_line d line).draft k)
