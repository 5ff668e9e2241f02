-- A row that is taken leaves the counts of the tables in their ranges.
-- Assumes nothing.
use Prim.Native.Nat.{ℕ, ◌+◌, ◌*◌}
use native.Mathlib.Omega.{arith}
use mathlib.Core.Bool.{false}
use lib.ListN.{get_or}
use lib.Dec.{eqb}
use Rattle.tables.specs.Tables.{most_locations}
use Rattle.tables.proofs.Cases.{either}
use Rattle.site_lines.specs.declared.SiteLine.{SiteLine}
use Rattle.site_lines.specs.declared.SiteLine.TheVariants.{Site, Door, Exit, Right, Bad}
use Rattle.site_lines.specs.declared.Draft.{Draft}
use Rattle.site_lines.specs.Draft.{Taken, Bounded, counts_of, blank_draft, site_row_fits, door_row_fits, exit_row_fits, right_row_fits, take_site, take_door, take_exit, take_right, take_line}
use Rattle.site_lines.proofs.Fits.{site_in, door_in_lem}

pub bounded_blank : Bounded (counts_of blank_draft)
bounded_blank = record { people = omega arith; locations = omega arith; doors = omega arith }

-- the tables after a row
abbrev Kept : Taken → Type 0
Kept t = Bounded (counts_of t.draft)

module _ (d : Draft) (b : Bounded (counts_of d)) where
  site_kept : (p l : ℕ) → Kept (take_site d p l)
  unfolding take_site
  site_kept p l =
      either Kept (site_row_fits p l)
      (λ e. either Kept (eqb d.locations 0) (λ z. let i = site_in p l e in record { people = i.people_to; locations = i.locations_to; doors = b.doors }) (λ n. b)) (λ n. b)

  door_kept : (o t : ℕ) → Kept (take_door d o t)
  unfolding take_door
  door_kept o t =
      either Kept (door_row_fits d.locations d.doors o t)
      (λ e. let i = door_in_lem d.locations d.doors o t e in let r = i.room in record { people = b.people; locations = b.locations; doors = omega arith }) (λ n. b)

  exit_kept : (l m : ℕ) → Kept (take_exit d l m)
  unfolding take_exit
  exit_kept l m =
      either Kept (exit_row_fits d.locations l m)
      (λ e. either Kept (get_or d.given l false) (λ g. b) (λ g. record { people = b.people; locations = b.locations; doors = b.doors })) (λ n. b)

  right_kept : (p l : ℕ) → Kept (take_right d p l)
  unfolding take_right
  right_kept p l =
      either Kept (right_row_fits d.people d.locations p l)
      (λ e. either Kept (get_or d.right (p * most_locations + l) false) (λ g. b) (λ g. record { people = b.people; locations = b.locations; doors = b.doors })) (λ n. b)

  pub bounded_stays : (line : SiteLine) → Bounded (counts_of (take_line d line).draft)
  unfolding take_line
  bounded_stays (Site p l) = site_kept p l
  bounded_stays (Door o t) = either Kept (eqb d.locations 0) (λ e. b) (λ e. door_kept o t)
  bounded_stays (Exit l m) = either Kept (eqb d.locations 0) (λ e. b) (λ e. exit_kept l m)
  bounded_stays (Right p l) = either Kept (eqb d.locations 0) (λ e. b) (λ e. right_kept p l)
  bounded_stays Bad = b
