-- The rights that nobody can have: what a test of an entry tells, and the loop over the people. Assumes nothing.
use Prim.Native.Nat.{ℕ, ◌+◌, ◌*◌, ◌/◌, ◌%◌, ◌≤◌, ◌<◌}
use mathlib.Core.Path.{◌≡◌}
use mathlib.Core.Bool.{Bool, true, false}
use mathlib.Core.List.{List}
use mathlib.Core.Logic.{⊎_elim}
use native.Mathlib.Omega.{arith}
use borrow.Author.Tests.{ltb-true, ltb-false, lt-ltb, le-ltb}
use Rattle.std.specs.Int.{div_ceil}
use lib.ListN.{length, get_or, get_or-eq_default}
use lib.Dec.{ltb}
use Rattle.tables.specs.Tables.{most_locations}
use Rattle.tables.specs.Below.{all_below, Tells}
use Rattle.tables.proofs.Laws.{clash, not_so, tell_lt, tell_and, tell_all, tell_as, tell_unless, tell_when, tell_fails, tell_same, tell_itself, tell_cond}
use Rattle.tables.proofs.Cases.{below_or_not}
use Rattle.soundness.specs.SoundTest.{right_fits, rights_fit}
use Rattle.soundness.specs.Rights.{not_given, none_given, row_fits, person_fits}

-- ---- an entry

-- a right at i is one of a person to a location other than 0
abbrev pub RightOk : ℕ → ℕ → List Bool → ℕ → Type 0
RightOk people locations right i = get_or right i false ≡ true → (i / most_locations < people) × ((0 < i % most_locations) × (i % most_locations < locations))

pub tell_right : (people locations : ℕ) (right : List Bool) (i : ℕ) → Tells (right_fits people locations right i) (RightOk people locations right i)
unfolding right_fits
tell_right people locations right i =
    tell_when (get_or right i false)
    (tell_and (tell_lt (i / most_locations) people) (tell_and (tell_lt 0 (i % most_locations)) (tell_lt (i % most_locations) locations)))

-- a right that is not given fits
not_given_fits : (people locations : ℕ) (right : List Bool) (i : ℕ) → get_or right i false ≡ false → right_fits people locations right i ≡ true
not_given_fits people locations right i e = (tell_right people locations right i).back (λ given. clash given e)

-- ---- the entries from one to another

tell_none : (from to : ℕ) (right : List Bool) → Tells (none_given from to right) ((i : ℕ) → i < to → from ≤ i → get_or right i false ≡ false)
unfolding none_given not_given
tell_none from to right =
    tell_all (not_given from right) _ to (λ i. tell_unless (ltb i from) (ltb-false i from) (le-ltb i from) (tell_fails (get_or right i false)))

-- ---- the loop over the people

-- one person's rights: none to location 0, none beyond the locations
pub tell_row : (locations : ℕ) (right : List Bool) (row : ℕ)
    → Tells (row_fits locations right row) ((get_or right row false ≡ false) × ((i : ℕ) → i < row + most_locations → row + locations ≤ i → get_or right i false ≡ false))
unfolding row_fits
tell_row locations right row = tell_and (tell_fails (get_or right row false)) (tell_none (row + locations) (row + most_locations) right)

-- where the entries end before they begin, none is given
pub none_past : (from to : ℕ) (right : List Bool) → to ≤ from → none_given from to right ≡ true
none_past from to right h = (tell_none from to right).back (λ i l low. absurd (omega arith))

-- ---- the rows

module _ (people locations : ℕ) (right : List Bool) where
  -- the rights of a person's row fit
  Clear : ℕ → Type 0
  Clear p = (i : ℕ) → p * most_locations ≤ i → i < p * most_locations + most_locations → right_fits people locations right i ≡ true

  Row : ℕ → Type 0
  Row row = (get_or right row false ≡ false) × ((i : ℕ) → i < row + most_locations → row + locations ≤ i → get_or right i false ≡ false)

  None : ℕ → Type 0
  None row = (i : ℕ) → i < row + most_locations → row ≤ i → get_or right i false ≡ false

  clear_of : (p : ℕ) → (p < people → Row (p * most_locations)) × ((p < people → ⊥) → None (p * most_locations)) → Clear p
  unfolding Clear Row None
  clear_of p t i low h = (tell_right people locations right i).back (λ e. ⊎_elim (inside e) (outside e) (below_or_not p people))
    where
      inside : get_or right i false ≡ true → p < people → (i / most_locations < people) × ((0 < i % most_locations) × (i % most_locations < locations))
      inside e q =
          let r = t.0 q in
          let first : i ≡ p * most_locations → ⊥ = λ is. clash e (rw is r.0) in
          let far : p * most_locations + locations ≤ i → ⊥ = λ f. clash e (r.1 i h f) in
          (omega arith, (omega arith, omega arith))

      outside : get_or right i false ≡ true → people ≤ p → (i / most_locations < people) × ((0 < i % most_locations) × (i % most_locations < locations))
      outside e q = clash e (t.1 (λ l. omega arith) i h low)

  of_clear : (p : ℕ) → Clear p → (p < people → Row (p * most_locations)) × ((p < people → ⊥) → None (p * most_locations))
  unfolding Clear Row None
  of_clear p clear = (
    λ q. (
      not_so _ (λ e. let o = ok (p * most_locations) (omega arith) (omega arith) e in absurd (omega arith)),
      λ i h far. not_so _ (λ e. let o = ok i (omega arith) h e in absurd (omega arith)),
    ),
    λ none i h low. not_so _ (λ e. let o = ok i low h e in absurd (none (omega arith))),
  )
    where
      ok : (i : ℕ) → p * most_locations ≤ i → i < p * most_locations + most_locations → RightOk people locations right i
      ok i low h = (tell_right people locations right i).yes (clear i low h)

  -- a person's rights fit exactly when the test of their row says so
  tell_person : (p : ℕ) → Tells (person_fits people locations right p) (Clear p)
  unfolding person_fits Row None
  tell_person p =
      tell_as (clear_of p) (of_clear p)
      (tell_cond (ltb p people) (ltb-true p people) (lt-ltb p people) (tell_row locations right (p * most_locations))
      (tell_none (p * most_locations) (p * most_locations + most_locations) right))

  -- the rows are all the rights
  pub rows_are : all_below (person_fits people locations right) (div_ceil (length right) most_locations) ≡ rights_fit people locations right
  unfolding rights_fit Clear
  rows_are =
      tell_same (tell_all (person_fits people locations right) Clear (div_ceil (length right) most_locations) tell_person)
      (tell_as
      (λ all p h i low near. ⊎_elim (all i) (λ far. not_given_fits people locations right i (get_or-eq_default right false far)) (below_or_not i (length right)))
      (λ clear i h. clear (i / most_locations) (omega arith) i (omega arith) (omega arith))
      (tell_all (right_fits people locations right) (λ i. right_fits people locations right i ≡ true) (length right)
      (λ i. tell_itself (right_fits people locations right i))))
