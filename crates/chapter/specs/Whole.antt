-- The chapter's claims as a whole: each machine keeps its invariants, and refines the one before.
use Rattle.std.specs.Prelude.{ℕ}
use Rattle.machines.specs.Context.{Constants}
use Rattle.machines.specs.Machines.{State, Keeps, Refines}
use Rattle.machines.specs.M0 as m0
use Rattle.machines.specs.M1 as m1
use Rattle.machines.specs.M2 as m2
use Rattle.machines.specs.M3 as m3
use Rattle.machines.specs.M4 as m4

pub record Chapter (c : Constants) : Type 1 where
  -- "It is easy to prove that the invariants are well preserved by the above transitions when they happen."
  pub M0-keeps : Keeps (m0.machine c) (m0.Inv c)
  -- the first refinement adds no invariant
  pub M1-keeps : Keeps (m1.machine c) (m0.Inv c)
  pub M2-keeps : Keeps (m2.machine c) (m2.All c)
  pub M3-keeps : Keeps (m3.machine c) (m3.All c)
  pub M4-keeps : Keeps (m4.machine c) (m4.All c)
  -- "This event is quite simply a refinement of the previous version"
  pub M1-refines-M0 : Refines (m0.machine c) (m1.machine c) m1.see m1.from (m0.Inv c) (λ s. Unit {0})
  -- "the new version of the event pass refines its abstraction", "the new events all refine .. skip"
  pub M2-refines-M1 : Refines (m1.machine c) (m2.machine c) m2.see (m2.from c) (m0.Inv c) (m2.Inv c)
  -- "The proof of this refinement does not induce any particular problem."
  pub M3-refines-M2 : Refines (m2.machine c) (m3.machine c) m3.see m3.from (m2.All c) (m3.Inv c)
  pub M4-refines-M3 : Refines (m3.machine c) (m4.machine c) m4.see m4.from (m3.All c) (λ s. m4.Inv (m4.see s) s)
  -- "that the event pass does not happen less often than its abstraction, taking into account, of course, the new events": where
  -- accept, pass and off-red of the second refinement aren't enabled, pass isn't in the first
  pub pass_not_less_often : (s : State m2.names) → m2.Inv c s → ((p d : ℕ) → m2.Guard c s (m2.accept p d) → ⊥) → ((p d : ℕ) → m2.Guard c s (m2.pass p d) → ⊥)
      → ((d : ℕ) → m2.Guard c s (m2.off_red d) → ⊥) → (p l : ℕ) → m1.Guard c (m2.see s) (m1.pass p l) → ⊥
