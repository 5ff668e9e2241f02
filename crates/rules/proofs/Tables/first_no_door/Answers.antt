-- `first_no_door` meets its contract: a location lacks a door to its exit exactly when it isn't marked. Assumes nothing.
use mathlib.Core.Path.{◌∙◌}
use mathlib.Core.Bool.{not}
use lib.Dec.{ltb}
use Rattle.tables.specs.Tables.{and_also}
use Rattle.tables.specs.Below.{least_below}
use Rattle.tables.specs.Tests.{lacks_exit, first_no_exit, lacks_door, first_no_door}
use Rattle.rules.proofs.Tables.first_no_door.Goals as goal

pub returns : goal.returns
unfolding first_no_exit lacks_exit first_no_door lacks_door
returns c =
    let looked = c.first_no_exit.ensures ∙ (λ i. least_below (λ l. and_also (ltb 0 l) (not (c.mark_led.ensures l i))) c.args.self.locations) in
    record { told = looked; whatever_else = λ people. looked }
