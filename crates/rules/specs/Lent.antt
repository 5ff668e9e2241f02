-- The tables that are lent to the rules, as a plan.
use Rattle.tables.specs.Tables.{Plan, plan}
use Rattle.rules.specs.declared.Tables.{Tables}

abbrev pub plan_lent : Tables → Plan
plan_lent t = plan t.people t.locations t.doors t.origin.now t.destination.now t.exit.now
