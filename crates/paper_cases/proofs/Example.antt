-- What the run that 01 prints records ("Program and one whole run"), from its steps and its printed answers. The card at door 0
-- was taken first and its passage recorded last, so here the order of cards is another than that of what was recorded; only in
-- the latter does the card at door 1 get its own reason again. Assumes nothing.
use mathlib.Core.Path.{◌≡◌, refl}
use mathlib.Core.List.{[], ◌∷◌}
use Rattle.tables.specs.Tables.{may_be, or_else, and_also}
use Rattle.tables.specs.Below.{least_below, or_at}
use Rattle.phases.specs.Phase.{read, grants}
use Rattle.door.specs.Door.{door}
use Rattle.tables.specs.Zero.{zeros}
use Rattle.record.specs.Doors.{put_door, put_at}
use Rattle.granting.specs.Grants.{grants_to, grant_of, has_grant}
use Rattle.granting.specs.Reasons.{first_reason}
use Rattle.record.specs.Steps.{reason_for}
use Rattle.run_events.specs.Events.{Denial, Passage, event, meaning_by, meaning_of, no_spells, spell_by, spells_after, event_by, events_of}
use Rattle.card_by_card.specs.Serving.{ends_card, recorded}
use Rattle.run_text.proofs.Examples.{site_of_01}
use Rattle.paper_cases.specs.WholeRun.{run_of01}

-- in row 6 a refusal at door 1 for reason 1, then in row 7 a passage at door 0
pub recorded_of_01 : recorded (events_of no_spells 1 run_of01) ≡ event 6 1 0 (Denial 1 0) ∷ event 7 0 0 Passage ∷ []
unfolding recorded ends_card events_of event_by meaning_of meaning_by spells_after spell_by
recorded_of_01 = refl

-- ---- the two orders

-- served first, as it was recorded, person 0's card at door 1 is denied for reason 1 ..
pub by_record : reason_for (put_door site_of_01 1 (door read 0 0)) 1 0 ≡ 1
unfolding first_reason zeros
by_record = refl

-- .. but served behind the passage to location 1, whose card was shown first, it would be granted
pub by_card : reason_for (put_door (put_at site_of_01 0 1) 1 (door read 0 0)) 1 0 ≡ 0
unfolding first_reason may_be and_also or_else has_grant grant_of least_below or_at grants_to grants zeros
by_card = refl
