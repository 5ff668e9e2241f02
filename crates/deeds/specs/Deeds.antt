-- A step on lent lists: first what it does, its deed, then each list with that carried out, and what is told (01, "Steps"). That
-- for a sound record this is the step itself is proved in crates/record/proofs/Deeds.antt.
use Rattle.std.specs.Prelude.{ℕ, Bool, not, cond, List, get_or, set, ltb}
use Rattle.tables.specs.Tables.{Plan, or_else, and_also, most_people}
use Rattle.phases.specs.declared.table.Kind.{Kind}
use Rattle.phases.specs.declared.answer.Answer.TheVariants.{Done, NoSuch, NotAllowed, Unsound}
use Rattle.phases.specs.Kinds.{names_person}
use Rattle.phases.specs.Table.{asked}
use Rattle.door_does.specs.declared.Does.{Does}
use Rattle.door_does.specs.declared.Does.TheVariants.{Stays, Turns, Moves}
use Rattle.door.specs.Door.{door_in}
use Rattle.door_does.specs.Does.{effect}
use Rattle.granting.specs.Reasons.{first_reason, held_with}
use Rattle.deeds.specs.declared.Deed.{Deed}
use Rattle.deeds.specs.declared.Deed.TheVariants.{Tells, Puts, Leads}
use Rattle.deeds.specs.declared.Told.{Told}

-- do the door and, of a card, the person exist, of so many people and doors?
unfoldable pub exist_among : ℕ → ℕ → Kind → ℕ → ℕ → Bool
exist_among people doors k d p = and_also (ltb d doors) (or_else (not (names_person k)) (ltb p people))

-- what is done where the step does so at a door that is in phase `current`, holds person p and leads to this location, among n doors in
-- these phases and with these persons
abbrev pub deed_of : Does → ℕ → ℕ → ℕ → ℕ → List ℕ → List ℕ → Deed
deed_of Stays current p to n phase holder = Tells Done current
deed_of (Turns c why) current p to n phase holder = Puts c why (held_with why n phase holder p)
deed_of (Moves c) current p to n phase holder = Leads c p to

-- what is done where the step may be done
abbrev pub allowed_of : Plan → List Bool → List ℕ → List ℕ → List ℕ → List ℕ → Kind → ℕ → ℕ → Deed
allowed_of site right place phase holder count k d p =
    deed_of (effect k p (first_reason site right place phase holder d (get_or holder d 0)) (door_in phase holder count d))
    (get_or phase d 0)
    (get_or holder d 0)
    (get_or site.destination d 0)
    site.doors
    phase
    holder

-- "Steps and questions: 14, then 11, then 12": the deed of a step; where there are more people than there is room for, 14
unfoldable pub judged_of : Plan → List Bool → List ℕ → List ℕ → List ℕ → List ℕ → Kind → ℕ → ℕ → Deed
judged_of site right place phase holder count k d p =
    cond (ltb most_people site.people)
    (Tells Unsound 0)
    (cond (exist_among site.people site.doors k d p)
    (cond (asked k (get_or phase d 0))
    (allowed_of site right place phase holder count k d p)
    (Tells NotAllowed (get_or phase d 0)))
    (Tells NoSuch 0))

-- "A step answers its number, the door's phase afterwards .. and the reason", and with it "the door that is granted to the person"
abbrev pub told_of : Deed → Told
told_of (Tells answer phase) = record { answer = answer; phase = phase; reason = 0; held = 0 }
told_of (Puts c why held) = record { answer = Done; phase = c.phase; reason = why; held = held }
told_of (Leads c p l) = record { answer = Done; phase = c.phase; reason = 0; held = 0 }

-- the lists with the deed carried out at door d: the locations of the people, and of each door its phase, its person and its countdown
abbrev pub places_after : Deed → List ℕ → List ℕ
places_after (Tells answer phase) place = place
places_after (Puts c why held) place = place
places_after (Leads c p l) place = set place p l

abbrev pub phases_after : Deed → ℕ → List ℕ → List ℕ
phases_after (Tells answer so) d phase = phase
phases_after (Puts c why held) d phase = set phase d c.phase
phases_after (Leads c p l) d phase = set phase d c.phase

abbrev pub holders_after : Deed → ℕ → List ℕ → List ℕ
holders_after (Tells answer phase) d holder = holder
holders_after (Puts c why held) d holder = set holder d c.holder
holders_after (Leads c p l) d holder = set holder d c.holder

abbrev pub counts_after : Deed → ℕ → List ℕ → List ℕ
counts_after (Tells answer phase) d count = count
counts_after (Puts c why held) d count = set count d c.count
counts_after (Leads c p l) d count = set count d c.count
