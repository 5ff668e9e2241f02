-- Lines as the papers have them, byte for byte, and small texts that the RFCs allow and don't.
use Rattle.std.specs.Prelude.{◌≡◌, List, [], ◌∷◌, ◌++◌, ℕ, Err}
use Rattle.syslog.specs.declared.Msgid.TheVariants.{Grant, Deny, Pass, Lapse}
use Rattle.syslog.specs.declared.LineEvent.{LineEvent}
use Rattle.syslog.specs.Line.{line_of, framed_of}
use Rattle.syslog.specs.Reading.{not_ours, ReadsLine}
use Rattle.syslog.specs.Rows.{event_row, refused_row}
use Rattle.syslog.specs.Rfc.{PriVal, Version, Hostname, MsgId, days_of, Timestamp, StructuredData, MsgLen}

-- `1 - - - - `, and ` - door=`
abbrev pub nils : List ℕ → List ℕ
nils more = 49 ∷ 32 ∷ 45 ∷ 32 ∷ 45 ∷ 32 ∷ 45 ∷ 32 ∷ 45 ∷ 32 ∷ more

abbrev pub at_door_sign : List ℕ → List ℕ
at_door_sign more = 32 ∷ 45 ∷ 32 ∷ 100 ∷ 111 ∷ 111 ∷ 114 ∷ 61 ∷ more

-- ` person=`, ` reason=` and ` held=`
abbrev pub person_sign : List ℕ → List ℕ
person_sign more = 32 ∷ 112 ∷ 101 ∷ 114 ∷ 115 ∷ 111 ∷ 110 ∷ 61 ∷ more

abbrev pub reason_sign : List ℕ → List ℕ
reason_sign more = 32 ∷ 114 ∷ 101 ∷ 97 ∷ 115 ∷ 111 ∷ 110 ∷ 61 ∷ more

abbrev pub held_sign : List ℕ → List ℕ
held_sign more = 32 ∷ 104 ∷ 101 ∷ 108 ∷ 100 ∷ 61 ∷ more

-- the grant of door 3 to person 1
abbrev pub granted31 : LineEvent
granted31 = record { msgid = Grant; door = 3; person = 1; reason = 0; held = 0 }

-- `<86>1 - - - - GRANT - door=3 person=1`
abbrev pub line31 : List ℕ
line31 = 60 ∷ 56 ∷ 54 ∷ 62 ∷ nils (71 ∷ 82 ∷ 65 ∷ 78 ∷ 84 ∷ at_door_sign (51 ∷ person_sign (49 ∷ [])))

-- `<85>1 - - - - DENY - door=1 person=0 reason=`, and more
abbrev pub denied10 : List ℕ → List ℕ
denied10 more = 60 ∷ 56 ∷ 53 ∷ 62 ∷ nils (68 ∷ 69 ∷ 78 ∷ 89 ∷ at_door_sign (49 ∷ person_sign (48 ∷ reason_sign more)))

pub record LineExamples : Type 0 where
  -- 02: "such as `<86>1 - - - - GRANT - door=3 person=1`", and "here `37 `"
  pub grant : line_of granted31 ≡ line31
  pub grant_framed : framed_of granted31 ≡ 51 ∷ 55 ∷ 32 ∷ line31
  -- "severity is 6, but 5 for a denial, which adds ` reason=` and the number": `<85>1 - - - - DENY - door=63 person=10 reason=2`
  pub denial : line_of (record { msgid = Deny; door = 63; person = 10; reason = 2; held = 0 })
      ≡ 60 ∷ 56 ∷ 53 ∷ 62 ∷ nils (68 ∷ 69 ∷ 78 ∷ 89 ∷ at_door_sign (54 ∷ 51 ∷ person_sign (49 ∷ 48 ∷ reason_sign (50 ∷ []))))
  -- C-12, "DENY lines with reason 3 end in ` held=` and the door": `<85>1 - - - - DENY - door=1 person=0 reason=3 held=42`
  pub held : line_of (record { msgid = Deny; door = 1; person = 0; reason = 3; held = 42 }) ≡ denied10 (51 ∷ held_sign (52 ∷ 50 ∷ []))
  -- "15 without it"; and so with another reason, and with no denial
  pub without_held_lem : ReadsLine (denied10 (51 ∷ [])) (Err not_ours)
  pub held_with_1 : ReadsLine (denied10 (49 ∷ held_sign (48 ∷ []))) (Err not_ours)
  pub held_granted : ReadsLine (line31 ++ held_sign (48 ∷ [])) (Err not_ours)
  -- `<86>1 - - - - PASS - door=0 person=9` and `<86>1 - - - - LAPSE - door=0 person=9`
  pub passage : line_of (record { msgid = Pass; door = 0; person = 9; reason = 0; held = 0 })
      ≡ 60 ∷ 56 ∷ 54 ∷ 62 ∷ nils (80 ∷ 65 ∷ 83 ∷ 83 ∷ at_door_sign (48 ∷ person_sign (57 ∷ [])))
  pub lapse : line_of (record { msgid = Lapse; door = 0; person = 9; reason = 0; held = 0 })
      ≡ 60 ∷ 56 ∷ 54 ∷ 62 ∷ nils (76 ∷ 65 ∷ 80 ∷ 83 ∷ 69 ∷ at_door_sign (48 ∷ person_sign (57 ∷ [])))
  -- `0,GRANT,3,1,0,0`, `0,DENY,1,0,3,63` and `15,,0,0,0,0`
  pub row : event_row granted31 ≡ 48 ∷ 44 ∷ 71 ∷ 82 ∷ 65 ∷ 78 ∷ 84 ∷ 44 ∷ 51 ∷ 44 ∷ 49 ∷ 44 ∷ 48 ∷ 44 ∷ 48 ∷ 13 ∷ 10 ∷ []
  pub held_row : event_row (record { msgid = Deny; door = 1; person = 0; reason = 3; held = 63 })
      ≡ 48 ∷ 44 ∷ 68 ∷ 69 ∷ 78 ∷ 89 ∷ 44 ∷ 49 ∷ 44 ∷ 48 ∷ 44 ∷ 51 ∷ 44 ∷ 54 ∷ 51 ∷ 13 ∷ 10 ∷ []
  pub refused_row_lem : refused_row 15 ≡ 49 ∷ 53 ∷ 44 ∷ 44 ∷ 48 ∷ 44 ∷ 48 ∷ 44 ∷ 48 ∷ 44 ∷ 48 ∷ 13 ∷ 10 ∷ []

-- Texts that are in the grammar of the RFCs and texts that aren't, of the parts that our lines have and of those that they leave nil.
pub record RfcExamples : Type 0 where
  -- `<0>` and `<191>` are the ends of the range; `<192>` is past it, and `<086>` has a needless zero
  pub pri_ends : PriVal (48 ∷ []) × PriVal (49 ∷ 57 ∷ 49 ∷ [])
  pub pri_192 : PriVal (49 ∷ 57 ∷ 50 ∷ []) → ⊥
  pub pri_086 : PriVal (48 ∷ 56 ∷ 54 ∷ []) → ⊥
  -- no version 0, no field of no bytes, no blank in a field, no empty element, no count `037`
  pub version_0 : Version (48 ∷ []) → ⊥
  pub empty_host : Hostname [] → ⊥
  pub blank_in_msgid : MsgId (71 ∷ 32 ∷ []) → ⊥
  pub empty_element : StructuredData (91 ∷ 93 ∷ []) → ⊥
  pub count_037 : MsgLen (48 ∷ 51 ∷ 55 ∷ []) → ⊥
  -- the time of the RFC's first example, in October 2003
  pub time : Timestamp (50 ∷ 48 ∷ 48 ∷ 51 ∷ 45 ∷ 49 ∷ 48 ∷ 45 ∷ 49 ∷ 49 ∷ 84 ∷ 50 ∷ 50 ∷ 58 ∷ 49 ∷ 52 ∷ 58 ∷ 49 ∷ 53 ∷ 46 ∷ 48 ∷ 48 ∷ 51 ∷ 90 ∷ [])
  -- February has 29 days in 2000 and 2004, and 28 in 1900 and 2003
  pub februaries : (days_of 2000 2 ≡ 29) × (days_of 2004 2 ≡ 29) × (days_of 1900 2 ≡ 28) × (days_of 2003 2 ≡ 28)
  -- `[a b="c"]` is structured data
  pub element : StructuredData (91 ∷ 97 ∷ 32 ∷ 98 ∷ 61 ∷ 34 ∷ 99 ∷ 34 ∷ 93 ∷ [])
