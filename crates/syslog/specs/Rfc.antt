-- What a syslog message and a frame of a stream are, by the RFCs and not by our lines. RFC 5424, section 6, has the message, RFC 6587,
-- section 3.4.1, the frame, RFC 3629, section 4, UTF-8. Each definition has the line of the RFC's grammar that it says. Characters are
-- told by their bytes: 32 is a blank (SP), 45 is `-`.
use Rattle.std.specs.Prelude.{ℕ, ◌+◌, ◌*◌, ◌-◌, ◌%◌, ◌≤◌, ◌≡◌, Bool, true, false, cond, List, [], ◌∷◌, ◌++◌, ◌⊎◌, length, eqb}

-- ---- bytes

-- each byte of a text
pub data EachByte (Byte : ℕ → Type 0) : List ℕ → Type 0 where
  no_more : EachByte Byte []
  and : {b : ℕ} {bs : List ℕ} → Byte b → EachByte Byte bs → EachByte Byte (b ∷ bs)

abbrev pub From◌To◌ : ℕ → ℕ → ℕ → Type 0
From◌To◌ least most b = (least ≤ b) × (b ≤ most)

-- "OCTET = %d00-255"
abbrev pub OCTET : ℕ → Type 0
OCTET b = b ≤ 255

-- "DIGIT = %d48 / NONZERO-DIGIT", "NONZERO-DIGIT = %d49-57"
abbrev pub DIGIT : ℕ → Type 0
DIGIT = From◌To◌ 48 57

abbrev pub NONZERO-DIGIT : ℕ → Type 0
NONZERO-DIGIT = From◌To◌ 49 57

-- "PRINTUSASCII = %d33-126"
abbrev pub PRINTUSASCII : ℕ → Type 0
PRINTUSASCII = From◌To◌ 33 126

-- "NILVALUE = "-""
abbrev pub nil_value : List ℕ
nil_value = 45 ∷ []

-- the number that digits say, behind those that were read
unfoldable pub number_said_from : ℕ → List ℕ → ℕ
number_said_from n [] = n
number_said_from n (b ∷ bs) = number_said_from (n * 10 + (b - 48)) bs

abbrev pub number_said : List ℕ → ℕ
number_said digits = number_said_from 0 digits

-- "NONZERO-DIGIT *DIGIT"
pub data NonzeroFirst : List ℕ → Type 0 where
  nonzero_first : {b : ℕ} {bs : List ℕ} → NONZERO-DIGIT b → EachByte DIGIT bs → NonzeroFirst (b ∷ bs)

-- "UTF-8-STRING = *OCTET ; UTF-8 string as specified in RFC 3629": "UTF8-octets = *( UTF8-char )", and "UTF8-tail = %x80-BF"
abbrev pub Tail : ℕ → Type 0
Tail = From◌To◌ 128 191

pub data Utf8 : List ℕ → Type 0 where
  no_more : Utf8 []
  -- "UTF8-1 = %x00-7F"
  one : {a : ℕ} {bs : List ℕ} → a ≤ 127 → Utf8 bs → Utf8 (a ∷ bs)
  -- "UTF8-2 = %xC2-DF UTF8-tail"
  two : {a b : ℕ} {bs : List ℕ} → From◌To◌ 194 223 a → Tail b → Utf8 bs → Utf8 (a ∷ b ∷ bs)
  -- "UTF8-3 = %xE0 %xA0-BF UTF8-tail / %xE1-EC 2( UTF8-tail ) / %xED %x80-9F UTF8-tail / %xEE-EF 2( UTF8-tail )"
  three_low : {b c : ℕ} {bs : List ℕ} → From◌To◌ 160 191 b → Tail c → Utf8 bs → Utf8 (224 ∷ b ∷ c ∷ bs)
  three : {a b c : ℕ} {bs : List ℕ} → (From◌To◌ 225 236 a) ⊎ (From◌To◌ 238 239 a) → Tail b → Tail c → Utf8 bs → Utf8 (a ∷ b ∷ c ∷ bs)
  three_high : {b c : ℕ} {bs : List ℕ} → From◌To◌ 128 159 b → Tail c → Utf8 bs → Utf8 (237 ∷ b ∷ c ∷ bs)
  -- "UTF8-4 = %xF0 %x90-BF 2( UTF8-tail ) / %xF1-F3 3( UTF8-tail ) / %xF4 %x80-8F 2( UTF8-tail )"
  four_low : {b c d : ℕ} {bs : List ℕ} → From◌To◌ 144 191 b → Tail c → Tail d → Utf8 bs → Utf8 (240 ∷ b ∷ c ∷ d ∷ bs)
  four : {a b c d : ℕ} {bs : List ℕ} → From◌To◌ 241 243 a → Tail b → Tail c → Tail d → Utf8 bs → Utf8 (a ∷ b ∷ c ∷ d ∷ bs)
  four_high : {b c d : ℕ} {bs : List ℕ} → From◌To◌ 128 143 b → Tail c → Tail d → Utf8 bs → Utf8 (244 ∷ b ∷ c ∷ d ∷ bs)

-- ---- the header: "HEADER = PRI VERSION SP TIMESTAMP SP HOSTNAME SP APP-NAME SP PROCID SP MSGID"

-- "PRI = "<" PRIVAL ">"", "PRIVAL = 1*3DIGIT ; range 0 .. 191"; "The only time a value of "0" follows the "<" is for the Priority
-- value of "0". Otherwise, leading "0"s MUST NOT be used."
pub record PriVal (digits : List ℕ) : Type 0 where
  pub each : EachByte DIGIT digits
  pub zeros : (digits ≡ 48 ∷ []) ⊎ NonzeroFirst digits
  pub some : 1 ≤ length digits
  pub few : length digits ≤ 3
  pub range : number_said digits ≤ 191

-- "The Priority value is calculated by first multiplying the Facility number by 8 and then adding the numerical value of the
-- Severity."; facilities are 0 to 23 (table 1), severities 0 to 7 (table 2)
pub record Priority (value facility severity : ℕ) : Type 0 where
  pub is : value ≡ facility * 8 + severity
  pub facilities : facility ≤ 23
  pub severities : severity ≤ 7

-- "VERSION = NONZERO-DIGIT 0*2DIGIT"
pub data Version : List ℕ → Type 0 where
  version : {b : ℕ} {bs : List ℕ} → NONZERO-DIGIT b → EachByte DIGIT bs → length bs ≤ 2 → Version (b ∷ bs)

-- "HOSTNAME = NILVALUE / 1*255PRINTUSASCII", and the same of the others with their own width: nil is printable too
pub record Printable (most : ℕ) (text : List ℕ) : Type 0 where
  pub each : EachByte PRINTUSASCII text
  pub some : 1 ≤ length text
  pub few : length text ≤ most

-- "APP-NAME = NILVALUE / 1*48PRINTUSASCII", "PROCID = NILVALUE / 1*128PRINTUSASCII", "MSGID = NILVALUE / 1*32PRINTUSASCII"
abbrev pub Hostname : List ℕ → Type 0
Hostname = Printable 255

abbrev pub AppName : List ℕ → Type 0
AppName = Printable 48

abbrev pub ProcId : List ℕ → Type 0
ProcId = Printable 128

abbrev pub MsgId : List ℕ → Type 0
MsgId = Printable 32

-- "2DIGIT" with a range
pub record TwoDigits (least most : ℕ) (digits : List ℕ) : Type 0 where
  pub each : EachByte DIGIT digits
  pub two : length digits ≡ 2
  pub range : From◌To◌ least most (number_said digits)

-- "TIME-SECFRAC = "." 1*6DIGIT", which may be left out
pub data Fraction : List ℕ → Type 0 where
  left_out : Fraction []
  fraction : {bs : List ℕ} → EachByte DIGIT bs → 1 ≤ length bs → length bs ≤ 6 → Fraction (46 ∷ bs)

-- "TIME-OFFSET = "Z" / TIME-NUMOFFSET", "TIME-NUMOFFSET = ("+" / "-") TIME-HOUR ":" TIME-MINUTE"
pub data Offset : List ℕ → Type 0 where
  utc : Offset (90 ∷ [])
  offset : {sign : ℕ} {text : List ℕ} (hour minute : List ℕ) → (sign ≡ 43) ⊎ (sign ≡ 45) → TwoDigits 0 23 hour → TwoDigits 0 59 minute
      → text ≡ hour ++ (58 ∷ minute) → Offset (sign ∷ text)

-- "DATE-MDAY = 2DIGIT ; 01-28, 01-29, 01-30, 01-31 based on month/year"
unfoldable pub is_leap : ℕ → Bool
is_leap year = cond (eqb (year % 400) 0) true (cond (eqb (year % 100) 0) false (eqb (year % 4) 0))

unfoldable pub days_of : ℕ → ℕ → ℕ
days_of year month =
    cond (eqb month 2) (cond (is_leap year) 29 28) (cond (eqb month 4) 30 (cond (eqb month 6) 30 (cond (eqb month 9) 30 (cond (eqb month 11) 30 31))))

-- "FULL-DATE "T" FULL-TIME", "FULL-DATE = DATE-FULLYEAR "-" DATE-MONTH "-" DATE-MDAY", "FULL-TIME = PARTIAL-TIME TIME-OFFSET",
-- "PARTIAL-TIME = TIME-HOUR ":" TIME-MINUTE ":" TIME-SECOND [TIME-SECFRAC]"
pub record Moment (text : List ℕ) : Type 0 where
  pub year : List ℕ
  pub month : List ℕ
  pub day : List ℕ
  pub hour : List ℕ
  pub minute : List ℕ
  pub second : List ℕ
  pub parts_of_second : List ℕ
  pub zone : List ℕ
  pub is : text ≡ year ++ (45 ∷ (month ++ (45 ∷ (day ++ (84 ∷ (hour ++ (58 ∷ (minute ++ (58 ∷ (second ++ (parts_of_second ++ zone)))))))))))
  pub four_digits : length year ≡ 4
  pub years : EachByte DIGIT year
  pub months : TwoDigits 1 12 month
  pub days : TwoDigits 1 (days_of (number_said year) (number_said month)) day
  pub hours : TwoDigits 0 23 hour
  pub minutes : TwoDigits 0 59 minute
  pub seconds : TwoDigits 0 59 second
  pub fractions : Fraction parts_of_second
  pub zones : Offset zone

-- "TIMESTAMP = NILVALUE / FULL-DATE "T" FULL-TIME"
abbrev pub Timestamp : List ℕ → Type 0
Timestamp text = (text ≡ nil_value) ⊎ Moment text

-- ---- structured data

-- "SD-NAME = 1*32PRINTUSASCII ; except '=', SP, ']', %d34 (")"
abbrev pub NameByte : ℕ → Type 0
NameByte b = PRINTUSASCII b × (b ≡ 61 → ⊥) × (b ≡ 93 → ⊥) × (b ≡ 34 → ⊥)

pub record SdName (text : List ℕ) : Type 0 where
  pub each : EachByte NameByte text
  pub some : 1 ≤ length text
  pub few : length text ≤ 32

-- "PARAM-VALUE = UTF-8-STRING ; characters '"', '\' and ']' MUST be escaped."
abbrev pub MustBeEscaped : ℕ → Type 0
MustBeEscaped b = (b ≡ 34) ⊎ (b ≡ 92) ⊎ (b ≡ 93)

pub data Escaped : List ℕ → Type 0 where
  no_more : Escaped []
  plain : {b : ℕ} {bs : List ℕ} → (MustBeEscaped b → ⊥) → Escaped bs → Escaped (b ∷ bs)
  escaped : {b : ℕ} {bs : List ℕ} → MustBeEscaped b → Escaped bs → Escaped (92 ∷ b ∷ bs)

-- "*(SP SD-PARAM)", "SD-PARAM = PARAM-NAME "=" %d34 PARAM-VALUE %d34", "PARAM-NAME = SD-NAME"
pub data Params : List ℕ → Type 0 where
  no_more : Params []
  param : {text : List ℕ} (name value rest : List ℕ) → SdName name → Utf8 value → Escaped value → Params rest
      → text ≡ name ++ (61 ∷ 34 ∷ (value ++ (34 ∷ rest))) → Params (32 ∷ text)

-- a name is none of these
pub data NotAmong (name : List ℕ) : List (List ℕ) → Type 0 where
  no_more : NotAmong name []
  nor : {other : List ℕ} {others : List (List ℕ)} → (name ≡ other → ⊥) → NotAmong name others → NotAmong name (other ∷ others)

-- "SD-ELEMENT = "[" SD-ID *(SP SD-PARAM) "]"", "SD-ID = SD-NAME"; some of them, with these names, one behind the other: "The same SD-ID
-- MUST NOT exist more than once in a message."
pub data Elements : List (List ℕ) → List ℕ → Type 0 where
  no_more : Elements [] []
  element : {names : List (List ℕ)} {text : List ℕ} (name params rest : List ℕ) → SdName name → NotAmong name names → Params params
      → Elements names rest → text ≡ name ++ (params ++ (93 ∷ rest)) → Elements (name ∷ names) (91 ∷ text)

-- "STRUCTURED-DATA = NILVALUE / 1*SD-ELEMENT"
abbrev pub StructuredData : List ℕ → Type 0
StructuredData text = (text ≡ nil_value) ⊎ ((names : List (List ℕ)) × Elements names text × (1 ≤ length names))

-- ---- the message

-- "MSG = MSG-ANY / MSG-UTF8", "MSG-ANY = *OCTET ; not starting with BOM", "MSG-UTF8 = BOM UTF-8-STRING", "BOM = %xEF.BB.BF"
abbrev pub bom : List ℕ → List ℕ
bom text = 239 ∷ 187 ∷ 191 ∷ text

pub data Msg (text : List ℕ) : Type 0 where
  any : EachByte OCTET text → ((rest : List ℕ) → text ≡ bom rest → ⊥) → Msg text
  utf8 : (rest : List ℕ) → text ≡ bom rest → Utf8 rest → Msg text

-- "[SP MSG]"
pub data OptionalMsg : List ℕ → Type 0 where
  no_msg : OptionalMsg []
  msg : {text : List ℕ} → Msg text → OptionalMsg (32 ∷ text)

-- the parts of a message, as text; `ending` is "[SP MSG]", the blank with the MSG, or nothing
pub record SyslogMsg : Type 0 where
  pub pri : List ℕ
  pub version : List ℕ
  pub timestamp : List ℕ
  pub hostname : List ℕ
  pub app_name : List ℕ
  pub procid : List ℕ
  pub msgid : List ℕ
  pub structured_data : List ℕ
  pub ending : List ℕ

-- "SYSLOG-MSG = HEADER SP STRUCTURED-DATA [SP MSG]"
abbrev pub msg_text : SyslogMsg → List ℕ
msg_text m =
    60 ∷ (m.pri ++ (62 ∷ (m.version ++ (32 ∷ (m.timestamp ++ (32 ∷ (m.hostname ++ (32 ∷ (m.app_name ++ (32 ∷ (m.procid
    ++ (32 ∷ (m.msgid ++ (32 ∷ (m.structured_data ++ m.ending)))))))))))))))

-- a text is a message with these parts
pub record IsSyslogMsg (text : List ℕ) (m : SyslogMsg) : Type 0 where
  pub is : text ≡ msg_text m
  pub pri : PriVal m.pri
  pub version : Version m.version
  pub timestamp : Timestamp m.timestamp
  pub hostname : Hostname m.hostname
  pub app_name : AppName m.app_name
  pub procid : ProcId m.procid
  pub msgid : MsgId m.msgid
  pub structured_data : StructuredData m.structured_data
  pub ending : OptionalMsg m.ending

-- ---- the frame: RFC 6587, 3.4.1

-- "MSG-LEN = NONZERO-DIGIT *DIGIT"
abbrev pub MsgLen : List ℕ → Type 0
MsgLen = NonzeroFirst

-- "SYSLOG-FRAME = MSG-LEN SP SYSLOG-MSG"; "MSG-LEN is the octet count of the SYSLOG-MSG in the SYSLOG-FRAME."
pub record IsFrame (text : List ℕ) (m : SyslogMsg) : Type 0 where
  pub count : List ℕ
  pub message : List ℕ
  pub is : text ≡ count ++ (32 ∷ message)
  pub digits : MsgLen count
  pub octets : number_said count ≡ length message
  pub a_message : IsSyslogMsg message m

-- "TCP-DATA = *SYSLOG-FRAME"
pub data TcpData : List ℕ → Type 0 where
  no_more : TcpData []
  frame : {text : List ℕ} (first rest : List ℕ) (m : SyslogMsg) → IsFrame first m → TcpData rest → text ≡ first ++ rest → TcpData text
