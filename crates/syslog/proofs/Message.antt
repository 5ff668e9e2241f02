-- A line is a message by RFC 5424, a frame one by RFC 6587. Assumes nothing.
use Prim.Native.Nat.{ℕ, ◌+◌, ◌*◌, ◌≤◌}
use mathlib.Core.Path.{◌≡◌, refl, ap}
use mathlib.Core.Bool.{Bool, true}
use mathlib.Core.List.{List, [], ◌∷◌}
use mathlib.Core.Logic.{inl, inr}
use native.Mathlib.Omega.{arith}
use lib.ListN.{length}
use lib.Dec.{leb}
use borrow.Author.Tests.{leb-true}
use Rattle.tables.specs.Tables.{and_also}
use Rattle.tables.proofs.Laws.{and_left, and_right}
use Rattle.text.specs.Text.{decimal}
use Rattle.syslog.specs.declared.Msgid.{Msgid}
use Rattle.syslog.specs.declared.Msgid.TheVariants.{Grant, Deny, Pass, Lapse}
use Rattle.syslog.specs.declared.LineEvent.{LineEvent}
use Rattle.syslog.specs.Line.{facility, severity_of, name_of, door_mark, person_mark, reason_mark, held_mark, held_part, reason_part, message_of, line_of, framed_of, stream_of}
use Rattle.syslog.specs.Rfc as rfc
use Rattle.syslog.specs.Rfc.{EachByte, no_more, and, From◌To◌, OCTET, PriVal, version, Printable, MsgId, Msg, any, msg, nil_value, TcpData}
use Rattle.syslog.specs.Claims.{parts_of, LineIsRfc5424, FrameIsRfc6587}
use Rattle.syslog.proofs.Digits.{said_back, each_both, each_digit, count_digits}
use Rattle.syslog.proofs.Lengths.{by_held, line_least}
use Rattle.text.proofs.Decimal.{decimal_some, digits_most}

-- ---- each byte of a text, by a test

unfoldable pub all_within : ℕ → ℕ → List ℕ → Bool
all_within least most [] = true
all_within least most (b ∷ bs) = and_also (and_also (leb least b) (leb b most)) (all_within least most bs)

pub each_within : (least most : ℕ) (bs : List ℕ) → all_within least most bs ≡ true → EachByte (From◌To◌ least most) bs
unfolding all_within
each_within least most [] e = no_more
each_within least most (b ∷ bs) e =
    let here = and_left (and_also (leb least b) (leb b most)) (all_within least most bs) e in
    and (leb-true least b (and_left (leb least b) (leb b most) here), leb-true b most (and_right (leb least b) (leb b most) here))
    (each_within least most bs (and_right (and_also (leb least b) (leb b most)) (all_within least most bs) e))

pub each_wider : {P Q : ℕ → Type 0} {bs : List ℕ} → ((b : ℕ) → P b → Q b) → EachByte P bs → EachByte Q bs
each_wider wide no_more = no_more
each_wider wide (and {b} p on) = and (wide b p) (each_wider wide on)

octets : (bs : List ℕ) → all_within 0 255 bs ≡ true → EachByte OCTET bs
octets bs e = each_wider (λ b h. h.1) (each_within 0 255 bs e)

number_octets : (n : ℕ) → EachByte OCTET (decimal n)
number_octets n = each_wider (λ b h. omega (arith, h.1)) (each_digit n)

-- ---- the parts

severity_few : (m : Msgid) → severity_of m ≤ 7
severity_few Grant = omega arith
severity_few Deny = omega arith
severity_few Pass = omega arith
severity_few Lapse = omega arith

pri_is : (n : ℕ) → 1 ≤ n → n ≤ 191 → PriVal (decimal n)
pri_is n l h = record { each = each_digit n; zeros = inr (count_digits n l); some = decimal_some n; few = digits_most 2 n (omega arith); range = rw (said_back n) (omega arith) }

nil_is : (most : ℕ) → 1 ≤ most → Printable most nil_value
nil_is most h = record { each = and {b = 45} (omega arith, omega arith) no_more; some = omega arith; few = h }

name_is : (m : Msgid) → MsgId (name_of m)
unfolding all_within and_also
name_is Grant = record { each = each_within 33 126 (name_of Grant) refl; some = omega arith; few = omega arith }
name_is Deny = record { each = each_within 33 126 (name_of Deny) refl; some = omega arith; few = omega arith }
name_is Pass = record { each = each_within 33 126 (name_of Pass) refl; some = omega arith; few = omega arith }
name_is Lapse = record { each = each_within 33 126 (name_of Lapse) refl; some = omega arith; few = omega arith }

held_octets : (reason held : ℕ) → EachByte OCTET (held_part reason held)
unfolding all_within and_also
held_octets reason held =
    by_held (EachByte OCTET) reason held (λ _. each_both (octets held_mark refl) (number_octets held)) (λ _. no_more)

reason_octets : (m : Msgid) (reason held : ℕ) → EachByte OCTET (reason_part m reason held)
unfolding all_within and_also
reason_octets Grant reason held = no_more
reason_octets Deny reason held = each_both (octets reason_mark refl) (each_both (number_octets reason) (held_octets reason held))
reason_octets Pass reason held = no_more
reason_octets Lapse reason held = no_more

message_octets : (e : LineEvent) → EachByte OCTET (message_of e)
unfolding all_within and_also
message_octets e =
    each_both (octets door_mark refl)
    (each_both (number_octets e.door) (each_both (octets person_mark refl) (each_both (number_octets e.person) (reason_octets e.msgid e.reason e.held))))

-- "MSG-ANY = *OCTET ; not starting with BOM"
message_is : (e : LineEvent) → Msg (message_of e)
message_is e = any (message_octets e) (λ rest is. let z : ◌≡◌ {A = ℕ} 100 239 = ap first is in omega arith)
  where
    first : List ℕ → ℕ
    first [] = 0
    first (b ∷ bs) = b

-- ---- the whole

pub line_message : (e : LineEvent) → LineIsRfc5424 e
unfolding line_of
line_message e =
    let few = severity_few e.msgid in
    record {
      message =
          record {
            is = refl;
            pri = pri_is (facility * 8 + severity_of e.msgid) (omega arith) (omega arith);
            version = version {b = 49} (omega arith, omega arith) no_more (omega arith);
            timestamp = inl refl;
            hostname = nil_is 255 (omega arith);
            app_name = nil_is 48 (omega arith);
            procid = nil_is 128 (omega arith);
            msgid = name_is e.msgid;
            structured_data = inl refl;
            ending = msg (message_is e);
          };
      priority = record { is = said_back (facility * 8 + severity_of e.msgid); facilities = omega arith; severities = few };
    }

pub frame_frame : (e : LineEvent) → FrameIsRfc6587 e
unfolding framed_of
frame_frame e =
    let l = line_least e in
    record {
      frame =
          record {
            count = decimal (length (line_of e));
            message = line_of e;
            is = refl;
            digits = count_digits (length (line_of e)) (omega arith);
            octets = said_back (length (line_of e));
            a_message = (line_message e).message;
          };
      count = refl;
      line = refl;
    }

pub stream_data : (es : List LineEvent) → TcpData (stream_of es)
unfolding stream_of
stream_data [] = rfc.TcpData.no_more
stream_data (e ∷ es) = rfc.frame (framed_of e) (stream_of es) (parts_of e) (frame_frame e).frame (stream_data es) refl
