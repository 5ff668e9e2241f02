-- What is said of a site sheet: that it is accepted, or why it is refused.
use Rattle.std.specs.Prelude.{ℕ, Result, Ok, Err}
use Rattle.verdict.specs.declared.SiteRefused.{SiteRefused}
use Rattle.verdict.specs.declared.SiteRefused.TheVariants as refused

-- the rows of the table "Numbers given back" that speak of a site sheet, each with the place that is told
pub data Verdict : Type 0 where
  Accepted : Verdict
  TooLong : Verdict
  BadRow : ℕ → Verdict
  OutOfRange : ℕ → Verdict
  Twice : ℕ → Verdict
  NoSite : Verdict
  NoExit : ℕ → Verdict
  Stray : ℕ → Verdict
  NoDoor : ℕ → Verdict
  NoRight : ℕ → ℕ → Verdict
  ShutOut : ℕ → Verdict

-- a refusal as it is said
abbrev pub said_of : SiteRefused → Verdict
said_of refused.TooLong = TooLong
said_of (refused.BadRow n) = BadRow n
said_of (refused.OutOfRange n) = OutOfRange n
said_of (refused.Twice n) = Twice n
said_of refused.NoSite = NoSite
said_of (refused.NoExit l) = NoExit l
said_of (refused.Stray l) = Stray l
said_of (refused.NoDoor l) = NoDoor l
said_of (refused.NoRight p l) = NoRight p l
said_of (refused.ShutOut p) = ShutOut p

-- what is handed out with a verdict: something where the sheet is accepted, and else the refusal alone
abbrev pub if_accepted : {A : Type 0} → Verdict → A → Result A SiteRefused
if_accepted Accepted there = Ok there
if_accepted TooLong there = Err refused.TooLong
if_accepted (BadRow n) there = Err (refused.BadRow n)
if_accepted (OutOfRange n) there = Err (refused.OutOfRange n)
if_accepted (Twice n) there = Err (refused.Twice n)
if_accepted NoSite there = Err refused.NoSite
if_accepted (NoExit l) there = Err (refused.NoExit l)
if_accepted (Stray l) there = Err (refused.Stray l)
if_accepted (NoDoor l) there = Err (refused.NoDoor l)
if_accepted (NoRight p l) there = Err (refused.NoRight p l)
if_accepted (ShutOut p) there = Err (refused.ShutOut p)
