-- The number of a verdict and its places. 01, "Numbers given back".
use Rattle.std.specs.Prelude.{ℕ}
use Rattle.numbers.specs.Numbers.{done_no, too_long_no, bad_form_no, out_of_range_no, twice_no, no_site_no, no_exit_no, stray_no, no_door_no, no_right_no, shut_out_no}
use Rattle.verdict.specs.declared.SiteRefused.{SiteRefused}
use Rattle.verdict.specs.Verdict.{Verdict, said_of}
use Rattle.verdict.specs.Verdict.{Accepted, TooLong, BadRow, OutOfRange, Twice, NoSite, NoExit, Stray, NoDoor, NoRight, ShutOut}

-- the table "Numbers given back", columns "No." and "Place told"
abbrev pub verdict_no : Verdict → ℕ
verdict_no Accepted = done_no
verdict_no TooLong = too_long_no
verdict_no (BadRow n) = bad_form_no
verdict_no (OutOfRange n) = out_of_range_no
verdict_no (Twice n) = twice_no
verdict_no NoSite = no_site_no
verdict_no (NoExit l) = no_exit_no
verdict_no (Stray l) = stray_no
verdict_no (NoDoor l) = no_door_no
verdict_no (NoRight p l) = no_right_no
verdict_no (ShutOut p) = shut_out_no

abbrev pub first_place : Verdict → ℕ
first_place Accepted = 0
first_place TooLong = 0
first_place (BadRow n) = n
first_place (OutOfRange n) = n
first_place (Twice n) = n
first_place NoSite = 1
first_place (NoExit l) = l
first_place (Stray l) = l
first_place (NoDoor l) = l
first_place (NoRight p l) = p
first_place (ShutOut p) = p

-- "Unused place numbers are 0."
abbrev pub second_place : Verdict → ℕ
second_place Accepted = 0
second_place TooLong = 0
second_place (BadRow n) = 0
second_place (OutOfRange n) = 0
second_place (Twice n) = 0
second_place NoSite = 0
second_place (NoExit l) = 0
second_place (Stray l) = 0
second_place (NoDoor l) = 0
second_place (NoRight p l) = l
second_place (ShutOut p) = 0

-- the number of a refusal
abbrev pub site_refused_no : SiteRefused → ℕ
site_refused_no refusal = verdict_no (said_of refusal)
