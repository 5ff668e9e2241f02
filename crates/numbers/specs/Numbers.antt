-- The papers' numbers, each under one name. 01, "Numbers given back": the column "No.", and beside each what it is given for;
-- the later ones are of 02.
use Rattle.std.specs.Prelude.{ℕ}

-- "done"
abbrev pub done_no : ℕ
done_no = 0

-- "sheet over 49,152 bytes"
abbrev pub too_long_no : ℕ
too_long_no = 1

-- "row of bad form, unknown kind or step, wrong header"
abbrev pub bad_form_no : ℕ
bad_form_no = 2

-- "a number outside the ranges above, a door from a location to itself, a 65th door"
abbrev pub out_of_range_no : ℕ
out_of_range_no = 3

-- "second `site`, second exit of a location, same right again"
abbrev pub twice_no : ℕ
twice_no = 4

-- "first data row is absent or not `site`"
abbrev pub no_site_no : ℕ
no_site_no = 5

-- "a location has no exit"
abbrev pub no_exit_no : ℕ
no_exit_no = 6

-- "exits from a location never reach 0"
abbrev pub stray_no : ℕ
stray_no = 7

-- "exit with no door"
abbrev pub no_door_no : ℕ
no_door_no = 8

-- "right to l but not to its exit"
abbrev pub no_right_no : ℕ
no_right_no = 9

-- "person has no first location from outside"
abbrev pub shut_out_no : ℕ
shut_out_no = 10

-- "no such door, person or location"
abbrev pub no_such_no : ℕ
no_such_no = 11

-- "this door's phase doesn't allow the step"
abbrev pub not_allowed_no : ℕ
not_allowed_no = 12

-- "list lent for a way out is shorter than the way"; the same of every list that something is to be written into
abbrev pub too_short_no : ℕ
too_short_no = 13

-- "unsound record"
abbrev pub unsound_no : ℕ
unsound_no = 14

-- 02, C-11: "reading, 15 if the bytes aren't such a line"
abbrev pub not_aline_no : ℕ
not_aline_no = 15
