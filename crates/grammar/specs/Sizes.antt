-- How long a sheet may be, and a number in it. 01, "The panel's part" and "Site sheet".
use Rattle.std.specs.Prelude.{ℕ}

-- "A sheet is at most 49,152 bytes."
abbrev pub limit : ℕ
limit = 49152

-- "A number is 1 to 3 digits with no needless leading zero."
abbrev pub width : ℕ
width = 3
