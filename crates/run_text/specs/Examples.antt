-- The run that 01 prints ("Program and one whole run"), from the bytes of its two sheets to the bytes of the two texts; and small
-- runs beside it, one for each way to end early.
use Rattle.std.specs.Prelude.{ℕ, ◌+◌, ◌≡◌, List, [], ◌∷◌, ◌++◌}
use Rattle.site_lines.specs.Line.{site_word, door_word, exit_word, right_word, kind_head, a_head, b_head}
use Rattle.steps_sheet.specs.Words.{card_word, decide_word, green_word, red_word, walk_word, passed_word, step_head, person_head}
use Rattle.run_text.specs.Printed.{panel_text, where_text}

-- a row in bytes: three fields with commas (44) between, and CRLF (13, 10)
abbrev pub row_of_bytes : List ℕ → List ℕ → List ℕ → List ℕ
row_of_bytes a b c = a ++ (44 ∷ (b ++ (44 ∷ (c ++ (13 ∷ 10 ∷ [])))))

-- a digit in bytes: 48 is `0`
abbrev pub one_digit : ℕ → List ℕ
one_digit n = (48 + n) ∷ []

-- ---- the site sheet

abbrev pub line : List ℕ → ℕ → ℕ → List ℕ → List ℕ
line word a b more = row_of_bytes word (one_digit a) (one_digit b) ++ more

-- `kind,a,b`
abbrev pub site_header : List ℕ
site_header = row_of_bytes kind_head a_head b_head

-- and `site,2,3`
abbrev pub top : List ℕ → List ℕ
top more = site_header ++ line site_word 2 3 more

-- "site.csv rows after the header: `site,2,3` `door,0,1` `door,1,2` `door,2,1` `door,1,0` `exit,1,0` `exit,2,1` `right,0,1`
-- `right,0,2` `right,1,1`."
abbrev pub four_doors : List ℕ → List ℕ
four_doors more = line door_word 0 1 (line door_word 1 2 (line door_word 2 1 (line door_word 1 0 more)))

abbrev pub two_exits : List ℕ → List ℕ
two_exits more = line exit_word 1 0 (line exit_word 2 1 more)

abbrev pub three_rights : List ℕ
three_rights = line right_word 0 1 (line right_word 0 2 (line right_word 1 1 []))

abbrev pub site_sheet : List ℕ
site_sheet = top (four_doors (two_exits three_rights))

-- ---- the steps sheet

-- `step,door,person`
abbrev pub steps_header : List ℕ → List ℕ
steps_header more = row_of_bytes step_head door_word person_head ++ more

-- a step at a door; the person is empty
abbrev pub at_door : List ℕ → ℕ → List ℕ → List ℕ
at_door word d more = row_of_bytes word (one_digit d) [] ++ more

abbrev pub card_row : ℕ → ℕ → List ℕ → List ℕ
card_row d p more = row_of_bytes card_word (one_digit d) (one_digit p) ++ more

-- "steps.csv rows after the header: `card,0,0` `decide,0,` `green,0,` `walk,0,` `card,1,0` `decide,1,` `passed,0,` `red,1,`
-- `decide,0,` `card,9,0`."
abbrev pub steps_sheet : List ℕ
steps_sheet =
    steps_header
    (card_row 0 0
    (at_door decide_word 0
    (at_door green_word 0
    (at_door walk_word 0 (card_row 1 0 (at_door decide_word 1 (at_door passed_word 0 (at_door red_word 1 (at_door decide_word 0 (card_row 9 0 []))))))))))

-- ---- the two texts

-- `row,answer,phase,reason,held`
abbrev pub panel_top : List ℕ → List ℕ
panel_top more =
    114 ∷ 111 ∷ 119 ∷ 44 ∷ 97 ∷ 110 ∷ 115 ∷ 119 ∷ 101 ∷ 114 ∷ 44 ∷ 112 ∷ 104 ∷ 97 ∷ 115 ∷ 101 ∷ 44 ∷ 114 ∷ 101 ∷ 97 ∷ 115 ∷ 111 ∷ 110 ∷ 44 ∷ 104
    ∷ 101 ∷ 108 ∷ 100 ∷ 13 ∷ 10 ∷ more

-- `person,location`
abbrev pub where_top : List ℕ → List ℕ
where_top more = 112 ∷ 101 ∷ 114 ∷ 115 ∷ 111 ∷ 110 ∷ 44 ∷ 108 ∷ 111 ∷ 99 ∷ 97 ∷ 116 ∷ 105 ∷ 111 ∷ 110 ∷ 13 ∷ 10 ∷ more

-- a row of five numbers of one digit, and a row of two
abbrev pub five : ℕ → ℕ → ℕ → ℕ → ℕ → List ℕ → List ℕ
five a b c d e more = (48 + a) ∷ 44 ∷ (48 + b) ∷ 44 ∷ (48 + c) ∷ 44 ∷ (48 + d) ∷ 44 ∷ (48 + e) ∷ 13 ∷ 10 ∷ more

abbrev pub two : ℕ → ℕ → List ℕ → List ℕ
two a b more = (48 + a) ∷ 44 ∷ (48 + b) ∷ 13 ∷ 10 ∷ more

-- the last two rows, `9,12,9,0,0` and `10,11,0,0,0`
abbrev pub last_two : List ℕ
last_two =
    57 ∷ 44 ∷ 49 ∷ 50 ∷ 44 ∷ 57 ∷ 44 ∷ 48 ∷ 44 ∷ 48 ∷ 13 ∷ 10 ∷ 49 ∷ 48 ∷ 44 ∷ 49 ∷ 49 ∷ 44 ∷ 48 ∷ 44 ∷ 48 ∷ 44 ∷ 48 ∷ 13 ∷ 10 ∷ []

abbrev pub panel_of01 : List ℕ
panel_of01 =
    panel_top (five 1 0 1 0 0 (five 2 0 2 0 0 (five 3 0 3 0 0 (five 4 0 4 0 0 (five 5 0 1 0 0 (five 6 0 6 1 0 (five 7 0 9 0 0 (five 8 0 7 0 0 last_two))))))))

-- ---- and small runs

-- `walk,0,5`, a step with a person that it mustn't have, and a step behind it
abbrev pub bad_row : List ℕ
bad_row = steps_header (card_row 0 0 (row_of_bytes walk_word (one_digit 0) (one_digit 5) ++ at_door decide_word 0 []))

pub record Examples : Type 0 where
  -- 01's whole run, and "`where` then prints `0,1` and `1,0`."
  pub panel_of_01 : panel_text site_sheet steps_sheet ≡ panel_of01
  pub where_of_01 : where_text site_sheet steps_sheet ≡ where_top (two 0 1 (two 1 0 []))
  -- "A row of form 2 is printed `row,2,0,0` and ends the run.", here and below with the column
  pub bad_row_first : panel_text site_sheet bad_row ≡ panel_top (five 1 0 1 0 0 (five 2 2 0 0 0 []))
  -- "A wrong header is `0,2,0,0`": an empty sheet has none. "with a long or wrongly headed steps sheet everyone is at 0"
  pub wrong_header : panel_text site_sheet [] ≡ panel_top (five 0 2 0 0 0 [])
  pub wrong_header_where : where_text site_sheet [] ≡ where_top (two 0 0 (two 1 0 []))
  -- "and a refused site sheet `0,N,0,0` with its number; .. the site's before the steps'": a header alone is 5.
  -- "with a refused site sheet it prints only the header"
  pub refused_site_lem : panel_text site_header [] ≡ panel_top (five 0 5 0 0 0 [])
  pub refused_site_where : where_text site_header [] ≡ where_top []
