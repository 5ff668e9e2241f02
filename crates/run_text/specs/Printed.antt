-- The two texts: what `panel` prints and what `where` prints. 01, "Program and one whole run".
use Rattle.std.specs.Prelude.{ℕ, ◌+◌, ◌*◌, Bool, true, false, cond, List, [], ◌∷◌, ◌++◌, length, take, eqb}
use Rattle.numbers.specs.Numbers.{done_no, too_long_no, bad_form_no}
use Rattle.text.specs.Text.{row_of_numbers}
use Rattle.record.specs.declared.record.Record.{Record}
use Rattle.record.specs.Run.{Reply, last_of, replies_of}
use Rattle.site_sheet.specs.Site.{SiteRead}
use Rattle.site_sheet.specs.Site.{site_of, verdict_no}
use Rattle.steps_sheet.specs.Heading.{Heading}
use Rattle.steps_sheet.specs.Heading.{TooLong, Wrong, Rows}
use Rattle.steps_sheet.specs.Says.{Steps}
use Rattle.steps_sheet.specs.Steps.{heading_of, steps_from}
use Rattle.run_text.specs.declared.serve.Served.{Served}

-- "the header `row,answer,phase,reason`", and "every row the run prints gains a last column `held`" (02, C-12): `row,answer,phase,reason,held`
abbrev pub panel_header : List ℕ
panel_header =
    114 ∷ 111 ∷ 119 ∷ 44 ∷ 97 ∷ 110 ∷ 115 ∷ 119 ∷ 101 ∷ 114 ∷ 44 ∷ 112 ∷ 104 ∷ 97 ∷ 115 ∷ 101 ∷ 44 ∷ 114 ∷ 101 ∷ 97 ∷ 115 ∷ 111 ∷ 110 ∷ 44 ∷ 104
    ∷ 101 ∷ 108 ∷ 100 ∷ 13 ∷ 10 ∷ []

-- "header `person,location`"
abbrev pub where_header : List ℕ
where_header = 112 ∷ 101 ∷ 114 ∷ 115 ∷ 111 ∷ 110 ∷ 44 ∷ 108 ∷ 111 ∷ 99 ∷ 97 ∷ 116 ∷ 105 ∷ 111 ∷ 110 ∷ 13 ∷ 10 ∷ []

-- a row of what `panel` prints
abbrev pub panel_row : ℕ → ℕ → ℕ → ℕ → ℕ → List ℕ
panel_row n answer phase reason held = row_of_numbers n (answer ∷ phase ∷ reason ∷ held ∷ [])

-- "a row for each data row", from row n on: its number, its answer, its phase, its reason and the door told with it
unfoldable pub answer_rows : ℕ → List Reply → List ℕ
answer_rows n [] = []
answer_rows n (reply ∷ replies) = panel_row n reply.answer reply.phase reply.reason reply.held ++ answer_rows (n + 1) replies

-- four lent lists are a list of replies: each one's answer, phase, reason and held door
unfoldable pub replies_from : List ℕ → List ℕ → List ℕ → List ℕ → List Reply
replies_from [] phases reasons held = []
replies_from (a ∷ answers) [] reasons held = []
replies_from (a ∷ answers) (p ∷ phases) [] held = []
replies_from (a ∷ answers) (p ∷ phases) (why ∷ reasons) [] = []
replies_from (a ∷ answers) (p ∷ phases) (why ∷ reasons) (d ∷ held) =
    record { answer = a; phase = p; reason = why; held = d } ∷ replies_from answers phases reasons held

-- "A row of form 2 is printed `row,2,0,0` and ends the run.", with the column
abbrev pub last_row : Bool → ℕ → List ℕ
last_row true n = []
last_row false n = panel_row n bad_form_no 0 0 0

-- the text of a run: its replies, and the row of bad form that ended it, if one did
unfoldable pub run_text : List Reply → Bool → List ℕ
run_text replies whole = panel_header ++ (answer_rows 1 replies ++ last_row whole (length replies + 1))

-- the most bytes of the text of a run of so many steps: the header has 30, and each row, that of bad form too, at most 15
abbrev pub most_run_text : ℕ → ℕ
most_run_text steps = 30 + 15 * (steps + 1)

-- "each stands alone after the header"
unfoldable pub alone_text : ℕ → List ℕ
alone_text number = panel_header ++ panel_row 0 number 0 0 0

-- the record after the steps of a sheet, how many there were, and whether the sheet ends behind them
abbrev pub served_of : Record → Steps → Served
served_of r steps = record { next = last_of r steps.rows; count = length steps.rows; whole = steps.whole }

-- the steps of a sheet, run from a record and printed
abbrev pub ran_text : Record → Steps → List ℕ
ran_text r steps = run_text (replies_of r steps.rows) steps.whole

-- "A wrong header is `0,2,0,0`, a long steps sheet `0,1,0,0`", each with the column
abbrev pub steps_text : Record → List ℕ → Heading → List ℕ
steps_text r steps TooLong = alone_text too_long_no
steps_text r steps Wrong = alone_text bad_form_no
steps_text r steps (Rows from) = ran_text r (steps_from steps from)

-- "and a refused site sheet `0,N,0,0` with its number; .. the site's before the steps'", with the column
abbrev pub site_text : SiteRead → List ℕ → List ℕ
site_text read steps =
    cond (eqb (verdict_no read.verdict) done_no) (steps_text read.«record» steps (heading_of steps)) (alone_text (verdict_no read.verdict))

-- What `panel` prints.
unfoldable pub panel_text : List ℕ → List ℕ → List ℕ
panel_text site steps = site_text (site_of site) steps

-- "each person after the run", from person n on
unfoldable pub place_rows : ℕ → List ℕ → List ℕ
place_rows n [] = []
place_rows n (l ∷ places) = row_of_numbers n (l ∷ []) ++ place_rows (n + 1) places

unfoldable pub places_text : List ℕ → List ℕ
places_text places = where_header ++ place_rows 0 places

-- the people of the site, each where the record has them
abbrev pub record_text : Record → List ℕ
record_text r = places_text (take r.people r.place)

-- "with a long or wrongly headed steps sheet everyone is at 0": the fresh record
abbrev pub last_record : Record → List ℕ → Heading → Record
last_record r steps TooLong = r
last_record r steps Wrong = r
last_record r steps (Rows from) = last_of r (steps_from steps from).rows

-- "with a refused site sheet it prints only the header"
abbrev pub site_where : SiteRead → List ℕ → List ℕ
site_where read steps =
    cond (eqb (verdict_no read.verdict) done_no) (record_text (last_record read.«record» steps (heading_of steps))) (places_text [])

-- What `where` prints.
unfoldable pub where_text : List ℕ → List ℕ → List ℕ
where_text site steps = site_where (site_of site) steps
