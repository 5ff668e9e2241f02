-- What a site sheet says: which line each of its rows is, and what a list of lines says of the site. 01, "Site sheet".
use Rattle.std.specs.Prelude.{ℕ, ◌+◌, ◌*◌, ◌≤◌, ◌<◌, ◌≡◌, Bool, false, cond, List, [], ◌∷◌, map, length, get_or, eqb}
use Rattle.tables.specs.Tables.{or_else, and_also, most_people, most_locations, most_doors}
use Rattle.grammar.specs.Grammar.{Row, RowAt, content, fields}
use Rattle.grammar.specs.Where.{field_of}
use Rattle.cell_meaning.specs.Say.{ProperNumber}
use Rattle.site_lines.specs.declared.SiteLine.{SiteLine}
use Rattle.site_lines.specs.declared.SiteLine.TheVariants.{Site, Door, Exit, Right, Bad}
use Rattle.site_lines.specs.declared.Draft.{Draft}
use Rattle.site_lines.specs.Fault.{Fault, Form, NoSite, Range, Twice}
use Rattle.site_lines.specs.Line.{site_word, door_word, exit_word, right_word, kind_head, a_head, b_head}

-- the contents of a row's fields, whether they are quoted or not
abbrev pub contents : Row → List (List ℕ)
contents r = map content (fields r)

-- "Every row has three fields": a word, and two numbers
pub record Three (r : Row) (word : List ℕ) (a b : ℕ) : Type 0 where
  pub three : length (fields r) ≡ 3
  pub first : content (field_of 0 r) ≡ word
  pub second : ProperNumber (content (field_of 1 r)) a
  pub third : ProperNumber (content (field_of 2 r)) b

-- the words of the four kinds of rows
pub data SiteKind : List ℕ → Type 0 where
  site_kind : SiteKind site_word
  door_kind : SiteKind door_word
  exit_kind : SiteKind exit_word
  right_kind : SiteKind right_word

-- a row says a line
pub data SaysSo (r : Row) : SiteLine → Type 0 where
  a_site : {p l : ℕ} → Three r site_word p l → SaysSo r (Site p l)
  a_door : {o t : ℕ} → Three r door_word o t → SaysSo r (Door o t)
  an_exit : {l m : ℕ} → Three r exit_word l m → SaysSo r (Exit l m)
  a_right : {p l : ℕ} → Three r right_word p l → SaysSo r (Right p l)
  -- 2: "row of bad form, unknown kind"
  bad_form : ((word : List ℕ) (a b : ℕ) → SiteKind word → Three r word a b → ⊥) → SaysSo r Bad

-- "The header row is `kind,a,b`."
pub record SiteHeaderRow (r : Row) : Type 0 where
  pub three : length (fields r) ≡ 3
  pub first : content (field_of 0 r) ≡ kind_head
  pub second : content (field_of 1 r) ≡ a_head
  pub third : content (field_of 2 r) ≡ b_head

-- the rows of a text say these lines; a text that goes on with no row ends in a line of bad form
pub data TextSaysLines : List ℕ → List SiteLine → Type 0 where
  nothing : TextSaysLines [] []
  a_row : {text : List ℕ} {r : Row} {rest : List ℕ} {line : SiteLine} {lines : List SiteLine} → RowAt text r rest → SaysSo r line
      → TextSaysLines rest lines → TextSaysLines text (line ∷ lines)
  no_row_there : {text : List ℕ} → (text ≡ [] → ⊥) → ((r : Row) (rest : List ℕ) → RowAt text r rest → ⊥) → TextSaysLines text (Bad ∷ [])

-- ---- what lines say of the site

-- a line is one of these
pub data Among (line : SiteLine) : List SiteLine → Type 0 where
  first : {lines : List SiteLine} → Among line (line ∷ lines)
  behind : {other : SiteLine} {lines : List SiteLine} → Among line lines → Among line (other ∷ lines)

-- `exit,l,m`: a line gives an exit of location l
pub record HasExit (lines : List SiteLine) (l : ℕ) : Type 0 where
  pub to : ℕ
  pub row : Among (Exit l to) lines

-- `site,P,L`: "First data row"
abbrev pub people_in : List SiteLine → ℕ
people_in [] = 0
people_in (Site p l ∷ lines) = p
people_in (Door o t ∷ lines) = 0
people_in (Exit l m ∷ lines) = 0
people_in (Right p l ∷ lines) = 0
people_in (Bad ∷ lines) = 0

abbrev pub locations_in : List SiteLine → ℕ
locations_in [] = 0
locations_in (Site p l ∷ lines) = l
locations_in (Door o t ∷ lines) = 0
locations_in (Exit l m ∷ lines) = 0
locations_in (Right p l ∷ lines) = 0
locations_in (Bad ∷ lines) = 0

-- `door,o,t`: "Doors are numbered in row order."
unfoldable pub origins_in : List SiteLine → List ℕ
origins_in [] = []
origins_in (Site p l ∷ lines) = origins_in lines
origins_in (Door o t ∷ lines) = o ∷ origins_in lines
origins_in (Exit l m ∷ lines) = origins_in lines
origins_in (Right p l ∷ lines) = origins_in lines
origins_in (Bad ∷ lines) = origins_in lines

unfoldable pub destinations_in : List SiteLine → List ℕ
destinations_in [] = []
destinations_in (Site p l ∷ lines) = destinations_in lines
destinations_in (Door o t ∷ lines) = t ∷ destinations_in lines
destinations_in (Exit l m ∷ lines) = destinations_in lines
destinations_in (Right p l ∷ lines) = destinations_in lines
destinations_in (Bad ∷ lines) = destinations_in lines

-- `exit,l,m`: a line gives an exit of location k
abbrev pub is_exit : ℕ → SiteLine → Bool
is_exit k (Site p l) = false
is_exit k (Door o t) = false
is_exit k (Exit l m) = eqb l k
is_exit k (Right p l) = false
is_exit k Bad = false

unfoldable pub has_exit : ℕ → List SiteLine → Bool
has_exit k [] = false
has_exit k (line ∷ lines) = or_else (is_exit k line) (has_exit k lines)

abbrev pub target : SiteLine → ℕ
target (Site p l) = 0
target (Door o t) = 0
target (Exit l m) = m
target (Right p l) = 0
target Bad = 0

-- the location to which k is signed, 0 where no line says so
unfoldable pub exit_in : ℕ → List SiteLine → ℕ
exit_in k [] = 0
exit_in k (line ∷ lines) = cond (is_exit k line) (target line) (exit_in k lines)

-- `right,p,l`: a line gives person q a right to location k
abbrev pub is_right : ℕ → ℕ → SiteLine → Bool
is_right q k (Site p l) = false
is_right q k (Door o t) = false
is_right q k (Exit l m) = false
is_right q k (Right p l) = and_also (eqb p q) (eqb l k)
is_right q k Bad = false

unfoldable pub has_right : ℕ → ℕ → List SiteLine → Bool
has_right q k [] = false
has_right q k (line ∷ lines) = or_else (is_right q k line) (has_right q k lines)

-- tables hold exactly what lines say
pub record Holds (lines : List SiteLine) (d : Draft) : Type 0 where
  pub people : d.people ≡ people_in lines
  pub locations : d.locations ≡ locations_in lines
  pub doors : d.doors ≡ length (origins_in lines)
  pub origins : (k : ℕ) → get_or d.origin k 0 ≡ get_or (origins_in lines) k 0
  pub destinations : (k : ℕ) → get_or d.destination k 0 ≡ get_or (destinations_in lines) k 0
  pub exits : (k : ℕ) → get_or d.exit k 0 ≡ exit_in k lines
  pub given : (k : ℕ) → get_or d.given k false ≡ has_exit k lines
  pub rights : (q k : ℕ) → k < most_locations → get_or d.right (q * most_locations + k) false ≡ has_right q k lines

-- ---- when a line is right behind those before it

-- 3: the numbers of a line are in their ranges
pub data LineInRange (before : List SiteLine) : SiteLine → Type 0 where
  site_range : {p l : ℕ} → 1 ≤ p → p ≤ most_people → 2 ≤ l → l ≤ most_locations → LineInRange before (Site p l)
  door_range : {o t : ℕ} → o < locations_in before → t < locations_in before → (o ≡ t → ⊥) → length (origins_in before) < most_doors → LineInRange before (Door o t)
  exit_range : {l m : ℕ} → 1 ≤ l → l < locations_in before → m < locations_in before → LineInRange before (Exit l m)
  right_range : {p l : ℕ} → p < people_in before → 1 ≤ l → l < locations_in before → LineInRange before (Right p l)

-- 4: "second `site`, second exit of a location, same right again"
pub data Again (before : List SiteLine) : SiteLine → Type 0 where
  second_site : {p l : ℕ} → (before ≡ [] → ⊥) → Again before (Site p l)
  second_exit : {l m : ℕ} → HasExit before l → Again before (Exit l m)
  same_right : {p l : ℕ} → Among (Right p l) before → Again before (Right p l)

-- 5: "first data row is absent or not `site`"
pub data NotFirst : SiteLine → Type 0 where
  door_first : {o t : ℕ} → NotFirst (Door o t)
  exit_first : {l m : ℕ} → NotFirst (Exit l m)
  right_first : {p l : ℕ} → NotFirst (Right p l)

-- a line that is right behind those before it
pub record Fine (before : List SiteLine) (line : SiteLine) : Type 0 where
  pub started : before ≡ [] → NotFirst line → ⊥
  pub in_range : LineInRange before line
  pub new : Again before line → ⊥

-- what is wrong with a line: "rows from the top, each tested for 2, 5, 3, 4"
pub data Wrong (before : List SiteLine) : SiteLine → Fault → Type 0 where
  of_form : Wrong before Bad Form
  no_site : {line : SiteLine} → before ≡ [] → NotFirst line → Wrong before line NoSite
  out_of_range : {line : SiteLine} → (line ≡ Bad → ⊥) → (before ≡ [] → NotFirst line → ⊥) → (LineInRange before line → ⊥) → Wrong before line Range
  said_again : {line : SiteLine} → (before ≡ [] → NotFirst line → ⊥) → LineInRange before line → Again before line → Wrong before line Twice
