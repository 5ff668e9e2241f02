-- When a site sheet is accepted, and for each number exactly when it is given, with its place. 01, "Numbers given back". All of it is
-- said of the lines that the sheet's rows say. `most` is how many bytes a sheet may have.
use Rattle.std.specs.Prelude.{ℕ, ◌+◌, ◌≤◌, ◌<◌, ◌≡◌, List, [], ◌∷◌, ◌++◌, length}
use Rattle.tables.specs.Below.{Smallest, SmallestPair}
use Rattle.grammar.specs.Grammar.{Row, RowAt}
use Rattle.site_lines.specs.declared.SiteLine.{SiteLine}
use Rattle.site_lines.specs.declared.SiteLine.TheVariants.{Door, Exit, Right}
use Rattle.site_lines.specs.Fault.{Fault, Sound}
use Rattle.site_lines.specs.Draft.{Reading}
use Rattle.verdict.specs.Verdict.{Verdict}
use Rattle.verdict.specs.Verdict.{Accepted, TooLong, BadRow, NoSite, NoExit, Stray, NoDoor, NoRight, ShutOut}
use Rattle.site_lines.specs.Taking.{verdict_of}
use Rattle.site_lines.specs.Says.{SiteHeaderRow, TextSaysLines, Among, HasExit, people_in, locations_in, Holds, Fine, Wrong}

-- the sheet is short enough, begins with its header, and its further rows say these lines
pub record Headed (most : ℕ) (s : List ℕ) (lines : List SiteLine) : Type 0 where
  pub short : length s ≤ most
  pub header : Row
  pub rest : List ℕ
  pub at : RowAt s header rest
  pub is : SiteHeaderRow header
  pub says : TextSaysLines rest lines

-- each line is right behind those before it
pub data FineLines : List SiteLine → List SiteLine → Type 0 where
  all_fine : {before : List SiteLine} → FineLines before []
  one_fine : {before : List SiteLine} {line : SiteLine} {lines : List SiteLine} → Fine before line → FineLines (before ++ (line ∷ [])) lines → FineLines before (line ∷ lines)

-- "rows from the top": k lines are right, and then this is wrong with the next
pub data WrongAt : List SiteLine → List SiteLine → ℕ → Fault → Type 0 where
  here : {before : List SiteLine} {line : SiteLine} {lines : List SiteLine} {f : Fault} → Wrong before line f → WrongAt before (line ∷ lines) 0 f
  further : {before : List SiteLine} {line : SiteLine} {lines : List SiteLine} {k : ℕ} {f : Fault} → Fine before line
      → WrongAt (before ++ (line ∷ [])) lines k f → WrongAt before (line ∷ lines) (k + 1) f

-- what is told of rows that say these lines: each is right behind those before it, and the tables hold what they say; or the first
-- that isn't, and what is wrong with it
pub data RowsTold (lines : List SiteLine) (r : Reading) : Type 0 where
  all_taken : FineLines [] lines → r.fault ≡ Sound → Holds lines r.draft → RowsTold lines r
  one_wrong : (k : ℕ) (f : Fault) → WrongAt [] lines k f → r.fault ≡ f → r.row ≡ k + 1 → RowsTold lines r

-- every row of the sheet is right, and these are its lines
pub record RowsFine (most : ℕ) (s : List ℕ) (lines : List SiteLine) : Type 0 where
  pub headed : Headed most s lines
  pub some : lines ≡ [] → ⊥
  pub fine : FineLines [] lines

-- ---- the rules of the whole sheet, said of its lines alone

-- 6: "every location but 0 has an exit"
abbrev pub ExitOf : List SiteLine → ℕ → Type 0
ExitOf lines l = 1 ≤ l → HasExit lines l

-- 7: "following exits always comes to 0"
pub data ComesOut (lines : List SiteLine) : ℕ → Type 0 where
  outside : ComesOut lines 0
  onward : {l m : ℕ} → Among (Exit l m) lines → ComesOut lines m → ComesOut lines l

-- 8: "each exit l to m has a door from l to m"
abbrev pub ExitHasDoor : List SiteLine → ℕ → Type 0
ExitHasDoor lines l = (m : ℕ) → Among (Exit l m) lines → Among (Door l m) lines

-- `right,p,l`: "person p may be in l. Location 0 is everybody's and has no row."
pub data MayBeIn (lines : List SiteLine) (p : ℕ) : ℕ → Type 0 where
  everybodys : MayBeIn lines p 0
  by_row : {l : ℕ} → Among (Right p l) lines → MayBeIn lines p l

-- 9: "whoever has a right to l has a right to its exit"
abbrev pub RightToExit : List SiteLine → ℕ → ℕ → Type 0
RightToExit lines p l = (m : ℕ) → Among (Right p l) lines → Among (Exit l m) lines → MayBeIn lines p m

-- 10: "everyone has a right to some location with a door from 0"
pub record ComesIn (lines : List SiteLine) (p : ℕ) : Type 0 where
  pub location : ℕ
  pub right : Among (Right p location) lines
  pub door : Among (Door 0 location) lines

-- each rule of all locations, of all people
abbrev pub Six : List SiteLine → Type 0
Six lines = (l : ℕ) → l < locations_in lines → ExitOf lines l

abbrev pub Seven : List SiteLine → Type 0
Seven lines = (l : ℕ) → l < locations_in lines → ComesOut lines l

abbrev pub Eight : List SiteLine → Type 0
Eight lines = (l : ℕ) → l < locations_in lines → ExitHasDoor lines l

abbrev pub Nine : List SiteLine → Type 0
Nine lines = (p : ℕ) → p < people_in lines → (l : ℕ) → l < locations_in lines → RightToExit lines p l

abbrev pub Ten : List SiteLine → Type 0
Ten lines = (p : ℕ) → p < people_in lines → ComesIn lines p

-- a site sheet obeys the written rules
pub record Obeys (most : ℕ) (s : List ℕ) : Type 0 where
  pub lines : List SiteLine
  pub rows : RowsFine most s lines
  pub six : Six lines
  pub seven : Seven lines
  pub eight : Eight lines
  pub nine : Nine lines
  pub ten : Ten lines

-- what is said of a sheet
pub data Gives (most : ℕ) (s : List ℕ) : Verdict → Type 0 where
  -- 0: "done"
  gives_0 : Obeys most s → Gives most s Accepted
  -- 1: "sheet over 49,152 bytes"
  gives_1 : most < length s → Gives most s TooLong
  -- 2 at row 0: "wrong header"; "An empty sheet is 2 at row 0"
  gives_header : length s ≤ most → ((r : Row) (rest : List ℕ) → RowAt s r rest → SiteHeaderRow r → ⊥) → Gives most s (BadRow 0)
  -- 2, 5, 3, 4 at the first row with which something is wrong
  gives_row : {lines : List SiteLine} {k : ℕ} {f : Fault} {v : Verdict} → Headed most s lines → WrongAt [] lines k f → v ≡ verdict_of f (k + 1) → Gives most s v
  -- 5: "a header alone is 5"
  gives_5 : Headed most s [] → Gives most s NoSite
  -- 6 to 10: "each finished before the next", "smallest such"
  gives_6 : {lines : List SiteLine} {k : ℕ} → RowsFine most s lines → Smallest (ExitOf lines) (locations_in lines) k → Gives most s (NoExit k)
  gives_7 : {lines : List SiteLine} {k : ℕ} → RowsFine most s lines → Six lines → Smallest (ComesOut lines) (locations_in lines) k → Gives most s (Stray k)
  gives_8 : {lines : List SiteLine} {k : ℕ} → RowsFine most s lines → Six lines → Seven lines
      → Smallest (ExitHasDoor lines) (locations_in lines) k → Gives most s (NoDoor k)
  gives_9 : {lines : List SiteLine} {p l : ℕ} → RowsFine most s lines → Six lines → Seven lines → Eight lines
      → SmallestPair (RightToExit lines) (people_in lines) (locations_in lines) p l → Gives most s (NoRight p l)
  gives_10 : {lines : List SiteLine} {k : ℕ} → RowsFine most s lines → Six lines → Seven lines → Eight lines → Nine lines
      → Smallest (ComesIn lines) (people_in lines) k → Gives most s (ShutOut k)
