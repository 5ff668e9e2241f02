-- Sheets as RFC 4180 and 01, "Site sheet", write them: which bytes are a field, a row, a sheet. Nothing here says how a
-- sheet is read. In one thing more is taken than RFC 4180 has: the text of its fields is printable ASCII (TEXTDATA; between quotes also
-- comma, CR, LF and the doubled quote). Here a bare field holds all bytes but quote, comma, CR and LF, and a quoted one any, as 02
-- wants in C-16 ("a bare field may hold all bytes but quote, comma, CR and LF") and C-21 ("Bytes of 128 and up may stand in
-- a name").
use Rattle.std.specs.Prelude.{ℕ, ◌≡◌, cond, List, [], ◌∷◌, ◌++◌, eqb}

-- the four bytes that RFC 4180 sets apart
abbrev pub quote : ℕ
quote = 34

abbrev pub comma : ℕ
comma = 44

abbrev pub cr : ℕ
cr = 13

abbrev pub lf : ℕ
lf = 10

-- a byte that may stand in a bare field: 02, C-16: "all bytes but quote, comma, CR and LF"
pub record Plain (b : ℕ) : Type 0 where
  pub no_quote : b ≡ quote → ⊥
  pub no_comma : b ≡ comma → ⊥
  pub no_cr : b ≡ cr → ⊥
  pub no_lf : b ≡ lf → ⊥

pub data AllPlain : List ℕ → Type 0 where
  none : AllPlain []
  more : {b : ℕ} {bs : List ℕ} → Plain b → AllPlain bs → AllPlain (b ∷ bs)

-- a field, as it is written: bare or in quotes, with its content
pub data Field : Type 0 where
  bare : List ℕ → Field
  quoted : List ℕ → Field

pub data Written : Field → Type 0 where
  -- RFC 4180, 2: non-escaped = *TEXTDATA, with `Plain` for TEXTDATA
  is_bare : {c : List ℕ} → AllPlain c → Written (bare c)
  -- RFC 4180, 2: escaped, with any byte between the quotes
  is_quoted : {c : List ℕ} → Written (quoted c)

abbrev pub content : Field → List ℕ
content (bare c) = c
content (quoted c) = c

-- RFC 4180, 2.7: a quote inside a quoted field is "escaped by preceding it with another double quote"
unfoldable pub escape : List ℕ → List ℕ
escape [] = []
escape (b ∷ bs) = cond (eqb b quote) (quote ∷ b ∷ escape bs) (b ∷ escape bs)

-- the bytes of a field
unfoldable pub field_text : Field → List ℕ
field_text (bare c) = c
field_text (quoted c) = quote ∷ escape c ++ (quote ∷ [])

-- a text begins with this field, and behind it stand a comma, a CRLF or the text's end
pub data FieldAt : List ℕ → Field → Type 0 where
  before_comma : {text : List ℕ} {f : Field} (rest : List ℕ) → Written f → text ≡ field_text f ++ (comma ∷ rest) → FieldAt text f
  before_crlf : {text : List ℕ} {f : Field} (rest : List ℕ) → Written f → text ≡ field_text f ++ (cr ∷ lf ∷ rest) → FieldAt text f
  before_end : {text : List ℕ} {f : Field} → Written f → text ≡ field_text f → FieldAt text f

-- a row: one or more fields
pub data Row : Type 0 where
  only : Field → Row
  ◌then◌ : Field → Row → Row

infixr 20 ◌then◌
pub data WrittenRow : Row → Type 0 where
  written_only : {f : Field} → Written f → WrittenRow (only f)
  written_then : {f : Field} {r : Row} → Written f → WrittenRow r → WrittenRow (f then r)

-- RFC 4180, 2.4: fields "separated by commas"
unfoldable pub row_text : Row → List ℕ
row_text (only f) = field_text f
row_text (f then r) = field_text f ++ (comma ∷ row_text r)

-- a text begins with this row, and this is the rest of the text behind it
pub data RowAt : List ℕ → Row → List ℕ → Type 0 where
  -- "rows ended by CRLF"
  ended : {text : List ℕ} {r : Row} {rest : List ℕ} → WrittenRow r → text ≡ row_text r ++ (cr ∷ lf ∷ rest) → RowAt text r rest
  -- "the last CRLF optional"; a last row without CRLF isn't empty
  last : {text : List ℕ} {r : Row} → WrittenRow r → text ≡ row_text r → (text ≡ [] → ⊥) → RowAt text r []

-- a text is a sheet of these rows; no bytes at all are a sheet of no rows, and after a last CRLF there is no further row
pub data Sheet : List ℕ → List Row → Type 0 where
  no_row : Sheet [] []
  row : {text : List ℕ} {r : Row} {rest : List ℕ} {rs : List Row} → RowAt text r rest → Sheet rest rs → Sheet text (r ∷ rs)

-- the fields of a row
unfoldable pub fields : Row → List Field
fields (only f) = f ∷ []
fields (f then r) = f ∷ fields r

-- a text begins with these rows, and this is the rest of the text behind them
pub data BeginsWith : List ℕ → List Row → List ℕ → Type 0 where
  here : {text : List ℕ} → BeginsWith text [] text
  on : {text : List ℕ} {r : Row} {rest : List ℕ} {rs : List Row} {end : List ℕ} → RowAt text r rest → BeginsWith rest rs end → BeginsWith text (r ∷ rs) end
