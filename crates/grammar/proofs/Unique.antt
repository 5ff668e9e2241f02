-- No text has two readings: as a field and what follows it, as a row and what follows it, as a sheet.
-- Assumes nothing.
use Prim.Native.Nat.{ℕ}
use native.Mathlib.Omega.{arith}
use mathlib.Core.Path.{◌≡◌, refl, sym, ap, ap₂, ◌∙◌}
use mathlib.Core.Bool.{Bool, true, false}
use mathlib.Core.List.{List, [], ◌∷◌, ◌++◌, append_assoc, append-nil}
use lib.Dec.{eqb}
use borrow.Author.Tests.{eqb-true, eqb-false}
use Rattle.grammar.specs.Grammar.{quote, comma, cr, lf, Plain, AllPlain, more, Field, bare, quoted, Written, is_bare, escape, field_text, Row, only, ◌then◌, WrittenRow, written_only, written_then, row_text, RowAt, ended, last, Sheet, no_row, row}

-- what may stand behind a field
data Behind : List ℕ → Type 0 where
  nothing : Behind []
  a_comma : {t : List ℕ} → Behind (comma ∷ t)
  a_cr : {t : List ℕ} → Behind (cr ∷ t)

no_cons : {b : ℕ} {x : List ℕ} → ◌≡◌ {A = List ℕ} [] (b ∷ x) → ⊥
no_cons e = let z : ◌≡◌ {A = ℕ} 0 1 = cc in omega arith

-- two pairs of parts, equal part by part
pub record SameReading {A : Type 0} (x y : A) (t u : List ℕ) : Type 0 where
  pub first : x ≡ y
  pub behind : t ≡ u

plain_not : {b : ℕ} {t x : List ℕ} → Plain b → Behind t → t ≡ b ∷ x → ⊥
plain_not p nothing e = no_cons e
plain_not {b} p a_comma e = p.no_comma (let h : b ≡ comma = cc in h)
plain_not {b} p a_cr e = p.no_cr (let h : b ≡ cr = cc in h)

quote_not : {t x : List ℕ} → Behind t → t ≡ quote ∷ x → ⊥
quote_not nothing e = no_cons e
quote_not a_comma e = let h : comma ≡ quote = cc in omega arith
quote_not a_cr e = let h : cr ≡ quote = cc in omega arith

bare_same : (c d : List ℕ) {t u : List ℕ} → AllPlain c → AllPlain d → Behind t → Behind u → c ++ t ≡ d ++ u → SameReading c d t u
bare_same [] [] p q bt bu e = record { first = refl; behind = e }
bare_same [] (b ∷ d) p (more q qs) bt bu e = absurd (plain_not q bt e)
bare_same (a ∷ c) [] (more p ps) q bt bu e = absurd (plain_not p bu (sym e))
bare_same (a ∷ c) (b ∷ d) {t} {u} (more p ps) (more q qs) bt bu e =
    let h : a ≡ b = cc in
    let h' : c ++ t ≡ d ++ u = cc in
    let s = bare_same c d ps qs bt bu h' in
    record { first = ap₂ (λ (x : ℕ) (l : List ℕ). x ∷ l) h s.first; behind = s.behind }

bare_not_quoted : (c : List ℕ) {t x : List ℕ} → AllPlain c → Behind t → c ++ t ≡ quote ∷ x → ⊥
bare_not_quoted [] p bt e = quote_not bt e
bare_not_quoted (b ∷ c) (more p ps) bt e = p.no_quote (let h : b ≡ quote = cc in h)

-- a quote that closes is no quote of the content
closes : (b : ℕ) (d t u : List ℕ) (q : Bool) → eqb b quote ≡ q → Behind t → quote ∷ t ≡ escape (b ∷ d) ++ (quote ∷ u) → ⊥
unfolding escape
closes b d t u true q bt e =
    let e' : quote ∷ t ≡ quote ∷ b ∷ escape d ++ (quote ∷ u) = rw q at e in
    let h : t ≡ b ∷ escape d ++ (quote ∷ u) = cc in
    quote_not bt (rw (eqb-true b quote q) at h)
closes b d t u false q bt e =
    let e' : quote ∷ t ≡ b ∷ escape d ++ (quote ∷ u) = rw q at e in
    eqb-false b quote q (let h : b ≡ quote = cc in h)

module _ (a b : ℕ) (c d t u : List ℕ) where
  quoted_turn : (p q : Bool) → eqb a quote ≡ p → eqb b quote ≡ q
      → (escape c ++ (quote ∷ t) ≡ escape d ++ (quote ∷ u) → SameReading c d t u)
      → escape (a ∷ c) ++ (quote ∷ t) ≡ escape (b ∷ d) ++ (quote ∷ u) → SameReading (a ∷ c) (b ∷ d) t u
  unfolding escape
  quoted_turn true true p q on e =
      let e' : quote ∷ a ∷ escape c ++ (quote ∷ t) ≡ quote ∷ b ∷ escape d ++ (quote ∷ u) = rw (p, q) at e in
      let s = on (cc) in
      record { first = ap₂ (λ (x : ℕ) (l : List ℕ). x ∷ l) (cc) s.first; behind = s.behind }
  quoted_turn true false p q on e =
      let e' : quote ∷ a ∷ escape c ++ (quote ∷ t) ≡ b ∷ escape d ++ (quote ∷ u) = rw (p, q) at e in
      absurd (eqb-false b quote q (let h : b ≡ quote = cc in h))
  quoted_turn false true p q on e =
      let e' : a ∷ escape c ++ (quote ∷ t) ≡ quote ∷ b ∷ escape d ++ (quote ∷ u) = rw (p, q) at e in
      absurd (eqb-false a quote p (let h : a ≡ quote = cc in h))
  quoted_turn false false p q on e =
      let e' : a ∷ escape c ++ (quote ∷ t) ≡ b ∷ escape d ++ (quote ∷ u) = rw (p, q) at e in
      let s = on (cc) in
      record { first = ap₂ (λ (x : ℕ) (l : List ℕ). x ∷ l) (cc) s.first; behind = s.behind }

quoted_same : (c d : List ℕ) {t u : List ℕ} → Behind t → Behind u → escape c ++ (quote ∷ t) ≡ escape d ++ (quote ∷ u) → SameReading c d t u
unfolding escape
quoted_same [] [] {t} {u} bt bu e =
    let e' : quote ∷ t ≡ quote ∷ u = e in
    record { first = refl; behind = cc }
quoted_same [] (b ∷ d) {t} {u} bt bu e = absurd (closes b d t u (eqb b quote) refl bt e)
quoted_same (a ∷ c) [] {t} {u} bt bu e = absurd (closes a c u t (eqb a quote) refl bu (sym e))
quoted_same (a ∷ c) (b ∷ d) {t} {u} bt bu e = quoted_turn a b c d t u (eqb a quote) (eqb b quote) refl refl (λ h. quoted_same c d bt bu h) e

field_same : (f g : Field) {t u : List ℕ} → Written f → Written g → Behind t → Behind u → field_text f ++ t ≡ field_text g ++ u → SameReading f g t u
unfolding field_text
field_same (bare c) (bare d) (is_bare p) (is_bare q) bt bu e =
    let s = bare_same c d p q bt bu e in
    record { first = ap bare s.first; behind = s.behind }
field_same (bare c) (quoted d) (is_bare p) w bt bu e = absurd (bare_not_quoted c p bt e)
field_same (quoted c) (bare d) w (is_bare q) bt bu e = absurd (bare_not_quoted d q bu (sym e))
field_same (quoted c) (quoted d) {t} {u} v w bt bu e =
    let e' : quote ∷ (escape c ++ (quote ∷ [])) ++ t ≡ quote ∷ (escape d ++ (quote ∷ [])) ++ u = e in
    let h : (escape c ++ (quote ∷ [])) ++ t ≡ (escape d ++ (quote ∷ [])) ++ u = cc in
    let s = quoted_same c d bt bu (sym (append_assoc (escape c) (quote ∷ []) t) ∙ h ∙ append_assoc (escape d) (quote ∷ []) u) in
    record { first = ap quoted s.first; behind = s.behind }

-- what may stand behind a row
data RowBehind : List ℕ → Type 0 where
  at_end : RowBehind []
  at_cr : {t : List ℕ} → RowBehind (cr ∷ t)

behind_row : {t : List ℕ} → RowBehind t → Behind t
behind_row at_end = nothing
behind_row at_cr = a_cr

comma_not : {t x : List ℕ} → RowBehind t → t ≡ comma ∷ x → ⊥
comma_not at_end e = no_cons e
comma_not at_cr e = let h : cr ≡ comma = cc in omega arith

row_same : (r s : Row) {t u : List ℕ} → WrittenRow r → WrittenRow s → RowBehind t → RowBehind u → row_text r ++ t ≡ row_text s ++ u → SameReading r s t u
unfolding row_text
row_same (only f) (only g) (written_only v) (written_only w) bt bu e =
    let h = field_same f g v w (behind_row bt) (behind_row bu) e in
    record { first = ap only h.first; behind = h.behind }
row_same (only f) (g then s) {t} {u} (written_only v) (written_then w ws) bt bu e =
    absurd (comma_not bt (field_same f g v w (behind_row bt) a_comma (e ∙ append_assoc (field_text g) (comma ∷ row_text s) u)).behind)
row_same (f then r) (only g) {t} {u} (written_then v vs) (written_only w) bt bu e =
    absurd (comma_not bu (field_same g f w v (behind_row bu) a_comma (sym e ∙ append_assoc (field_text f) (comma ∷ row_text r) t)).behind)
row_same (f then r) (g then s) {t} {u} (written_then v vs) (written_then w ws) bt bu e =
    let h = field_same f g v w a_comma a_comma (sym (append_assoc (field_text f) (comma ∷ row_text r) t) ∙ e ∙ append_assoc (field_text g) (comma ∷ row_text s) u) in
    let b : comma ∷ row_text r ++ t ≡ comma ∷ row_text s ++ u = h.behind in
    let k = row_same r s vs ws bt bu (cc) in
    record { first = ap₂ ◌then◌ h.first k.first; behind = k.behind }

-- the row at the front of a text, and what is behind it, are fixed by the text
pub row_unique : {text text' : List ℕ} {r s : Row} {t u : List ℕ} → RowAt text r t → RowAt text' s u → text ≡ text' → SameReading r s t u
row_unique {t = t} {u = u} (ended v e) (ended w e') h =
    let k = row_same _ _ v w at_cr at_cr (sym e ∙ h ∙ e') in
    let b : cr ∷ lf ∷ t ≡ cr ∷ lf ∷ u = k.behind in
    record { first = k.first; behind = cc }
row_unique (ended v e) (last w e' n) h =
    absurd (no_cons (sym (row_same _ _ v w at_cr at_end (sym e ∙ h ∙ e' ∙ sym (append-nil _))).behind))
row_unique (last v e n) (ended w e') h =
    absurd (no_cons (row_same _ _ v w at_end at_cr (append-nil _ ∙ sym e ∙ h ∙ e')).behind)
row_unique (last v e n) (last w e' n') h =
    let k = row_same _ _ v w at_end at_end (append-nil _ ∙ sym e ∙ h ∙ e' ∙ sym (append-nil _)) in
    record { first = k.first; behind = refl }

not_empty : (xs : List ℕ) (b : ℕ) (ys : List ℕ) → ◌≡◌ {A = List ℕ} [] (xs ++ (b ∷ ys)) → ⊥
not_empty [] b ys e = no_cons e
not_empty (x ∷ xs) b ys e = no_cons e

-- where there is no byte there is no row
pub no_row_at : {text : List ℕ} {r : Row} {t : List ℕ} → RowAt text r t → [] ≡ text → ⊥
no_row_at {r = r} {t = t} (ended v e) h = not_empty (row_text r) cr (lf ∷ t) (h ∙ e)
no_row_at (last v e n) h = n (sym h)

sheet_same : {text text' : List ℕ} {rs ss : List Row} → Sheet text rs → Sheet text' ss → text ≡ text' → rs ≡ ss
sheet_same no_row no_row h = refl
sheet_same no_row (row a s) h = absurd (no_row_at a h)
sheet_same (row a s) no_row h = absurd (no_row_at a (sym h))
sheet_same (row a s) (row a' s') h =
    let k = row_unique a a' h in
    ap₂ (λ (x : Row) (l : List Row). x ∷ l) k.first (sheet_same s s' k.behind)

-- a sheet has one list of rows
pub rows_unique : {text : List ℕ} {rs ss : List Row} → Sheet text rs → Sheet text ss → rs ≡ ss
rows_unique s s' = sheet_same s s' refl
