-- A reader at a place of its sheet: "a reader holds the sheet and the byte it has come to" (01, "Site sheet").
use Rattle.std.specs.Prelude.{ℕ, List}
use Rattle.std.specs.Borrow.{Bor}
use Rattle.reader.specs.declared.Reader.{Reader}

abbrev pub reader_at : Bor (List ℕ) → ℕ → Reader
reader_at sheet at = record { sheet = sheet; at = at }
