-- What is proved of rows that come one after the other: `proofs/Theorems.antt` has it by name.
use Rattle.std.specs.Prelude.{ℕ, ◌≡◌, List, ◌++◌, replicate}
use Rattle.tables.specs.Tables.{most_doors}
use Rattle.record.specs.declared.record.Record.{Record}
use Rattle.site_sheet.specs.Site.{site_of}
use Rattle.run_text.specs.Printed.{panel_header, panel_text, record_text, where_text}
use Rattle.stream_text.specs.Stream.{events_text}
use Rattle.attend.specs.Live.{AttendedRows, live_rows, live_last, live_frames}

-- of an accepted site, and a steps sheet of at most 49,152 bytes with its header, whose data rows come so: the header and the rows printed are the
-- text of `panel`; the record afterwards is the one of `where`; the frames written beside them, no card being at any door before, are the text of
-- `events`; and calls of `attend`, one after the other, write that text and leave that record
pub record LiveIsPanel (site steps : List ℕ) (rows : List (List ℕ)) : Type 0 where
  pub text : panel_header ++ live_rows (site_of site).«record» 1 rows ≡ panel_text site steps
  pub places : record_text (live_last (site_of site).«record» rows) ≡ where_text site steps
  pub calls : (text : List ℕ) (last : Record) → AttendedRows (site_of site).«record» 1 rows text last → (panel_header ++ text ≡ panel_text site steps) × (record_text last ≡ where_text site steps)
  pub events : live_frames (site_of site).«record» (replicate most_doors 0) rows ≡ events_text site steps
