-- A reader after a reading.
use Rattle.std.specs.Prelude.{ℕ}
use Rattle.capture.specs.Read.{read_at}
use Rattle.capture_reader.specs.declared.Reader.{Reader}

-- the same bytes, and the offset that the reading answered: behind the record, or the same at the end and after a refusal
abbrev pub moved : Reader → ℕ → Reader
moved r lent = record { bytes = r.bytes; offset = (read_at r.bytes.now r.offset lent).next.offset }
