-- A reader at another place in its file. Assumes nothing: these are definitions.
use Rattle.std.specs.Prelude.{ℕ}
use Rattle.rules.specs.declared.Reader.{Reader}

-- a record at another position
abbrev pub moved_to : ℕ → Reader → Reader
moved_to position r = record { condition = r.condition; file = r.file; pace = r.pace; position = position; last = r.last }
