-- Readers: 01, "State", with the last page of A.1 and the mark of A.2. Assumes nothing: these are definitions.
use Rattle.std.specs.Prelude.{ℕ, ◌+◌, Bool, true, false, ◌&&◌, List, get_or, ltb, eqb}
use Rattle.rules.specs.Pages.{key_of, in_fetch}
use Rattle.rules.specs.declared.State.{State}
use Rattle.rules.specs.declared.Reader.{Reader}
use Rattle.rules.specs.declared.Condition.{Condition}
use Rattle.rules.specs.declared.Condition.TheVariants.{Empty, Running, Waiting}

-- an empty slot's record, all 0
abbrev pub no_reader : Reader
no_reader = record { condition = Empty; file = 0; pace = 0; position = 0; last = 0 }

-- the record of a slot
abbrev pub reader_in : List Reader → ℕ → Reader
reader_in readers slot = get_or readers slot no_reader

abbrev pub reader_at : State → ℕ → Reader
reader_at s = reader_in s.readers

-- A.2: "Each reader gains a mark": that of a slot
abbrev pub mark_at : State → ℕ → ℕ
mark_at s slot = get_or s.marks slot 0

-- "A reader's record holds its condition: empty, running, or waiting"
abbrev pub by_condition : {A : Type 0} → Condition → A → A → A → A
by_condition Empty a b c = a
by_condition Running a b c = b
by_condition Waiting a b c = c

-- "A reader is attached if its slot is not empty"
abbrev pub attached : Reader → Bool
attached r = by_condition r.condition false true true

-- a reader of file f
abbrev pub reads_file : ℕ → Reader → Bool
reads_file f r = attached r && eqb r.file f

-- the key of page c + 1, which the reader reads next unless it is at its last page
abbrev pub next_key : Reader → ℕ
next_key r = key_of r.file (r.position + 1)

-- the reader is not at its last page, and its next page is in fetch
unfoldable pub awaits : State → Reader → Bool
awaits s r = ltb r.position r.last && in_fetch s (next_key r)

-- a reader with some parts changed: calls after which it is still attached make it by the names below, one for each change, and they by this record
abbrev rewritten : Reader → Condition → ℕ → ℕ → Reader
rewritten r condition pace position = record { condition = condition; file = r.file; pace = pace; position = position; last = r.last }

-- the record in another condition
abbrev pub in_condition : Condition → Reader → Reader
in_condition c r = rewritten r c r.pace r.position

-- the position grows by 1
abbrev pub onward : Reader → Reader
onward r = rewritten r r.condition r.pace (r.position + 1)

-- A.2: another pace
abbrev pub paced : ℕ → Reader → Reader
paced pace r = rewritten r r.condition pace r.position
