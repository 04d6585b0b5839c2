-- Turns of a Run that meet no F, many at once: what each reader reads in them, and where it is then. Between two turns of a Run no page is in fetch, so every
-- reader runs. Assumes nothing: these are definitions.
use Rattle.std.specs.Prelude.{ℕ, min, ◌+◌, ◌-◌, ◌/◌, ◌%◌, ◌<◌, ◌≡◌, List, T, length, slice_index}
use Rattle.bits.specs.Map.{on}
use Rattle.rules.specs.Readers.{reader_in, next_key}
use Rattle.rules.specs.declared.Reader.{Reader}
use Rattle.rules.specs.declared.View.{View}

-- how many pages a reader at this seat distance reads in n turns, none of which meets F: one at each turn of its own, which is every sixteenth, up to its last
-- page. The record of an empty slot is all 0, so that it reads none
abbrev pub pages_read : ℕ → ℕ → Reader → ℕ
pages_read n distance r = min ((n + 15 - distance) / 16) (r.last - r.position)

-- slot j's
abbrev pub reads_of : View → ℕ → ℕ → ℕ
reads_of v n j = pages_read n ((j + 16 - v.turn) % 16) (reader_in v.readers j)

-- the first n pages after the reader's position are cached
abbrev pub AllCached : List ℕ → Reader → ℕ → Type 0
AllCached cached r n = (i : ℕ) → i < n → T (on cached (next_key r + i))

-- so are those that the first m slots read in n turns; where m is 16, none of these turns meets F
abbrev pub Clear : View → List ℕ → ℕ → ℕ → Type 0
Clear v cached m n = (j : ℕ) → j < m → AllCached cached (reader_in v.readers j) (reads_of v n j)

-- the first m slots have these positions after these turns
pub record Advanced (v : View) (n m : ℕ) (positions : List ℕ) : Type 0 where
  pub long : length positions ≡ 16
  pub moved : (j : ℕ) → j < m → slice_index positions j ≡ (reader_in v.readers j).position + reads_of v n j
