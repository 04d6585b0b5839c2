-- The page to give up where a page is ahead of no reader: how it is found file by file. Assumes nothing: these are definitions.
use Rattle.std.specs.Prelude.{ℕ, ◌+◌, ◌*◌, ◌≤◌, ◌<◌, ◌≡◌, Bool, not, List, T}
use Rattle.bits.specs.Map.{on}
use Rattle.rules.specs.Pages.{file_of, page_of, key_of}
use Rattle.rules.specs.Readers.{reader_in, reads_file}
use Rattle.rules.specs.UseTimes.{before, never, ahead}
use Rattle.rules.specs.Orders.{place}
use Rattle.rules.specs.Ranks.{cached_among}
use Rattle.rules.specs.declared.State.{State}
use Rattle.rules.specs.declared.Reader.{Reader}
use Rattle.uses.specs.declared.Pick.{Pick}
use Rattle.uses.specs.Sights.{Ranked}

-- some slot's reader has page k before it
abbrev pub Ahead : List Reader → ℕ → Type 0
Ahead readers k = (j : ℕ) × (j < 16) × T (before (reader_in readers j) k)

-- of the first n slots, r is the least position of the readers of file f that have the page before them; the page itself where none has
pub record Least (readers : List Reader) (f page n r : ℕ) : Type 0 where
  pub low : r ≤ page
  pub all : (j : ℕ) → j < n → j < 16 → T (reads_file f (reader_in readers j)) → page ≤ (reader_in readers j).last → r ≤ (reader_in readers j).position
  pub met : r < page
      → (j : ℕ) × (j < n) × (j < 16) × T (reads_file f (reader_in readers j)) × ((reader_in readers j).position ≡ r) × (page ≤ (reader_in readers j).last)

-- page r of file f is cached, if it is one, and every cached page after it, up to `page`, is ahead of a reader
pub record Back (readers : List Reader) (cached : List ℕ) (f page r : ℕ) : Type 0 where
  pub held : 0 < r → T (on cached (key_of f r))
  pub passed : (k : ℕ) → T (on cached k) → file_of k ≡ f → r < page_of k → page_of k ≤ page → Ahead readers k

-- page r of file f, if it is one, is ahead of no reader
abbrev pub Free : List Reader → ℕ → ℕ → Type 0
Free readers f r = 0 < r → Ahead readers (key_of f r) → ⊥

-- the page kept, if any, is ahead of no reader, and of the first n files no page of the set that is ahead of none goes before it
pub record Rear (s : State) (files : ℕ → Bool) (n : ℕ) (p : Pick) : Type 0 where
  pub page : Ranked s files p
  pub deep : 0 < p.value → 2 * never ≤ p.value
  pub most : (k : ℕ) → file_of k < n → T (cached_among files s k) → T (not (ahead s k)) → 2 * never + place k ≤ p.value
