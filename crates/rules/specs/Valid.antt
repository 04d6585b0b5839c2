-- What holds of every state of the box: the ranges of 01, "State", in its order, and what the calls leave of readers and pages. Assumes nothing: these
-- are definitions.
use Rattle.std.specs.Prelude.{ℕ, ◌^◌, ◌≤◌, ◌<◌, ◌≡◌, List, get_or, length, T}
use Rattle.rules.specs.Pages.{size, cached, in_fetch, Page, cached_pages}
use Rattle.rules.specs.Readers.{no_reader, reader_at, mark_at, awaits}
use Rattle.rules.specs.Orders.{expected_at, attaches_at}
use Rattle.rules.specs.declared.State.{State}
use Rattle.rules.specs.declared.Reader.{Reader}
use Rattle.rules.specs.declared.Condition.{Condition}
use Rattle.rules.specs.declared.Condition.TheVariants.{Empty, Running, Waiting}

-- an attached reader: a file that is there, a pace of 1 to 1,000, a last page in the file (A.1), a position up to it
pub record Placed (s : State) (r : Reader) : Type 0 where
  pub file_high : r.file < 8
  pub file_there : 1 ≤ size s r.file
  pub pace_low : 1 ≤ r.pace
  pub pace_high : r.pace ≤ 1000
  pub last_low : 1 ≤ r.last
  pub last_high : r.last ≤ size s r.file
  pub position_in : r.position ≤ r.last

-- by condition: an empty slot is all 0, and a waiting reader is not at its last page (A.1) and has its next page in fetch
abbrev pub ReaderIn : Condition → State → Reader → Type 0
ReaderIn Empty s r = r ≡ no_reader
ReaderIn Running s r = Placed s r
ReaderIn Waiting s r = Placed s r × T (awaits s r)

-- a map of 128 words of 64 bits, as its type has it
pub record PageMap (words : List ℕ) : Type 0 where
  pub all : length words ≡ 128
  pub fit : (i : ℕ) → get_or words i 0 < 2 ^ 64

pub record Valid (s : State) : Type 0 where
  pub eight : length s.sizes ≡ 8
  pub sizes_high : (f : ℕ) → size s f ≤ 1024
  pub frames_low : 1 ≤ s.frames
  pub frames_high : s.frames ≤ 1024
  pub look_low : 1 ≤ s.look_ahead
  pub look_high : s.look_ahead ≤ 2000000
  pub time_high : s.fetch_time ≤ 2000000
  pub sixteen : length s.readers ≡ 16
  pub readers_in : (j : ℕ) → ReaderIn (reader_at s j).condition s (reader_at s j)
  -- A.2: a mark is "at most the position", and so "0 for an empty slot"
  pub marks_all : length s.marks ≡ 16
  pub marks_in : (j : ℕ) → mark_at s j ≤ (reader_at s j).position
  pub turn_high : s.turn < 16
  -- A.6: E is "0 to 1,000", R "stops at 65,535"
  pub expected_all : length s.expected ≡ 8
  pub expected_high : (f : ℕ) → expected_at s f ≤ 1000
  pub attaches_all : length s.attaches ≡ 8
  pub attaches_high : (f : ℕ) → attaches_at s f ≤ 65535
  pub cached_map : PageMap s.cached
  pub fetching_map : PageMap s.fetching
  pub cached_in : (k : ℕ) → T (cached s k) → Page s k
  pub fetching_in : (k : ℕ) → T (in_fetch s k) → Page s k
  -- a page is cached, in fetch, or neither
  pub apart : (k : ℕ) → T (cached s k) → T (in_fetch s k) → ⊥
  -- cached pages never outnumber the frames
  pub room : length (cached_pages s) ≤ s.frames
