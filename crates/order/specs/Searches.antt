-- The search for the page to give up: which readers are short of a page, and the best page so far, with its number. Assumes nothing: these are definitions.
use Rattle.std.specs.Prelude.{ℕ, ◌/◌, ◌%◌, ◌≤◌, ◌<◌, ◌≡◌, Bool, true, cond, List, T, ltb}
use Rattle.rules.specs.Pages.{file_of, page_of, cached}
use Rattle.rules.specs.Readers.{reader_in, reads_file}
use Rattle.rules.specs.UseTimes.{ahead}
use Rattle.rules.specs.Ranks.{rank, cached_among}
use Rattle.rules.specs.declared.State.{State}
use Rattle.rules.specs.declared.Reader.{Reader}
use Rattle.uses.specs.declared.Pick.{Pick}
use Rattle.uses.specs.declared.Queue.{Queue}
use Rattle.uses.specs.Sights.{Ranked}
use Rattle.uses.specs.Queues.{queue_number}
use Rattle.uses.specs.Queueing.{Has}

-- ---- the readers of a file

-- in the queue are readers of file f alone, and all of those that are short of the page
pub record HasShort (readers : List Reader) (f page : ℕ) (q : Queue) : Type 0 where
  pub sits : (x : ℕ) → Has q x → T (reads_file f (reader_in readers (x % 16))) × (x / 16 ≡ (reader_in readers (x % 16)).position)
  pub all : (j : ℕ) → j < 16 → T (reads_file f (reader_in readers j)) → (reader_in readers j).position < page → Has q (queue_number readers j)

-- each one of the queue is short of the page
abbrev pub AllShort : Queue → ℕ → Type 0
AllShort q page = (x : ℕ) → Has q x → x / 16 < page

-- ---- what the search keeps

-- r is page k's rank, or neither is above the floor
pub record Over (s : State) (k floor r : ℕ) : Type 0 where
  pub bound : rank s k ≤ r
  pub exact : floor < r → r ≡ rank s k

-- each cached page of the set is ahead of some reader
abbrev pub AllAhead : State → (ℕ → Bool) → Type 0
AllAhead s files = (k : ℕ) → T (cached_among files s k) → T (ahead s k)

-- page k instead of p, where its rank is higher
abbrev pub higher_of : State → ℕ → Pick → Pick
higher_of s k p = cond (ltb p.value (rank s k)) (record { key = k; value = rank s k }) p

-- p was kept before a look at the cached pages of file f past page n, and q after it: no lower, and none of these ranks above it
pub record Raised (s : State) (files : ℕ → Bool) (f n : ℕ) (p q : Pick) : Type 0 where
  pub page : Ranked s files q
  pub up : p.value ≤ q.value
  pub most : (k : ℕ) → T (cached s k) → file_of k ≡ f → n < page_of k → rank s k ≤ q.value

-- so it is in every set that has the file and whose cached pages are all ahead of some reader
abbrev pub Looked : State → ℕ → ℕ → Pick → Pick → Type 0
Looked s f n p q = (files : ℕ → Bool) → files f ≡ true → AllAhead s files → Ranked s files p → Raised s files f n p q

-- the page kept, if any, is the first of the set's to go: no cached page of the set has a higher rank
pub record First (s : State) (files : ℕ → Bool) (p : Pick) : Type 0 where
  pub page : Ranked s files p
  pub top : (k : ℕ) → T (cached_among files s k) → rank s k ≤ p.value
