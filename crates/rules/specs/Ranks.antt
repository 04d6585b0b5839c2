-- The steal order of each rule and the fetch order by numbers, the page that the search for the next fetch looks at for each slot, and look-aheads by keys:
-- the words in which the code's contracts speak of the orders. proofs/orders/Ranks.antt, Candidates.antt, Victims.antt and Stretches.antt show that these are
-- the orders and the look-aheads. Assumes nothing: these are definitions.
use Rattle.std.specs.Prelude.{ℕ, ◌+◌, ◌*◌, ◌≤◌, ◌<◌, ◌≡◌, Bool, cond, ◌&&◌, ◌||◌, List, [], ◌∷◌, T}
use Rattle.std.specs.declared.option.Option.{Option}
use Rattle.bits.specs.Map.{on}
use Rattle.rules.specs.Lists.{only, head}
use Rattle.rules.specs.Pages.{file_of, page_of, cached}
use Rattle.rules.specs.Readers.{reader_at, attached, next_key}
use Rattle.rules.specs.UseTimes.{before, present, sees, never, use_for, use_key, ahead, seen}
use Rattle.rules.specs.Orders.{place, order1989, standing_in, absent}
use Rattle.rules.specs.declared.State.{State}
use Rattle.rules.specs.declared.Reader.{Reader}

-- ---- what q takes for cached, what a reader has before it, and what it sees

-- the pages that q and the pruning take for cached are those with a bit in one of these two maps
abbrev pub Presents : State → List ℕ → List ℕ → Type 0
Presents s cached fetching = (k : ℕ) → present s k ≡ (on cached k || on fetching k)

-- `before`, in its parts
pub record Before (r : Reader) (k : ℕ) : Type 0 where
  pub here : T (attached r)
  pub in_its_file : r.file ≡ file_of k
  pub past : r.position < page_of k
  pub in_reach : page_of k ≤ r.last

-- the n keys from the reader's next page on are in its look-ahead, and the one after them is not. A look-ahead has no gaps, so it is these
pub record Stretch (s : State) (r : Reader) (n : ℕ) : Type 0 where
  pub inside : (i : ℕ) → i < n → T (sees s r (next_key r + i))
  pub outside : T (sees s r (next_key r + n)) → ⊥

-- ---- the steal order of the 1989 rule

-- the rank of a page: the higher, the sooner it goes
unfoldable pub rank : State → ℕ → ℕ
rank s k = cond (ahead s k) (cond (seen s k) (use_key s k) (never + place k)) (2 * never + place k)

-- a cached page of the files of a set
abbrev pub cached_among : (ℕ → Bool) → State → ℕ → Bool
cached_among files s k = cached s k && files (file_of k)

-- the page to give up among the files of a set: the first of their pages as the 1989 rule has them. The box's own is that of all files under that rule, and
-- that of the file chosen under the other
unfoldable pub victim_among : (ℕ → Bool) → State → Option ℕ
victim_among files s = head (only (λ k. files (file_of k)) (order1989 s))

-- a key's number, then the key
abbrev pub pack : (ℕ → ℕ) → ℕ → ℕ
pack g k = g k * 8192 + k

-- ---- the steal order of the 1993 rule (A.6)

-- some pages, each packed with the number of its file where it and the pages behind it are left. Of the pages as the 1989 rule has them, the keys of these
-- numbers, larger number first, are the order of the 1993 rule
unfoldable pub weighed : ℕ → (ℕ → ℕ) → List ℕ → List ℕ
weighed frames weight [] = []
weighed frames weight (k ∷ left) = (standing_in frames weight (k ∷ left) (file_of k) * 8192 + k) ∷ weighed frames weight left

-- ---- the fetch order

-- k is the first absent page that the reader has before it
pub record FirstAbsent (s : State) (r : Reader) (k : ℕ) : Type 0 where
  pub ahead_of : T (before r k)
  pub lacking : T (absent s k)
  pub first : (i : ℕ) → T (before r i) → page_of i < page_of k → T (absent s i) → ⊥

-- slot j's first absent page, if the slot sees it, has for the slot a key of at least b
abbrev pub AtLeast : State → ℕ → ℕ → Type 0
AtLeast s b j = (k : ℕ) → T (sees s (reader_at s j) k) → FirstAbsent s (reader_at s j) k → b ≤ use_for s k j

-- no first absent page of the first m slots that its slot sees has for the slot a key below b
abbrev pub NoneBelow : State → ℕ → ℕ → Type 0
NoneBelow s m b = (j : ℕ) → j < m → AtLeast s b j
