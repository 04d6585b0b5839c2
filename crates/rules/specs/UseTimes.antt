-- Look-aheads, times and use keys: 01, "Use times"; a look-ahead ends at the reader's last page (A.1), its pages are counted (A.3), and a page in fetch counts
-- as cached in q and in the pruning (A.5). Assumes nothing: these are definitions.
use Rattle.std.specs.Prelude.{ℕ, zero, suc, ◌+◌, ◌*◌, ◌-◌, ◌/◌, ◌%◌, Bool, not, cond, ◌&&◌, ◌||◌, List, length, leb, ltb, eqb}
use Rattle.rules.specs.Lists.{only, some_of, least, total}
use Rattle.rules.specs.Pages.{file_of, page_of, key_of, pages, cached, in_fetch}
use Rattle.rules.specs.Readers.{reader_at, attached}
use Rattle.rules.specs.declared.State.{State}
use Rattle.rules.specs.declared.Reader.{Reader}

-- the reader still has page k before it: c < page; and A.1: "a page beyond [its last page] is not ahead of that reader"
unfoldable pub before : Reader → ℕ → Bool
before r k = attached r && (eqb r.file (file_of k) && (ltb r.position (page_of k) && leb (page_of k) r.last))

-- j, where k is page c + j
abbrev pub steps : Reader → ℕ → ℕ
steps r k = page_of k - r.position

-- what q and the pruning take for cached; A.5: "a page in fetch counts as cached in q and in the pruning", in place of 01's "A page in fetch is not cached"
unfoldable pub present : State → ℕ → Bool
present s k = cached s k || in_fetch s k

-- how many of the pages c + 1 to c + n of file f are not present
unfoldable pub missing : State → ℕ → ℕ → ℕ → ℕ
missing s f c zero = 0
missing s f c (suc n) = cond (present s (key_of f (c + suc n))) 0 1 + missing s f c n

-- q, "the number of those pages not cached": of the pages c + 1 to c + j − 1 those that are not present (A.5)
abbrev pub between : State → Reader → ℕ → ℕ
between s r k = missing s r.file r.position (steps r k - 1)

-- "T is above 0 and the pages .. hold at least m not cached, m being L divided by T, rounded down": by q, and so by what is present
unfoldable pub pruned : State → ℕ → Bool
pruned s q = ltb 0 s.fetch_time && leb (s.look_ahead / s.fetch_time) q

-- page k is in the reader's look-ahead: j from 1 to K, K being L divided by w, rounded down; A.1: c + j at most the last page; not pruned
unfoldable pub sees : State → Reader → ℕ → Bool
sees s r k = before r k && (leb (steps r k) (s.look_ahead / r.pace) && not (pruned s (between s r k)))

-- the pages of the reader's look-ahead: none for an empty slot
unfoldable pub look_ahead_of : State → Reader → List ℕ
look_ahead_of s r = only (sees s r) (pages s)

-- A.3, what making an order reports: "how many pages its walks tested for being cached: exactly the pages of the look-aheads, added over the attached
-- readers". By A.5 they are tested for being present
unfoldable pub tested : State → ℕ
tested s = total 16 (λ slot. length (look_ahead_of s (reader_at s slot)))

-- "Its time for that reader is j × w + q × T"
unfoldable pub time_for : State → Reader → ℕ → ℕ
time_for s r k = steps r k * r.pace + between s r k * s.fetch_time

-- "A reader's seat distance is (slot − turn) modulo 16"
abbrev pub seat : State → ℕ → ℕ
seat s slot = (slot + 16 - s.turn) % 16

-- 2^26, above every use key of a valid state: a time is at most 2 × L, so a key at most 4,000,000 × 16 + 15
abbrev pub never : ℕ
never = 67108864

-- the pair (time, seat distance) of a slot for page k as one number, the time first; never, where the slot has not the page in look-ahead
unfoldable pub use_for : State → ℕ → ℕ → ℕ
use_for s k slot = cond (sees s (reader_at s slot) k) (time_for s (reader_at s slot) k * 16 + seat s slot) never

-- "A page's use key is the smallest pair (time, seat distance) over the readers that have it in look-ahead"
unfoldable pub use_key : State → ℕ → ℕ
use_key s k = least 16 (use_for s k) never

-- page k is ahead of some reader of its file
unfoldable pub ahead : State → ℕ → Bool
ahead s k = some_of 16 (λ slot. before (reader_at s slot) k)

-- page k is in a look-ahead
unfoldable pub seen : State → ℕ → Bool
seen s k = some_of 16 (λ slot. sees s (reader_at s slot) k)
