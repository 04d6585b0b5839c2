-- Files, pages, the two maps and the clusters: 01, "State". Assumes nothing: these are definitions.
use Rattle.std.specs.Prelude.{ℕ, ◌+◌, ◌*◌, ◌-◌, ◌/◌, ◌%◌, ◌≤◌, ◌<◌, Bool, not, cond, ◌&&◌, List, [], ◌∷◌, ◌++◌, get_or}
use Rattle.bits.specs.Map.{on}
use Rattle.rules.specs.Lists.{range, each, only, within}
use Rattle.rules.specs.declared.State.{State}

-- "A page number in a list is its key: file × 1,024 + page − 1"; pages count from 1
abbrev pub key_of : ℕ → ℕ → ℕ
key_of f p = f * 1024 + p - 1

abbrev pub file_of : ℕ → ℕ
file_of k = k / 1024

abbrev pub page_of : ℕ → ℕ
page_of k = k % 1024 + 1

-- a file's size; 0: no such file
abbrev pub size : State → ℕ → ℕ
size s f = get_or s.sizes f 0

-- every page of every file by its key, each once
unfoldable pub pages : State → List ℕ
pages s = each (λ f. range (f * 1024) (size s f)) (range 0 8)

-- k is the key of a page of a file
pub record Page (s : State) (k : ℕ) : Type 0 where
  pub low : k < 8192
  pub there : page_of k ≤ size s (file_of k)

-- "A page is cached, in fetch, or neither": "The cached map has one bit a page", the fetch map likewise
abbrev pub cached : State → ℕ → Bool
cached s k = on s.cached k

abbrev pub in_fetch : State → ℕ → Bool
in_fetch s k = on s.fetching k

unfoldable pub cached_pages : State → List ℕ
cached_pages s = only (cached s) (pages s)

unfoldable pub fetching_pages : State → List ℕ
fetching_pages s = only (in_fetch s) (pages s)

-- page p of the file is there and cached
unfoldable pub held : State → ℕ → ℕ → Bool
held s f p = within 1 (size s f) p && cached s (key_of f p)

-- "A cluster is a longest unbroken stretch of cached pages of one file": p if it is the low page of one, and p again if it is the high page of one
unfoldable pub ends : State → ℕ → ℕ → List ℕ
ends s f p = cond (held s f p && not (held s f (p - 1))) (p ∷ []) [] ++ cond (held s f p && not (held s f (p + 1))) (p ∷ []) []

-- low and high page of each cluster of the file, by rising page
unfoldable pub clusters : State → ℕ → List ℕ
clusters s f = each (ends s f) (range 1 (size s f))
