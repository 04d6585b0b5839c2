-- Schedules of any reads: 01, "Another schedule is a list of page sets, one for each of these reads". Assumes nothing: these are definitions.
use Rattle.std.specs.Prelude.{Bool, true, false, not, ◌&&◌, List, [], ◌∷◌, ℕ, zero, suc, ◌+◌, ◌≤◌, T}

-- a set of page keys; a schedule's may have keys that no file has, which makes the claim the stronger
abbrev pub Set : Type 0
Set = ℕ → Bool

abbrev pub num : Bool → ℕ
num true = 1
num false = 0

-- how many keys below n it has
unfoldable pub count : ℕ → Set → ℕ
count zero P = 0
count (suc n) P = num (P n) + count n P

-- the pages of the second set that are not in the first
abbrev pub added : Set → Set → Set
added B B' k = B' k && not (B k)

-- one set for each read: "Each set has the page of its read, and at most as many pages as there are frames"; keys from n on are not counted
unfoldable pub Serves : ℕ → ℕ → List ℕ → List Set → Type 0
Serves n frames [] [] = Unit {0}
Serves n frames [] (B ∷ Bs) = ⊥
Serves n frames (x ∷ xs) [] = ⊥
Serves n frames (x ∷ xs) (B ∷ Bs) = T (B x) × (count n B ≤ frames) × Serves n frames xs Bs

-- "A schedule's fetches are, summed over the reads, the number of pages in the read's set that are not in the set before; with no read, 0"
unfoldable pub fetches_in : ℕ → Set → List Set → ℕ
fetches_in n B [] = 0
fetches_in n B (B' ∷ Bs) = count n (added B B') + fetches_in n B' Bs
