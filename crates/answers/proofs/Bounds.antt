-- How long an answer line can be, and how long the lists that are lent. Assumes nothing.
use Rattle.std.proofs.Common.{ℕ, zero, suc, ◌+◌, ◌-◌, ◌*◌, ◌/◌, ◌^◌, ◌≤◌, ◌<◌, ◌≡◌, Bool, true, false, not, cond, ◌&&◌, T, List, [], ◌∷◌, ◌++◌, length}
use Rattle.std.proofs.Common.{refl, ap, arith, pow-suc, suc-mul, length-append}
use Rattle.rules.specs.Lists.{range, each, only}
use Rattle.rules.specs.Pages.{file_of, page_of, size, cached, Page, held, ends, pages, clusters}
use Rattle.rules.specs.Orders.{wanted, steal_order, fetch_order}
use Rattle.rules.specs.Schedules.{num, count}
use Rattle.rules.specs.Valid.{Valid}
use Rattle.rules.specs.Lines.{digits_of, line_of, order_line, clusters_line, field_of}
use Rattle.rules.specs.declared.State.{State}
use Rattle.rules.proofs.laws.Tests.{less}
use Rattle.rules.proofs.laws.Members.{All, all_map, all-only, range-in}
use Rattle.rules.proofs.laws.Sorts.{all-sorted, sorted-length}
use Rattle.rules.proofs.laws.Counts.{pages-count}
use Rattle.rules.proofs.orders.Ranks.{pages-in}
use Rattle.rules.proofs.orders.Distinct.{wanted-page}
use Rattle.rules.proofs.orders.Victims.{steal-length, steal-cached}
use Rattle.text.proofs.Puts.{digits-one, digits_more}
use Rattle.answers.proofs.Rows.{pair_fields, keys-fields}

-- ---- lines

-- a number below 10 ^ (m + 1) has at most m + 1 digits
digits-few : (m k n : ℕ) → n < 10 ^ suc m → length (digits_of k n) ≤ suc m
unfolding digits_of
digits-few m zero n h = omega arith
digits-few zero (suc k) n h = rw (digits-one k n h) (omega arith)
digits-few (suc m) (suc k) n h =
    less n 10 (λ _. length (digits_of (suc k) n) ≤ suc (suc m))
    (λ l. rw (digits-one k n l) (omega arith))
    (λ l.
    let p = pow-suc 10 (suc m) in
    rw (digits_more k n l, length-append) (omega (arith, digits-few m k (n / 10) (omega arith))))

-- so many bytes a member
each-few : (g : ℕ → List ℕ) (b : ℕ) (l : List ℕ) → All (λ x. length (g x) ≤ b) l → length (each g l) ≤ length l * b
unfolding each
each-few g b [] h = omega arith
each-few g b (x ∷ l) h = rw (length-append, suc-mul) (omega (arith, h.0, each-few g b l h.1))

-- a key
abbrev pub Key : ℕ → Type 0
Key k = k < 8192

pair-few : (k : ℕ) → Key k → length (pair_fields k) ≤ 7
unfolding each
pair-few k h =
    let file : file_of k < 10 ^ 1 = omega arith in
    let page : page_of k < 10 ^ 4 = omega arith in
    simp length-append (omega (arith, digits-few 0 10 (file_of k) file, digits-few 3 10 (page_of k) page))

-- a line of keys
pub order-length : (first : ℕ) (keys : List ℕ) → length keys ≤ 8192 → All Key keys → length (order_line first keys) ≤ 57350
unfolding line_of each
order-length first keys few low =
    let many : length keys < 10 ^ 4 = omega arith in
    let all = all_map Key (λ k. length (pair_fields k) ≤ 7) keys pair-few low in
    rw (keys-fields keys, length-append (digits_of 10 (length keys)))
    (omega (arith, digits-few 3 10 (length keys) many, each-few pair_fields 7 keys all))

-- a line of clusters
pub clusters-length : (numbers : List ℕ) → length numbers ≤ 2048 → All Key numbers → length (clusters_line numbers) ≤ 57350
unfolding line_of each
clusters-length numbers few low =
    let many : length numbers / 2 < 10 ^ 4 = omega arith in
    let all = all_map Key (λ p. length (field_of p) ≤ 5) numbers (λ p h. omega (arith, digits-few 3 10 p (omega arith))) low in
    rw (length-append (digits_of 10 (length numbers / 2))) (omega (arith, digits-few 3 10 (length numbers / 2) many, each-few field_of 5 numbers all))

-- ---- lists

bit-most : (b : Bool) → num b ≤ 1
bit-most true = omega arith
bit-most false = omega arith

count_most : (n : ℕ) (P : ℕ → Bool) → count n P ≤ n
unfolding count
count_most zero P = omega arith
count_most (suc n) P = omega (arith, bit-most (P n), count_most n P)

module _ (s : State) (v : Valid s) where
  keys-in : (P : ℕ → Bool) → All Key (only P (pages s))
  keys-in P = all_map (λ k. T (P k) × Page s k) Key (only P (pages s)) (λ k h. h.1.low) (all-only P (Page s) (pages s) (pages-in s v))

  -- the steal order: at most 1,024 keys
  pub steal-few : length (steal_order s) ≤ 1024
  steal-few = omega (arith, steal-length s v, v.room, v.frames_high)

  pub steal-low : All Key (steal_order s)
  steal-low = all_map (λ k. T (cached s k)) Key (steal_order s) (λ k h. (v.cached_in k h).low) (steal-cached s v)

  -- the fetch order: at most 8,192
  pub fetch-few : length (fetch_order s) ≤ 8192
  unfolding fetch_order
  fetch-few = rw (sorted-length, pages-count s v.sizes_high (wanted s) (wanted-page s v)) (count_most 8192 (wanted s))

  pub fetch-low : All Key (fetch_order s)
  unfolding fetch_order
  fetch-low = all-sorted _ Key (only (wanted s) (pages s)) (keys-in (wanted s))

-- at most two numbers a page
ends-few : (s : State) (f p : ℕ) → length (ends s f p) ≤ 2
unfolding ends
ends-few s f p = two (held s f p && not (held s f (p - 1))) (held s f p && not (held s f (p + 1)))
  where
    two : (a b : Bool) → length (cond a (p ∷ []) [] ++ cond b (p ∷ []) []) ≤ 2
    two true true = omega arith
    two true false = omega arith
    two false true = omega arith
    two false false = omega arith

range_length : (a n : ℕ) → length (range a n) ≡ n
unfolding range
range_length a zero = refl
range_length a (suc n) = ap suc (range_length (a + 1) n)

-- the clusters of a file
pub clusters-few : (s : State) (f : ℕ) → size s f ≤ 1024 → length (clusters s f) ≤ 2048
unfolding clusters
clusters-few s f small =
    let all = range-in (λ p. length (ends s f p) ≤ 2) 1 (size s f) (λ p _ _. ends-few s f p) in
    omega (arith, each-few (ends s f) 2 (range 1 (size s f)) all, range_length 1 (size s f))
