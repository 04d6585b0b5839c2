-- The tests of the two maps are those of their keys. Assumes nothing.
use mathlib.Core.Path.{◌≡◌}
use mathlib.Core.Bool.{Bool, true, false, ◌&&◌, ◌||◌}
use mathlib.Core.List.{List}
use Prim.Native.Nat.{ℕ, ◌+◌, ◌*◌, ◌-◌, ◌/◌, ◌%◌, ◌≤◌, ◌<◌}
use native.Mathlib.Decide.{dec_lt}
use native.Mathlib.Omega.{arith}
use lib.Dec.{T, leb, leb→le, le→leb}
use Rattle.rules.specs.Lists.{range, every}
use Rattle.rules.specs.Pages.{size, file_of, page_of}
use Rattle.rules.specs.Image.{key_holds}
use Rattle.rules.proofs.laws.Tests.{and_both, and_first, and_second, or_left, or_right}
use Rattle.image.specs.Tests.{apart_at, clear_at, clear_above, size_holds}
use Rattle.image.proofs.Checks.{same_test, every_in, every-at}
use Rattle.rules.specs.declared.State.{State}

first_of : (a b : Bool) → T (a || b) → (T b → ⊥) → T a
first_of true b h n = tt
first_of false b h n = n h

-- ---- one file

module _ (cached fetching : List ℕ) (f size : ℕ) where
  -- a file of 1,024 pages has no key above them
  pub above-none : size ≡ 1024 → true ≡ clear_above cached fetching f size
  unfolding clear_above every range
  above-none e = rw e

  -- its last key is that before the next file's first
  pub above-some : (t : Bool) → t ≡ every (clear_at cached fetching) (range (f * 1024 + size) ((f * 16 + 16) * 64 - (f * 1024 + size)))
      → t ≡ clear_above cached fetching f size
  unfolding clear_above
  above-some t e =
      let n : (f * 16 + 16) * 64 - (f * 1024 + size) ≡ 1024 - size = omega arith in
      rw n at e

-- ---- all keys

module _ (s : State) where
  abbrev apart : ℕ → Bool
  apart = apart_at s.cached s.fetching

  abbrev clear : ℕ → Bool
  clear = clear_at s.cached s.fetching

  -- k is the key of a page of its file
  abbrev there : ℕ → Bool
  there k = leb (page_of k) (size s (file_of k))

  abbrev above : ℕ → Bool
  above = size_holds s.sizes s.cached s.fetching

  below-there : (k : ℕ) → k < 8192 → T (every above (range 0 8)) → Dec (k % 1024 < size s (k / 1024)) → T (clear k || there k)
  unfolding clear_above
  below-there k l h (yes b) = or_right (clear k) (there k) (le→leb (page_of k) (size s (file_of k)) (omega arith))
  below-there k l h (no b) =
      let n : ℕ = size s (k / 1024) in
      let file = every-at above 0 8 h (k / 1024) (omega arith) (omega arith) in
      or_left (clear k) (there k) (every-at clear (k / 1024 * 1024 + n) (1024 - n) file k (omega arith) (omega arith))

  above-clear : (f k : ℕ) → f * 1024 + size s f ≤ k → k < f * 1024 + size s f + (1024 - size s f) → T (clear k || there k) → T (clear k)
  above-clear f k l m h =
      let q : k / 1024 ≡ f = omega arith in
      first_of (clear k) (there k) h (λ t. let in-file : page_of k ≤ size s f = rw q at (leb→le (page_of k) (size s (file_of k)) t) in omega arith)

  -- no page in both, and none above a file: so it is key by key
  pub maps-keys : (every apart (range 0 8192) && every above (range 0 8)) ≡ every (key_holds s) (range 0 8192)
  unfolding key_holds clear_above
  maps-keys =
      let A = every apart (range 0 8192) in
      let B = every above (range 0 8) in
      same_test (A && B) (every (key_holds s) (range 0 8192))
      (λ h. every_in (key_holds s) 0 8192 (λ k l m.
      and_both (apart k) _ (every-at apart 0 8192 (and_first A B h) k l m) (below-there k m (and_second A B h) (dec_lt (k % 1024) (size s (k / 1024))))))
      (λ h. let key = every-at (key_holds s) 0 8192 h in
      and_both A B (every_in apart 0 8192 (λ k l m. and_first (apart k) _ (key k l m)))
      (every_in above 0 8 (λ f _ low. every_in clear (f * 1024 + size s f) (1024 - size s f) (λ k l m.
      above-clear f k l m (and_second (apart k) _ (key k (omega arith) (omega arith)))))))
