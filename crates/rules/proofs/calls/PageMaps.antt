-- The pages that a map has after a bit is put into it. Assumes nothing.
use Prim.Native.Nat.{ℕ, ◌≤◌, ◌<◌}
use mathlib.Core.Path.{◌≡◌, refl, sym}
use mathlib.Core.Bool.{not, cond, ◌&&◌, ◌||◌}
use mathlib.Core.List.{List}
use native.Mathlib.Omega.{arith}
use lib.Dec.{T, eqb}
use Rattle.bits.specs.Map.{bit, on, put_bit}
use Rattle.bits.proofs.Bits.{put_same, put_other, put-length, put-fits}
use Rattle.rules.specs.Valid.{PageMap}
use Rattle.rules.proofs.laws.Tests.{key, both}
use Rattle.rules.proofs.laws.Counting.{has_key}

-- it stays a map of 128 words of 64 bits
pub map-put : (words : List ℕ) (k v : ℕ) → v ≤ 1 → PageMap words → PageMap (put_bit words k v)
map-put words k v h m = record { all = rw (put-length words k v) m.all; fit = put-fits words k v h m.fit }

module _ (words : List ℕ) (m : PageMap words) (k : ℕ) (low : k < 8192) where
  -- the bit of k is the one put, and the others stay
  bit-put : (v j : ℕ) → v ≤ 1 → bit (put_bit words k v) j ≡ cond (eqb k j) v (bit words j)
  bit-put v j h = key k j (λ b. bit (put_bit words k v) j ≡ cond b v (bit words j))
      (λ e. rw (← e, put_same words k v h (omega (arith, m.all)))) (λ ne. put_other words k v j h (λ e. ne (sym e)))

  -- a bit set adds the page
  pub on-put : (j : ℕ) → on (put_bit words k 1) j ≡ (eqb k j || on words j)
  on-put j = rw (bit-put 1 j (omega arith)) (both (eqb k j) (λ b. eqb (cond b 1 (bit words j)) 1 ≡ (b || on words j)) (λ _. refl) (λ _. refl))

  -- a bit cleared takes it away
  pub off-put : (j : ℕ) → on (put_bit words k 0) j ≡ (not (eqb k j) && on words j)
  off-put j = rw (bit-put 0 j (omega arith)) (both (eqb k j) (λ b. eqb (cond b 0 (bit words j)) 1 ≡ (not b && on words j)) (λ _. refl) (λ _. refl))

  -- the page put is there
  pub put_on : T (on (put_bit words k 1) k)
  put_on = rw (on-put k) (has_key k (on words k))

  -- the page cleared is not
  pub put-off : T (on (put_bit words k 0) k) → ⊥
  put-off = rw (off-put k) (key k k (λ b. T (not b && on words k) → ⊥) (λ _ z. z) (λ ne. absurd (ne refl)))
