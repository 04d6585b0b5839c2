-- What holds of all numbers below a bound. Assumes nothing.
use mathlib.Core.Path.{◌≡◌, subst}
use Prim.Native.Nat.{ℕ, ◌+◌, ◌<◌}
use native.Mathlib.Decide.{dec_lt}
use native.Mathlib.Omega.{arith}

-- what holds below n and of n holds below n + 1
pub one_more : (P : ℕ → Type 0) (n : ℕ) → ((j : ℕ) → j < n → P j) → P n → (j : ℕ) → j < n + 1 → P j
one_more P n h p j l = go (dec_lt j n)
  where
    go : Dec (j < n) → P j
    go (yes m) = h j m
    go (no m) = let e : n ≡ j = omega arith in subst P e p
