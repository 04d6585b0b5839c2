-- Laws of the digits of one word. `digit` is the library's `bit_at`.
use Rattle.std.proofs.Common.{◌≡◌, cond, ◌||◌, ℕ, zero, suc, ◌+◌, ◌-◌, ◌*◌, ◌/◌, ◌%◌, ◌^◌, ◌≤◌, ◌<◌, max, eqb, w64, refl, sym, ap, ◌∙◌, add-zero}
use Rattle.std.proofs.Common.{pow-suc, arith, eq-eqb, ne_eqb, bit_and, bit_or}
use Rattle.std.proofs.Math.Decide.{ℕ_discrete}
use Rattle.std.specs.Int.Bits.{and_le_l, or_add_and}
use Rattle.std.specs.Int.Count.{under, count_trailing_zeros, count_leading_zeros}
use Rattle.std.proofs.Math.Pow.{pow-lt, field, mod-mod-pow}
use Rattle.std.proofs.lemmas.Nat.{shl-shr, shr-shr, and_comm, and-not, leading_length}
use Rattle.std.proofs.lemmas.Nat.Bits.{bit_at-suc, bit_at-zero, bit_at_above, bit_at_cat_low, bit_at_set_same, bit_at_set_other, and_pow}
use Rattle.bits.specs.Map.{digit}

-- the digits of w / 2 are those of w from 1 on
pub digit-step : (w i : ℕ) → digit w (suc i) ≡ digit (w / 2) i
digit-step = bit_at-suc

-- the digits of `w >> s`
pub digit-shr : (w s i : ℕ) → digit (w / 2 ^ s) i ≡ digit w (s + i)
digit-shr w s i = ap (λ (x : ℕ). x % 2) (shr-shr w s i)

-- a word of n digits has no digit set from n on
pub digit-high : (w n i : ℕ) → w < 2 ^ n → n ≤ i → digit w i ≡ 0
digit-high = bit_at_above

-- the digits of the complement
pub digit_not : (n w i : ℕ) → w < 2 ^ n → i < n → digit (2 ^ n - 1 - w) i + digit w i ≡ 1
digit_not zero w i h p = absurd (omega arith)
digit_not (suc n) w zero h p = rw pow-suc (omega (arith, pow-suc 2 n))
digit_not (suc n) w (suc i) h p =
    let e : (2 ^ suc n - 1 - w) / 2 ≡ 2 ^ n - 1 - w / 2 = rw pow-suc (omega (arith, pow-suc 2 n)) in
    rw (digit-step (2 ^ suc n - 1 - w) i, digit-step w i, e) (digit_not n (w / 2) i (omega (arith, pow-suc 2 n)) (omega arith))

-- ---- two words, digit by digit

-- a law of two digits, shown for each two
pub by_digits : (P : ℕ → ℕ → Type 0) → P 0 0 → P 0 1 → P 1 0 → P 1 1 → (a b : ℕ) → a ≤ 1 → b ≤ 1 → P a b
by_digits P s t u v zero zero p q = s
by_digits P s t u v zero (suc zero) p q = t
by_digits P s t u v (suc zero) zero p q = u
by_digits P s t u v (suc zero) (suc zero) p q = v
by_digits P s t u v (suc (suc a)) b p q = let z : ⊥ = omega arith in absurd z
by_digits P s t u v zero (suc (suc b)) p q = let z : ⊥ = omega arith in absurd z
by_digits P s t u v (suc zero) (suc (suc b)) p q = let z : ⊥ = omega arith in absurd z

-- a digit of `x | y` is set where one of the two is
pub or_set : (a b : ℕ) → a ≤ 1 → b ≤ 1 → eqb (max a b) 1 ≡ (eqb a 1 || eqb b 1)
or_set = by_digits (λ a b. eqb (max a b) 1 ≡ (eqb a 1 || eqb b 1)) refl refl refl refl

-- ---- shifts to the left

-- the digits of a remainder
digit-mod : (w n i : ℕ) → i < n → digit (w % 2 ^ n) i ≡ digit w i
digit-mod w n i h =
    let e : n ≡ (n - suc i + 1) + i = omega arith in
    ap (λ (k : ℕ). digit (w % 2 ^ k) i) e ∙ ap (λ (x : ℕ). x % 2) (field w (n - suc i + 1) i) ∙ mod-mod-pow (w / 2 ^ i) (n - suc i) 1

-- the digits below a multiple of 2 ^ k
low_clear : (w k i : ℕ) → i < k → digit (w * 2 ^ k) i ≡ 0
low_clear w k i h = rw add-zero at (bit_at_cat_low w k 0 i h) ∙ bit_at-zero i

-- `w << k` in a word of n digits: the k lowest are 0
pub shl-low : (w k n i : ℕ) → k ≤ n → i < k → digit (w * 2 ^ k % 2 ^ n) i ≡ 0
shl-low w k n i h p = digit-mod (w * 2 ^ k) n i (omega arith) ∙ low_clear w k i p

-- and those above are the digits of w
pub shl-high : (w k n i : ℕ) → k + i < n → digit (w * 2 ^ k % 2 ^ n) (k + i) ≡ digit w i
shl-high w k n i h = digit-mod (w * 2 ^ k) n (k + i) h ∙ sym (digit-shr (w * 2 ^ k) k i) ∙ ap (λ (x : ℕ). digit x i) (shl-shr w k)

-- ---- one digit put into a word

-- the word w with v for digit i
abbrev pub put : ℕ → ℕ → ℕ → ℕ
put w i v = w - digit w i * 2 ^ i + v * 2 ^ i

-- the digit's part of the word
digit-part : (w i : ℕ) → digit w i * 2 ^ i ≤ w
digit-part w i = rw (and_pow w i) at (and_le_l w (2 ^ i))

-- `w | (1 << i)`
pub or_put : (w i : ℕ) → bit_or w (2 ^ i) ≡ put w i 1
or_put w i = omega (arith, or_add_and w (2 ^ i), and_pow w i, digit-part w i)

-- `w & !(1 << i)`
pub and_put : (w i : ℕ) → w < 2 ^ 64 → i < 64 → bit_and w (2 ^ 64 - 1 - 2 ^ i) ≡ put w i 0
and_put w i f h =
    let x : ℕ = 2 ^ 64 - 1 - 2 ^ i in
    rw (and_comm w x) (omega (arith, and-not 64 (2 ^ i) w (pow-lt h) f, and_comm w (2 ^ i), and_pow w i))

-- the digits of w / 2, and the lowest one
put_step : (w i v : ℕ) → put w (suc i) v ≡ put (w / 2) i v * 2 + w % 2
put_step w i v = rw (digit-step w i, pow-suc 2 i) (omega (arith, digit-part (w / 2) i))

-- the digits from 1 on
put-half : (w i v : ℕ) → put w (suc i) v / 2 ≡ put (w / 2) i v
put-half w i v = rw (put_step w i v) (omega arith)

-- digit i is v
pub put-digit : (w i v : ℕ) → v ≤ 1 → digit (put w i v) i ≡ v
put-digit w zero v h = omega arith
put-digit w (suc i) v h = rw (digit-step (put w (suc i) v) i, put-half w i v) (put-digit (w / 2) i v h)

-- every other digit is as it was
pub put-digits : (w i v j : ℕ) → (j ≡ i → ⊥) → v ≤ 1 → digit (put w i v) j ≡ digit w j
put-digits w zero v zero n h = absurd (n refl)
put-digits w zero v (suc j) n h =
    let e : put w 0 v / 2 ≡ w / 2 = omega arith in
    rw (digit-step (put w 0 v) j, digit-step w j, e)
put-digits w (suc i) v zero n h = rw (put_step w i v) (omega arith)
put-digits w (suc i) v (suc j) n h = rw (digit-step (put w (suc i) v) j, digit-step w j, put-half w i v) (put-digits (w / 2) i v j (λ e. n (ap suc e)) h)

-- a word of n digits stays one
pub put-lt : (n w i v : ℕ) → w < 2 ^ n → i < n → v ≤ 1 → put w i v < 2 ^ n
put-lt zero w i v h p q = absurd (omega arith)
put-lt (suc n) w zero v h p q = omega (arith, pow-suc 2 n)
put-lt (suc n) w (suc i) v h p q = rw (put_step w i v) (omega (arith, pow-suc 2 n, put-lt n (w / 2) i v (omega (arith, pow-suc 2 n)) (omega arith) q))

-- ---- the zeros at the ends of a word

-- no digit below the trailing zeros' end is set
pub trailing-clear : (n w i : ℕ) → i < count_trailing_zeros n w → digit w i ≡ 0
unfolding count_trailing_zeros
trailing-clear zero w i h = absurd (omega arith)
trailing-clear (suc n) w zero h = go (w % 2) refl h
  where
    go : (d : ℕ) → w % 2 ≡ d → 0 < under d (count_trailing_zeros n (w / 2)) → digit w 0 ≡ 0
    go zero e l = omega arith
    go (suc d) e l = absurd (omega arith)
trailing-clear (suc n) w (suc i) h = digit-step w i ∙ trailing-clear n (w / 2) i (go (w % 2) h)
  where
    go : (d : ℕ) → suc i < under d (count_trailing_zeros n (w / 2)) → i < count_trailing_zeros n (w / 2)
    go zero l = omega arith
    go (suc d) l = absurd (omega arith)

-- the digit at their end is
pub trailing-set : (n w : ℕ) → count_trailing_zeros n w < n → digit w (count_trailing_zeros n w) ≡ 1
unfolding count_trailing_zeros
trailing-set zero w h = absurd (omega arith)
trailing-set (suc n) w h = go (w % 2) refl (trailing-set n (w / 2)) h
  where
    go : (d : ℕ) → w % 2 ≡ d → (count_trailing_zeros n (w / 2) < n → digit (w / 2) (count_trailing_zeros n (w / 2)) ≡ 1)
        → under d (count_trailing_zeros n (w / 2)) < suc n → digit w (under d (count_trailing_zeros n (w / 2))) ≡ 1
    go zero e ih l = digit-step w (count_trailing_zeros n (w / 2)) ∙ ih (omega arith)
    go (suc d) e ih l = omega arith

-- none of the leading zeros is set
pub leading-clear : (n w i : ℕ) → w < 2 ^ n → n ≤ count_leading_zeros n w + i → digit w i ≡ 0
leading-clear n w i h p =
    let t = leading_length n w h in
    digit-high w t.0 i t.2 (omega (arith, t.1))

-- the highest of m + 1 digits
top_set : (w m : ℕ) → w < 2 ^ suc m → 2 ^ suc m ≤ 2 * w + 1 → digit w m ≡ 1
top_set w zero h p = omega arith
top_set w (suc m) h p = digit-step w m ∙ top_set (w / 2) m (omega (arith, pow-suc 2 (suc m))) (omega (arith, pow-suc 2 (suc m), pow-suc 2 m))

-- the digit below them is
pub leading-set : (n w i : ℕ) → w < 2 ^ n → count_leading_zeros n w + suc i ≡ n → digit w i ≡ 1
leading-set n w i h p =
    let t = leading_length n w h in
    let e : t.0 ≡ suc i = omega (arith, t.1) in
    top_set w i (rw e at t.2) (rw e at t.3)

-- the digits of a word with one set
pub or_digits : (w i : ℕ) → i < 64 → (j : ℕ) → digit (bit_or w (1 * 2 ^ i % 2 ^ 64)) j ≡ cond (eqb j i) 1 (digit w j)
or_digits w i l j = by (ℕ_discrete j i)
  where
    by : Dec (j ≡ i) → digit (bit_or w (1 * 2 ^ i % 2 ^ 64)) j ≡ cond (eqb j i) 1 (digit w j)
    by (yes e) = rw (eq-eqb j i e, e) (bit_at_set_same w64 w i l)
    by (no e) = rw (ne_eqb j i e) (bit_at_set_other w64 w i l j e)
