-- Laws of the counts of a map's set bits.
use Rattle.std.proofs.Common.{◌≡◌, List, [], ◌∷◌, ℕ, zero, suc, ◌+◌, ◌-◌, ◌*◌, ◌/◌, ◌%◌, ◌^◌, ◌≤◌, ◌<◌, length, get_or, refl, sym, ap, ap₂, ◌∙◌}
use Rattle.std.proofs.Common.{zero-add, add-zero, add-suc, pow-suc, arith}
use Rattle.std.proofs.Math.Decide.{ℕ_discrete}
use Rattle.std.specs.Int.Count.{ones_step, ones as digit_sum}
use Rattle.std.proofs.Math.Arith.{lt-one}
use Rattle.bits.specs.Map.{digit, bit, put_bit, ones}
use Rattle.bits.proofs.Words.{digit-step, digit-shr, shl-low, shl-high}
use Rattle.bits.proofs.Bits.{Same, bit_le, bit_word, word_same, whole_same, put_same, put_other}

-- no key
pub ones_none : (words : List ℕ) (a : ℕ) → ones words a 0 ≡ 0
unfolding ones
ones_none words a = refl

-- one key more
pub ones-more : (words : List ℕ) (a n : ℕ) → ones words a (suc n) ≡ ones words a n + bit words (a + n)
unfolding ones
ones-more words a n = refl

-- no more than the keys
pub ones-le : (words : List ℕ) (a n : ℕ) → ones words a n ≤ n
ones-le words a zero = omega (arith, ones_none words a)
ones-le words a (suc n) = omega (arith, ones-more words a n, ones-le words a n, bit_le words (a + n))

-- the first m keys and the n after them
pub ones-add : (words : List ℕ) (a m n : ℕ) → ones words a (m + n) ≡ ones words a m + ones words (a + m) n
ones-add words a m zero = rw add-zero (omega (arith, ones_none words (a + m)))
ones-add words a m (suc n) =
    let e : a + (m + n) ≡ a + m + n = omega arith in
    rw (add-suc m n, ones-more words a (m + n), ones-more words (a + m) n, e) (omega (arith, ones-add words a m n))

-- equal bits are counted alike
pub ones-same : (xs : List ℕ) (a : ℕ) (ys : List ℕ) (b n : ℕ) → Same xs a ys b n → ones xs a n ≡ ones ys b n
ones-same xs a ys b zero s = ones_none xs a ∙ sym (ones_none ys b)
ones-same xs a ys b (suc n) s =
    rw (ones-more xs a n, ones-more ys b n)
    (ap₂ (λ (x y : ℕ). x + y) (ones-same xs a ys b n (λ j h. s j (omega arith))) (s n (omega arith)))

-- no bit is set
pub ones-clear : (words : List ℕ) (a n : ℕ) → ((j : ℕ) → j < n → bit words (a + j) ≡ 0) → ones words a n ≡ 0
ones-clear words a zero z = ones_none words a
ones-clear words a (suc n) z = omega (arith, ones-more words a n, ones-clear words a n (λ j h. z j (omega arith)), z n (omega arith))

-- the first of the keys
pub ones-first : (words : List ℕ) (a n : ℕ) → ones words a (suc n) ≡ bit words a + ones words (a + 1) n
ones-first words a zero = rw (ones-more words a 0, add-zero a, ones_none words a, ones_none words (a + 1)) (omega arith)
ones-first words a (suc n) =
    let e : a + suc n ≡ a + 1 + n = omega arith in
    rw (ones-more words a (suc n), ones-more words (a + 1) n, e) (omega (arith, ones-first words a n))

-- ---- the ones of a word

-- the set digits of w, where they are n bits of a map
pub ones-digits : (words : List ℕ) (a n w : ℕ) → w < 2 ^ n → ((j : ℕ) → j < n → bit words (a + j) ≡ digit w j) → digit_sum w ≡ ones words a n
ones-digits words a zero w h s = rw (lt-one h) (unfold digit_sum in sym (ones_none words a))
ones-digits words a (suc n) w h s =
    let b : bit words a ≡ w % 2 = rw add-zero at (s 0 (omega arith)) ∙ omega arith in
    rw (ones_step w, ones-first words a n, b)
    (ap (λ (x : ℕ). w % 2 + x) (ones-digits words (a + 1) n (w / 2) (omega (arith, pow-suc 2 n)) (λ j p.
    let e : a + 1 + j ≡ a + suc j = omega arith in
    rw e (s (suc j) (omega arith) ∙ digit-step w j))))

-- the set digits of a word
pub ones-word : (w : ℕ) → w < 2 ^ 64 → digit_sum w ≡ ones (w ∷ []) 0 64
ones-word w h = ones-digits (w ∷ []) 0 64 w h (λ j p. rw zero-add (bit_word w j p))

-- n digits from s on are those of the word with all others shifted out
pub ones_shl : (w s n : ℕ) → s + n ≤ 64 → ones ((w / 2 ^ s * 2 ^ (64 - n) % 2 ^ 64) ∷ []) 0 64 ≡ ones (w ∷ []) s n
ones_shl w s n h =
    let x : ℕ = w / 2 ^ s * 2 ^ (64 - n) % 2 ^ 64 in
    let e : 64 ≡ 64 - n + n = omega arith in
    let z : ones (x ∷ []) 0 (64 - n) ≡ 0 =
    ones-clear (x ∷ []) 0 (64 - n) (λ j p. rw zero-add (bit_word x j (omega arith) ∙ shl-low (w / 2 ^ s) (64 - n) 64 j (omega arith) p)) in
    let t : ones (x ∷ []) (64 - n) n ≡ ones (w ∷ []) s n = ones-same (x ∷ []) (64 - n) (w ∷ []) s n (λ j p.
    bit_word x (64 - n + j) (omega arith) ∙ shl-high (w / 2 ^ s) (64 - n) 64 j (omega arith) ∙ digit-shr w s j ∙ sym (bit_word w (s + j) (omega arith))) in
    ap (ones (x ∷ []) 0) e ∙ ones-add (x ∷ []) 0 (64 - n) n ∙ rw (z, zero-add (64 - n), t) (omega arith)

-- n bits of one word
pub ones-part : (words : List ℕ) (a n : ℕ) → a % 64 + n ≤ 64 → ones words a n ≡ ones (get_or words (a / 64) 0 ∷ []) (a % 64) n
ones-part words a n h = ones-same words a (get_or words (a / 64) 0 ∷ []) (a % 64) n (word_same words a n h)

-- one word more
pub ones-words : (words : List ℕ) (first i : ℕ) → first ≤ i
    → ones words (first * 64) ((i + 1 - first) * 64) ≡ ones words (first * 64) ((i - first) * 64) + ones (get_or words i 0 ∷ []) 0 64
ones-words words first i h =
    let e : (i + 1 - first) * 64 ≡ (i - first) * 64 + 64 = omega arith in
    let f : first * 64 + (i - first) * 64 ≡ i * 64 = omega arith in
    rw (e, ones-add words (first * 64) ((i - first) * 64) 64, f, ones-same words (i * 64) (get_or words i 0 ∷ []) 0 64 (whole_same words i 64 (omega arith)))

-- up to a word's start, whole words from there on, a part of the last
pub ones_cut : (words : List ℕ) (a n first : ℕ) → a ≤ first * 64 → first * 64 ≤ a + n
    → ones words a n
    ≡ ones words a (first * 64 - a) + ones words (first * 64) (((a + n) / 64 - first) * 64) + ones words (a + n - (a + n) % 64) ((a + n) % 64)
ones_cut words a n first l m =
    let x : ℕ = first * 64 - a in
    let y : ℕ = ((a + n) / 64 - first) * 64 in
    let z : ℕ = (a + n) % 64 in
    let e : n ≡ x + (y + z) = omega arith in
    let f : a + x ≡ first * 64 = omega arith in
    let g : first * 64 + y ≡ a + n - z = omega arith in
    let p : ones words a n ≡ ones words a x + ones words (a + x) (y + z) = ap (ones words a) e ∙ ones-add words a x (y + z) in
    p ∙ rw (f, ones-add words (first * 64) y z, g) (omega arith)

-- ---- a bit put

module _ (words : List ℕ) (k v : ℕ) (low : v ≤ 1) where
  -- at none of the keys
  pub ones-put-out : (a n : ℕ) → ((j : ℕ) → j < n → a + j ≡ k → ⊥) → ones (put_bit words k v) a n ≡ ones words a n
  ones-put-out a n out = ones-same (put_bit words k v) a words a n (λ j h. put_other words k v (a + j) low (out j h))

  -- at one of them
  pub ones-put : k / 64 < length words → (a n : ℕ) → a ≤ k → k < a + n → ones (put_bit words k v) a n + bit words k ≡ ones words a n + v
  ones-put there a zero l h = absurd (omega arith)
  ones-put there a (suc n) l h =
      rw (ones-more (put_bit words k v) a n, ones-more words a n) (by (λ m. ones-put there a n l m) (ℕ_discrete (a + n) k))
    where
      by : (k < a + n → ones (put_bit words k v) a n + bit words k ≡ ones words a n + v) → Dec (a + n ≡ k)
          → ones (put_bit words k v) a n + bit (put_bit words k v) (a + n) + bit words k ≡ ones words a n + bit words (a + n) + v
      by fewer (yes e) = rw (e, put_same words k v low there, ones-put-out a n (λ j g. omega arith)) (omega arith)
      by fewer (no e) = rw (put_other words k v (a + n) low e) (omega (arith, fewer (omega arith)))
