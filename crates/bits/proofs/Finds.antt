-- Laws of the next bit and of the last set one.
use Rattle.std.proofs.Common.{◌≡◌, Bool, true, false, cond, List, [], ◌∷◌, ℕ, min, zero, suc, ◌+◌, ◌-◌, ◌*◌, ◌/◌, ◌%◌, ◌^◌, ◌≤◌, ◌<◌, get_or, eqb}
use Rattle.std.proofs.Common.{w64, refl, sym, ap, ◌∙◌, le_antisymm, add-zero, mod-lt, lit<, arith, eqb-true}
use Rattle.std.proofs.Math.Decide.{dec_lt}
use Rattle.std.specs.Int.Count.{count_leading_zeros, count_trailing_zeros}
use Rattle.std.proofs.lemmas.Bool.{eqb-false}
use Rattle.std.proofs.lemmas.Nat.Bits.{bit_at_not}
use Rattle.bits.specs.Map.{digit, bit, next_bit, last_bit}
use Rattle.bits.proofs.Words.{digit-shr, shl-high, trailing-clear, trailing-set, leading-clear, leading-set}
use Rattle.bits.proofs.Bits.{Same, bit_le, bit_word, word_same, whole_same}

-- no key from a to before b has the bit v
abbrev pub Without : List ℕ → ℕ → ℕ → ℕ → Type 0
Without words v a b = (k : ℕ) → a ≤ k → k < b → bit words k ≡ v → ⊥

-- what two runs of keys lack, both together lack
pub without-join : (words : List ℕ) (v a b c : ℕ) → Without words v a b → Without words v b c → Without words v a c
without-join words v a b c s t k l u e = by (dec_lt k b)
  where
    by : Dec (k < b) → ⊥
    by (yes h) = s k l h e
    by (no h) = t k (omega arith) u e

-- ---- the next bit

-- r is the first of the n keys from a on whose bit is v, or a + n
pub record Next (words : List ℕ) (v a n r : ℕ) : Type 0 where
  pub low : a ≤ r
  pub high : r ≤ a + n
  pub before : Without words v a r
  pub found : r < a + n → bit words r ≡ v

-- it is a itself
next_here : (words : List ℕ) (v a n : ℕ) → bit words a ≡ v → Next words v a (suc n) a
next_here words v a n e = record { low = omega arith; high = omega arith; before = λ k l u d. omega arith; found = λ h. e }

-- it is a later key
next-there : (words : List ℕ) (v a n r : ℕ) → (bit words a ≡ v → ⊥) → Next words v (a + 1) n r → Next words v a (suc n) r
next-there words v a n r e t = record {
  low = omega arith;
  high = omega arith;
  before = λ k l u d. by k l u d (dec_lt a k);
  found = λ h. t.found (omega arith);
}
  where
    by : (k : ℕ) → a ≤ k → k < r → bit words k ≡ v → Dec (a < k) → ⊥
    by k l u d (yes g) = t.before k (omega arith) u d
    by k l u d (no g) = let q : k ≡ a = omega arith in e (rw q at d)

-- `next_bit` is that key
pub next_is : (words : List ℕ) (v a n : ℕ) → Next words v a n (next_bit words v a n)
unfolding next_bit
next_is words v a zero = record { low = omega arith; high = omega arith; before = λ k l u d. omega arith; found = λ h. absurd (omega arith) }
next_is words v a (suc n) = go (eqb (bit words a) v) refl (next_is words v (a + 1) n)
  where
    go : (b : Bool) → eqb (bit words a) v ≡ b → Next words v (a + 1) n (next_bit words v (a + 1) n)
        → Next words v a (suc n) (cond b a (next_bit words v (a + 1) n))
    go true e t = next_here words v a n (eqb-true (bit words a) v e)
    go false e t = next-there words v a n (next_bit words v (a + 1) n) (eqb-false (bit words a) v e) t

-- two such keys are in order
next_le : (words : List ℕ) (v a n r q : ℕ) → Next words v a n r → Next words v a n q → r ≤ q
next_le words v a n r q s t = by (dec_lt q r)
  where
    by : Dec (q < r) → r ≤ q
    by (yes h) = let z : ⊥ = s.before q t.low h (t.found (omega arith)) in absurd z
    by (no h) = omega arith

-- and whatever is that key is `next_bit`
pub next-only : (words : List ℕ) (v a n r : ℕ) → Next words v a n r → r ≡ next_bit words v a n
next-only words v a n r s =
    let t = next_is words v a n in
    le_antisymm (next_le words v a n r (next_bit words v a n) s t) (next_le words v a n (next_bit words v a n) r t s)

-- where the bits that are looked for stand alike, so does the first
next-alike : (xs ys : List ℕ) (v u a b n : ℕ) → ((j : ℕ) → j < n → eqb (bit xs (a + j)) v ≡ eqb (bit ys (b + j)) u)
    → b + next_bit xs v a n ≡ a + next_bit ys u b n
unfolding next_bit
next-alike xs ys v u a b zero s = omega arith
next-alike xs ys v u a b (suc n) s =
    let e : eqb (bit xs a) v ≡ eqb (bit ys b) u = rw (add-zero a, add-zero b) at (s 0 (omega arith)) in
    rw e (go (eqb (bit ys b) u) (next-alike xs ys v u (a + 1) (b + 1) n (λ j h. rw (shift a j, shift b j) (s (suc j) (omega arith)))))
  where
    shift : (x j : ℕ) → x + 1 + j ≡ x + suc j
    shift x j = omega arith

    go : (p : Bool) → b + 1 + next_bit xs v (a + 1) n ≡ a + 1 + next_bit ys u (b + 1) n
        → b + cond p a (next_bit xs v (a + 1) n) ≡ a + cond p b (next_bit ys u (b + 1) n)
    go true i = omega arith
    go false i = omega arith

-- equal bits are found alike
pub next-same : (xs : List ℕ) (a : ℕ) (ys : List ℕ) (b n v : ℕ) → Same xs a ys b n → b + next_bit xs v a n ≡ a + next_bit ys v b n
next-same xs a ys b n v s = next-alike xs ys v v a b n (λ j h. ap (λ (x : ℕ). eqb x v) (s j h))

-- the next 0 of a word is the next 1 of its complement
pub next-not : (w s : ℕ) → w < 2 ^ 64 → next_bit ((2 ^ 64 - 1 - w) ∷ []) 1 s (64 - s) ≡ next_bit (w ∷ []) 0 s (64 - s)
next-not w s h =
    let x : ℕ = 2 ^ 64 - 1 - w in
    omega (
      arith,
      next-alike (w ∷ []) (x ∷ []) 0 1 s s (64 - s) (λ j p.
          rw (bit_word w (s + j) (omega arith), bit_word x (s + j) (omega arith), bit_at_not w64 w (s + j) h (omega arith))
          (other (digit w (s + j)) (omega arith))),
    )
  where
    other : (a : ℕ) → a ≤ 1 → eqb a 0 ≡ eqb (1 - a) 1
    other zero u = refl
    other (suc zero) u = refl
    other (suc (suc a)) u = absurd (omega arith)

-- the next 1 of a word, by the zeros below it
pub next-shr : (w s : ℕ) → s < 64 → min (s + count_trailing_zeros 64 (w / 2 ^ s)) 64 ≡ next_bit (w ∷ []) 1 s (64 - s)
next-shr w s h = next-only (w ∷ []) 1 s (64 - s) (min (s + t) 64) record {
  low = omega arith;
  high = omega arith;
  before = λ k l u e. omega (arith, sym e ∙ at k l (omega arith), trailing-clear 64 (w / 2 ^ s) (k - s) (omega arith));
  found = λ u.
      let q : min (s + t) 64 ≡ s + t = omega arith in
      rw q (bit_word w (s + t) (omega arith) ∙ sym (digit-shr w s t) ∙ trailing-set 64 (w / 2 ^ s) (omega arith));
}
  where
    t : ℕ
    t = count_trailing_zeros 64 (w / 2 ^ s)

    at : (k : ℕ) → s ≤ k → k < 64 → bit (w ∷ []) k ≡ digit (w / 2 ^ s) (k - s)
    at k l u =
        let e : k ≡ s + (k - s) = omega arith in
        bit_word w k u ∙ ap (digit w) e ∙ sym (digit-shr w s (k - s))

-- the first key from a on, in a's own word
pub next_word : (words : List ℕ) (v a r : ℕ) → r ≡ next_bit (get_or words (a / 64) 0 ∷ []) v (a % 64) (64 - a % 64)
    → Next words v a (64 - a % 64) (a / 64 * 64 + r)
next_word words v a r e =
    let n : ℕ = 64 - a % 64 in
    let f : a / 64 * 64 + r ≡ next_bit words v a n =
    omega (arith, next-same words a (get_or words (a / 64) 0 ∷ []) (a % 64) n v (word_same words a n (omega arith))) in
    rw f (next_is words v a n)

-- the walk has come to key b, and r is the next of the m keys from there on
pub next-at : (words : List ℕ) (v a n b m r : ℕ) → a ≤ b → b < a + n → Without words v a b → Next words v b m r → r < b + m
    → min r (a + n) ≡ next_bit words v a n
next-at words v a n b m r l u s t h = next-only words v a n (min r (a + n)) record {
  low = omega (arith, t.low);
  high = omega arith;
  before = λ k p q e. without-join words v a b r s t.before k p (omega arith) e;
  found = λ p.
      let e : min r (a + n) ≡ r = omega arith in
      rw e (t.found h);
}

-- the walk has come to the end
pub next-none : (words : List ℕ) (v a n b : ℕ) → a + n ≤ b → Without words v a b → a + n ≡ next_bit words v a n
next-none words v a n b h s =
    next-only words v a n (a + n)
    record { low = omega arith; high = omega arith; before = λ k l u e. s k l (omega arith) e; found = λ u. absurd (omega arith) }

-- ---- the last set bit

-- the last set one of the n bits from a on ends r after a; r is 0 where none is set
pub record Last (words : List ℕ) (a n r : ℕ) : Type 0 where
  pub high : r ≤ n
  pub found : 0 < r → bit words (a + r - 1) ≡ 1
  pub after : (k : ℕ) → a + r ≤ k → k < a + n → bit words k ≡ 0

-- it is the last key
last-here : (words : List ℕ) (a n : ℕ) → bit words (a + n) ≡ 1 → Last words a (suc n) (suc n)
last-here words a n e =
    let q : a + suc n - 1 ≡ a + n = omega arith in
    record { high = omega arith; found = λ h. rw q e; after = λ k l u. absurd (omega arith) }

-- it is an earlier key
last-there : (words : List ℕ) (a n r : ℕ) → (bit words (a + n) ≡ 1 → ⊥) → Last words a n r → Last words a (suc n) r
last-there words a n r e t = record { high = omega arith; found = t.found; after = λ k l u. by k l u (dec_lt k (a + n)) }
  where
    by : (k : ℕ) → a + r ≤ k → k < a + suc n → Dec (k < a + n) → bit words k ≡ 0
    by k l u (yes g) = t.after k l g
    by k l u (no g) = let q : k ≡ a + n = omega arith in rw q (omega (arith, bit_le words (a + n)))

-- `last_bit` is that end
pub last-is : (words : List ℕ) (a n : ℕ) → Last words a n (last_bit words a n)
unfolding last_bit
last-is words a zero = record { high = omega arith; found = λ h. absurd (omega arith); after = λ k l u. absurd (omega arith) }
last-is words a (suc n) = go (eqb (bit words (a + n)) 1) refl (last-is words a n)
  where
    go : (b : Bool) → eqb (bit words (a + n)) 1 ≡ b → Last words a n (last_bit words a n) → Last words a (suc n) (cond b (suc n) (last_bit words a n))
    go true e t = last-here words a n (eqb-true (bit words (a + n)) 1 e)
    go false e t = last-there words a n (last_bit words a n) (eqb-false (bit words (a + n)) 1 e) t

-- two such ends are in order
last-le : (words : List ℕ) (a n r q : ℕ) → Last words a n r → Last words a n q → r ≤ q
last-le words a n r q s t = by (dec_lt q r)
  where
    by : Dec (q < r) → r ≤ q
    by (yes h) = omega (arith, s.found (omega arith), t.after (a + r - 1) (omega arith) (omega (arith, s.high)))
    by (no h) = omega arith

-- and whatever is that end is `last_bit`
pub last-only : (words : List ℕ) (a n r : ℕ) → Last words a n r → r ≡ last_bit words a n
last-only words a n r s =
    let t = last-is words a n in
    le_antisymm (last-le words a n r (last_bit words a n) s t) (last-le words a n (last_bit words a n) r t s)

-- equal bits are found alike
pub last-same : (xs : List ℕ) (a : ℕ) (ys : List ℕ) (b n : ℕ) → Same xs a ys b n → last_bit xs a n ≡ last_bit ys b n
unfolding last_bit
last-same xs a ys b zero s = refl
last-same xs a ys b (suc n) s = rw (s n (omega arith), last-same xs a ys b n (λ j h. s j (omega arith)))

-- the last 1 of a word's m lowest digits, by the zeros above it when all others are shifted out
pub last-shl : (w m : ℕ) → m ≤ 64 → m - count_leading_zeros 64 (w * 2 ^ (64 - m) % 2 ^ 64) ≡ last_bit (w ∷ []) 0 m
last-shl w m h = last-only (w ∷ []) 0 m (m - z) record {
  high = omega arith;
  found = λ p.
      let e : 0 + (m - z) - 1 ≡ m - z - 1 = omega arith in
      rw e (at (m - z - 1) (omega arith) ∙ leading-set 64 x (64 - m + (m - z - 1)) f (omega arith));
  after = λ k l u. at k (omega arith) ∙ leading-clear 64 x (64 - m + k) f (omega arith);
}
  where
    x : ℕ
    x = w * 2 ^ (64 - m) % 2 ^ 64

    z : ℕ
    z = count_leading_zeros 64 x

    f : x < 2 ^ 64
    f = mod-lt (w * 2 ^ (64 - m)) (lit< tt)

    at : (k : ℕ) → k < m → bit (w ∷ []) k ≡ digit x (64 - m + k)
    at k u = bit_word w k (omega arith) ∙ sym (shl-high w (64 - m) 64 k (omega arith))

-- the last of the m lowest bits of word i
pub last_word : (words : List ℕ) (i m r : ℕ) → m ≤ 64 → r ≡ last_bit (get_or words i 0 ∷ []) 0 m → Last words (i * 64) m r
last_word words i m r h e = rw (e, ← last-same words (i * 64) (get_or words i 0 ∷ []) 0 m (whole_same words i m h)) (last-is words (i * 64) m)

-- past the last set bit none is set
pub last-without : (words : List ℕ) (a n r : ℕ) → Last words a n r → Without words 1 (a + r) (a + n)
last-without words a n r t k l u e = omega (arith, t.after k l u)

-- a bit that is not 1 is 0
without-clear : (words : List ℕ) (a b : ℕ) → Without words 1 a b → (k : ℕ) → a ≤ k → k < b → bit words k ≡ 0
without-clear words a b s k l u =
    let h : bit words k ≡ 1 → ⊥ = s k l u in
    omega (arith, bit_le words k)

-- the walk down has come to key b: no bit from it on is set, and the one before it is, if that is one of the keys
pub last-reached : (words : List ℕ) (a n b : ℕ) → b ≤ a + n → Without words 1 b (a + n) → (a < b → bit words (b - 1) ≡ 1) → b - a ≡ last_bit words a n
last-reached words a n b u s e = last-only words a n (b - a) record {
  high = omega arith;
  found = λ h.
      let f : a + (b - a) - 1 ≡ b - 1 = omega arith in
      rw f (e (omega arith));
  after = λ k p q. without-clear words b (a + n) s k (omega arith) q;
}
