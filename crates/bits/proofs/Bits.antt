-- Laws of the bits of a map.
use Rattle.std.proofs.Common.{◌≡◌, List, [], ◌∷◌, ℕ, ◌+◌, ◌-◌, ◌*◌, ◌/◌, ◌%◌, ◌^◌, ◌≤◌, ◌<◌, length, get_or, set, bit_and, bit_or, refl, sym, ◌∙◌}
use Rattle.std.proofs.Common.{zero-add, arith, length-set, get_or-set_same, get_or-set_other}
use Rattle.std.proofs.Math.Decide.{ℕ_discrete, dec_lt}
use Rattle.std.proofs.Math.Arith.{digits_div, digits_mod}
use Rattle.std.proofs.Math.Seq.{set_out}
use Rattle.std.proofs.lemmas.Nat.{one_shl}
use Rattle.bits.specs.Map.{digit, bit, put_bit}
use Rattle.bits.proofs.Words.{put, or_put, and_put, put-digit, put-digits, put-lt}

-- a bit is 0 or 1
pub bit_le : (words : List ℕ) (k : ℕ) → bit words k ≤ 1
unfolding bit
bit_le words k = omega arith

-- the bits of word i are its digits
pub bit_at : (words : List ℕ) (i j : ℕ) → j < 64 → bit words (i * 64 + j) ≡ digit (get_or words i 0) j
unfolding bit
bit_at words i j h = rw (digits_div i h, digits_mod i h)

-- the bits of the map of one word
pub bit_word : (w j : ℕ) → j < 64 → bit (w ∷ []) j ≡ digit w j
bit_word w j h =
    let e : 0 * 64 + j ≡ j = omega arith in
    rw e at (bit_at (w ∷ []) 0 j h)

-- the n bits from key a on of xs are those from key b on of ys
abbrev pub Same : List ℕ → ℕ → List ℕ → ℕ → ℕ → Type 0
Same xs a ys b n = (j : ℕ) → j < n → bit xs (a + j) ≡ bit ys (b + j)

-- bits of one word are those of the map of that word alone
pub word_same : (words : List ℕ) (a n : ℕ) → a % 64 + n ≤ 64 → Same words a (get_or words (a / 64) 0 ∷ []) (a % 64) n
word_same words a n h j p =
    let e : a + j ≡ a / 64 * 64 + (a % 64 + j) = omega arith in
    rw e (bit_at words (a / 64) (a % 64 + j) (omega arith) ∙ sym (bit_word (get_or words (a / 64) 0) (a % 64 + j) (omega arith)))

-- so are those of word i
pub whole_same : (words : List ℕ) (i n : ℕ) → n ≤ 64 → Same words (i * 64) (get_or words i 0 ∷ []) 0 n
whole_same words i n h j p = bit_at words i j (omega arith) ∙ sym (rw zero-add (bit_word (get_or words i 0) j (omega arith)))

-- ---- a bit put into a map

-- the key's word has the digit put
put_is : (words : List ℕ) (k v : ℕ) → put_bit words k v ≡ set words (k / 64) (put (get_or words (k / 64) 0) (k % 64) v)
unfolding put_bit bit
put_is words k v = refl

-- what `set_bit` writes
pub or_is : (words : List ℕ) (k : ℕ) → set words (k / 64) (bit_or (get_or words (k / 64) 0) (1 * 2 ^ (k % 64) % 2 ^ 64)) ≡ put_bit words k 1
or_is words k = rw (one_shl (k % 64) 64 (omega arith), or_put (get_or words (k / 64) 0) (k % 64)) (sym (put_is words k 1))

-- what `clear_bit` writes
pub and_is : (words : List ℕ) (k : ℕ) → get_or words (k / 64) 0 < 2 ^ 64
    → set words (k / 64) (bit_and (get_or words (k / 64) 0) (2 ^ 64 - 1 - 1 * 2 ^ (k % 64) % 2 ^ 64)) ≡ put_bit words k 0
and_is words k f = rw (one_shl (k % 64) 64 (omega arith), and_put (get_or words (k / 64) 0) (k % 64) f (omega arith)) (sym (put_is words k 0))

-- the bit of k is v
pub put_same : (words : List ℕ) (k v : ℕ) → v ≤ 1 → k / 64 < length words → bit (put_bit words k v) k ≡ v
unfolding bit
put_same words k v p h =
    let w = get_or words (k / 64) 0 in
    rw (put_is words k v, get_or-set_same words (k / 64) (put w (k % 64) v) 0 h) (put-digit w (k % 64) v p)

-- every other bit is as it was
pub put_other : (words : List ℕ) (k v j : ℕ) → v ≤ 1 → (j ≡ k → ⊥) → bit (put_bit words k v) j ≡ bit words j
unfolding bit
put_other words k v j p n = rw (put_is words k v) (by (ℕ_discrete (j / 64) (k / 64)) (dec_lt (k / 64) (length words)))
  where
    w : ℕ
    w = put (get_or words (k / 64) 0) (k % 64) v

    by : Dec (j / 64 ≡ k / 64) → Dec (k / 64 < length words)
        → digit (get_or (set words (k / 64) w) (j / 64) 0) (j % 64) ≡ digit (get_or words (j / 64) 0) (j % 64)
    by (yes e) (yes h) = rw (e, get_or-set_same words (k / 64) w 0 h) (put-digits (get_or words (k / 64) 0) (k % 64) v (j % 64) (λ q. n (omega arith)) p)
    by (yes e) (no h) = rw (set_out words (k / 64) w (omega arith))
    by (no e) d = rw (get_or-set_other words (k / 64) (j / 64) w 0 e)

-- the map stays as long
pub put-length : (words : List ℕ) (k v : ℕ) → length (put_bit words k v) ≡ length words
put-length words k v = rw (put_is words k v, length-set)

-- the words stay words
pub put-fits : (words : List ℕ) (k v : ℕ) → v ≤ 1 → ((i : ℕ) → get_or words i 0 < 2 ^ 64) → (i : ℕ) → get_or (put_bit words k v) i 0 < 2 ^ 64
put-fits words k v p f i = rw (put_is words k v) (by (ℕ_discrete i (k / 64)) (dec_lt (k / 64) (length words)))
  where
    w : ℕ
    w = put (get_or words (k / 64) 0) (k % 64) v

    by : Dec (i ≡ k / 64) → Dec (k / 64 < length words) → get_or (set words (k / 64) w) i 0 < 2 ^ 64
    by (yes e) (yes h) = rw (e, get_or-set_same words (k / 64) w 0 h) (put-lt 64 (get_or words (k / 64) 0) (k % 64) v (f (k / 64)) (omega arith) p)
    by (yes e) (no h) = rw (set_out words (k / 64) w (omega arith)) (f i)
    by (no e) d = rw (get_or-set_other words (k / 64) i w 0 e) (f i)
