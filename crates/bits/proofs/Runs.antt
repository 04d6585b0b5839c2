-- Laws of many bits at once: a run of them set, and those of another map cleared.
use Rattle.std.proofs.Common.{◌≡◌, Bool, true, false, ◌&&◌, ◌||◌, not, List, ℕ, min, ◌+◌, ◌-◌, ◌*◌, ◌/◌, ◌%◌, ◌^◌, ◌≤◌, ◌<◌, eqb, length, get_or, set}
use Rattle.std.proofs.Common.{bit_and, bit_or, bit_xor, w64, refl, sym, ap, ◌∙◌, pow_pos, arith, lt-ltb, le-ltb, le-leb, eq-eqb, shl_exact, get_or-set_same}
use Rattle.std.proofs.Common.{get_or-set_other}
use Rattle.std.proofs.Math.Nat.{zero-div}
use Rattle.std.proofs.Math.Decide.{ℕ_discrete, dec_lt}
use Rattle.std.proofs.lemmas.Bool.{lt-leb}
use Rattle.std.proofs.Math.Bool.{or_assoc, or_comm}
use Rattle.std.proofs.Math.ListN.{get_or-eq_default}
use Rattle.std.proofs.Math.Pow.{high_ones}
use Rattle.std.proofs.lemmas.Nat.Bits.{bit_at_and, bit_at_or, bit_at_xor, bit_at_not, bit_at_mask_inside, bit_at_mask_below, bit_at_mask_above, ones_shr}
use Rattle.bits.specs.Map.{digit, bit, on, one_of}
use Rattle.bits.proofs.Words.{by_digits, or_set}

-- ---- the keys of a run

run_in : (a n k : ℕ) → a ≤ k → k < a + n → one_of a n k ≡ true
run_in a n k l u = rw (le-leb a k l, lt-ltb k (a + n) u)

run-below : (a n k : ℕ) → k < a → one_of a n k ≡ false
run-below a n k h = rw (lt-leb a k h)

run-above : (a n k : ℕ) → a + n ≤ k → one_of a n k ≡ false
run-above a n k h = rw (le-leb a k (omega arith), le-ltb k (a + n) h)

-- whatever is true of the run's keys and of no other says which they are
run_is : (a n k : ℕ) (b : Bool) → (a ≤ k → k < a + n → b ≡ true) → (k < a → b ≡ false) → (a + n ≤ k → b ≡ false) → b ≡ one_of a n k
run_is a n k b t f g = by (dec_lt k a) (dec_lt k (a + n))
  where
    by : Dec (k < a) → Dec (k < a + n) → b ≡ one_of a n k
    by (yes h) d = f h ∙ sym (run-below a n k h)
    by (no h) (yes u) = t (omega arith) u ∙ sym (run_in a n k (omega arith) u)
    by (no h) (no u) = g (omega arith) ∙ sym (run-above a n k (omega arith))

-- no bit of a run of none is set
pub run_none : (words : List ℕ) (a n k : ℕ) → n ≡ 0 → on words k ≡ (one_of a n k || on words k)
run_none words a n k e =
    let f : false ≡ one_of a n k = run_is a n k false (λ l u. absurd (omega arith)) (λ h. refl) (λ h. refl) in
    rw (← f)

-- a run and the one before it
run_join : (a b n k : ℕ) → a ≤ b → (one_of b n k || one_of a (b - a) k) ≡ one_of a (b + n - a) k
run_join a b n k h =
    run_is a (b + n - a) k (one_of b n k || one_of a (b - a) k)
    (λ l u. by l u (dec_lt k b))
    (λ u. rw (run-below b n k (omega arith), run-below a (b - a) k u))
    (λ u. rw (run-above b n k (omega arith), run-above a (b - a) k (omega arith)))
  where
    by : a ≤ k → k < a + (b + n - a) → Dec (k < b) → (one_of b n k || one_of a (b - a) k) ≡ true
    by l u (yes g) = rw (run-below b n k g, run_in a (b - a) k l (omega arith))
    by l u (no g) = rw (run_in b n k (omega arith) (omega arith))

-- the run from a to b is set, then the n bits from b on: the whole run is
pub run_more : (xs ys zs : List ℕ) (a b n k : ℕ) → a ≤ b → on ys k ≡ (one_of a (b - a) k || on xs k) → on zs k ≡ (one_of b n k || on ys k)
    → on zs k ≡ (one_of a (b + n - a) k || on xs k)
run_more xs ys zs a b n k h p q = rw (q, p, ← or_assoc (one_of b n k) (one_of a (b - a) k) (on xs k), run_join a b n k h)

-- ---- a run of bits set

-- the word with a run of digits set: `(!0 >> (64 - n)) << s`
mask_is : (s n : ℕ) → s + n ≤ 64 → (2 ^ 64 - 1) / 2 ^ (64 - n) * 2 ^ s % 2 ^ 64 ≡ 2 ^ (s + n) - 2 ^ s
mask_is s n h =
    let e : 64 - (64 - n) ≡ n = omega arith in
    let f : n + s ≡ s + n = omega arith in
    rw (ones_shr 64 (64 - n) (omega arith), e) (shl_exact n s 64 (omega (arith, pow_pos n)) (omega arith) ∙ sym (rw f at (high_ones n s)))

-- what `mask` gives
pub mask-digit : (s n i : ℕ) → s + n ≤ 64 → eqb (digit ((2 ^ 64 - 1) / 2 ^ (64 - n) * 2 ^ s % 2 ^ 64) i) 1 ≡ one_of s n i
mask-digit s n i h =
    rw (mask_is s n h)
    (run_is s n i (eqb (digit (2 ^ (s + n) - 2 ^ s) i) 1)
    (λ l u. eq-eqb _ 1 (bit_at_mask_inside s (s + n) i l u))
    (λ u. ap (λ (x : ℕ). eqb x 1) (bit_at_mask_below s (s + n) i u))
    (λ u. ap (λ (x : ℕ). eqb x 1) (bit_at_mask_above s (s + n) i u)))

-- a word that takes the digits of a run has the run's bits besides its own
pub run-set : (words : List ℕ) (a n r : ℕ) → a / 64 < length words → a % 64 + n ≤ 64 → ((i : ℕ) → eqb (digit r i) 1 ≡ one_of (a % 64) n i)
    → (k : ℕ) → on (set words (a / 64) (bit_or (get_or words (a / 64) 0) r)) k ≡ (one_of a n k || on words k)
unfolding bit
run-set words a n r h p d k = by (ℕ_discrete (k / 64) (a / 64))
  where
    w : ℕ
    w = get_or words (a / 64) 0

    same : k / 64 ≡ a / 64 → one_of (a % 64) n (k % 64) ≡ one_of a n k
    same e =
        run_is a n k (one_of (a % 64) n (k % 64))
        (λ l u. run_in (a % 64) n (k % 64) (omega arith) (omega arith))
        (λ u. run-below (a % 64) n (k % 64) (omega arith))
        (λ u. run-above (a % 64) n (k % 64) (omega arith))

    by : Dec (k / 64 ≡ a / 64)
        → eqb (digit (get_or (set words (a / 64) (bit_or w r)) (k / 64) 0) (k % 64)) 1 ≡ (one_of a n k || eqb (digit (get_or words (k / 64) 0) (k % 64)) 1)
    by (yes e) =
        rw (e, get_or-set_same words (a / 64) (bit_or w r) 0 h, bit_at_or w r (k % 64), ← same e, ← d (k % 64))
        (or_set (digit w (k % 64)) (digit r (k % 64)) (omega arith) (omega arith) ∙ or_comm (eqb (digit w (k % 64)) 1) (eqb (digit r (k % 64)) 1))
    by (no e) =
        let f : false ≡ one_of a n k = run_is a n k false (λ l u. absurd (e (omega arith))) (λ u. refl) (λ u. refl) in
        rw (get_or-set_other words (a / 64) (k / 64) (bit_or w r) 0 e, ← f)

-- ---- the bits of another map cleared

-- the word x without the digits of y: `x & !y`
abbrev pub lacking : ℕ → ℕ → ℕ
lacking x y = bit_and x (2 ^ 64 - 1 - y)

-- its digits
lacking-digit : (x y i : ℕ) → y < 2 ^ 64 → i < 64 → eqb (digit (lacking x y) i) 1 ≡ (eqb (digit x i) 1 && not (eqb (digit y i) 1))
lacking-digit x y i f h = rw (bit_at_and x (2 ^ 64 - 1 - y) i, bit_at_not w64 y i f h) (both (digit x i) (digit y i) (omega arith) (omega arith))
  where
    both : (a b : ℕ) → a ≤ 1 → b ≤ 1 → eqb (min a (1 - b)) 1 ≡ (eqb a 1 && not (eqb b 1))
    both = by_digits (λ a b. eqb (min a (1 - b)) 1 ≡ (eqb a 1 && not (eqb b 1))) refl refl refl refl

-- zs is xs, whose first i words lack the bits of ys
pub record Lacking (xs ys zs : List ℕ) (i : ℕ) : Type 0 where
  pub done : (k : ℕ) → k / 64 < i → on zs k ≡ (on xs k && not (on ys k))
  pub left : (j : ℕ) → i ≤ j → get_or zs j 0 ≡ get_or xs j 0

pub lacking-none : (xs ys : List ℕ) → Lacking xs ys xs 0
lacking-none xs ys = record { done = λ k h. absurd (omega arith); left = λ j h. refl }

-- one word more, by any word that has these digits
one-more : (xs ys zs : List ℕ) (i w : ℕ) → i < length zs
    → ((j : ℕ) → j < 64 → eqb (digit w j) 1 ≡ (eqb (digit (get_or zs i 0) j) 1 && not (eqb (digit (get_or ys i 0) j) 1))) → Lacking xs ys zs i
    → Lacking xs ys (set zs i w) (i + 1)
unfolding bit
one-more xs ys zs i w h d t = record {
  done = λ k u. by k u (ℕ_discrete (k / 64) i);
  left = λ j u. get_or-set_other zs i j w 0 (λ e. omega arith) ∙ t.left j (omega arith);
}
  where
    by : (k : ℕ) → k / 64 < i + 1 → Dec (k / 64 ≡ i) → on (set zs i w) k ≡ (on xs k && not (on ys k))
    by k u (yes e) = rw (e, get_or-set_same zs i w 0 h, ← t.left i (omega arith)) (d (k % 64) (omega arith))
    by k u (no e) = rw (get_or-set_other zs i (k / 64) w 0 e) (t.done k (omega arith))

-- one word more
pub lacking-more : (xs ys zs : List ℕ) (i : ℕ) → i < length zs → get_or ys i 0 < 2 ^ 64 → Lacking xs ys zs i
    → Lacking xs ys (set zs i (lacking (get_or zs i 0) (get_or ys i 0))) (i + 1)
lacking-more xs ys zs i h f =
    one-more xs ys zs i (lacking (get_or zs i 0) (get_or ys i 0)) h (λ j l. lacking-digit (get_or zs i 0) (get_or ys i 0) j f l)

-- all words: past them no bit is set
pub lacking-all : (xs ys zs : List ℕ) (i : ℕ) → length xs ≤ i → Lacking xs ys zs i → (k : ℕ) → on zs k ≡ (on xs k && not (on ys k))
unfolding bit
lacking-all xs ys zs i h t k = by (dec_lt (k / 64) i)
  where
    by : Dec (k / 64 < i) → on zs k ≡ (on xs k && not (on ys k))
    by (yes u) = t.done k u
    by (no u) =
        let e : get_or xs (k / 64) 0 ≡ 0 = get_or-eq_default xs 0 (omega arith) in
        rw (t.left (k / 64) (omega arith), e, zero-div)

-- ---- the same of words of any size

-- the word x without the digits of y, by no complement: `x ^ (x & y)`
abbrev pub without : ℕ → ℕ → ℕ
without x y = bit_xor x (bit_and x y)

-- a digit of it is set where x's is and y's isn't
pub without-digit : (x y i : ℕ) → eqb (digit (without x y) i) 1 ≡ (eqb (digit x i) 1 && not (eqb (digit y i) 1))
without-digit x y i =
    rw (bit_at_xor x (bit_and x y) i, bit_at_and x y i) (both (digit x i) (digit y i) (omega arith) (omega arith))
  where
    both : (a b : ℕ) → a ≤ 1 → b ≤ 1 → eqb ((a + min a b) % 2) 1 ≡ (eqb a 1 && not (eqb b 1))
    both = by_digits (λ a b. eqb ((a + min a b) % 2) 1 ≡ (eqb a 1 && not (eqb b 1))) refl refl refl refl

-- one word more, by it
pub without-more : (xs ys zs : List ℕ) (i : ℕ) → i < length zs → Lacking xs ys zs i
    → Lacking xs ys (set zs i (without (get_or zs i 0) (get_or ys i 0))) (i + 1)
without-more xs ys zs i h =
    one-more xs ys zs i (without (get_or zs i 0) (get_or ys i 0)) h (λ j l. without-digit (get_or zs i 0) (get_or ys i 0) j)
