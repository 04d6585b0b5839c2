-- How many words of a map hold a stretch of keys: none, one more for each word that is begun, at most sixteen for the pages of a file; and they are the words
-- of the rules. Assumes nothing.
use Rattle.std.proofs.Common.{
  ◌≡◌,
  refl,
  sym,
  ap,
  ◌∙◌,
  ◌⊎◌,
  ⊎_elim,
  ℕ,
  zero,
  suc,
  ◌+◌,
  ◌-◌,
  ◌*◌,
  ◌/◌,
  ◌%◌,
  ◌≤◌,
  ◌<◌,
  arith,
  T,
  T_not,
  eqb,
  eqb→eq,
}
use mathlib.Core.Path.{fun_ext}
use native.Mathlib.Decide.{dec_lt}
use lib.Dec.{not_T, eqb_refl}
use Rattle.bits.specs.Map.{one_of}
use Rattle.rules.specs.Lists.{range, any}
use Rattle.rules.specs.Schedules.{count}
use Rattle.rules.specs.Readers.{next_key}
use Rattle.rules.specs.Questions.{words_of}
use Rattle.rules.proofs.laws.Tests.{both, is_true, is_false}
use Rattle.rules.proofs.laws.Members.{any_of, any-only}
use Rattle.rules.proofs.laws.Counts.{count-keys}
use Rattle.rules.proofs.laws.Keys.{one-of, one-is, one-of-keys, one-of-count}
use Rattle.rules.specs.declared.Reader.{Reader}
use Rattle.walk.specs.Walks.{spanned}

-- the next key is the first that is walked along, or begins a word
abbrev pub Fresh : ℕ → ℕ → Type 0
Fresh from n = (n ≡ 0) ⊎ ((from + n) % 64 ≡ 0)

-- of no key, and of some
pub spanned-none : (from : ℕ) → 0 ≡ spanned from 0
unfolding spanned
spanned-none from = refl

spanned-some : (from n : ℕ) → 0 < n → spanned from n ≡ (from + n - 1) / 64 - from / 64 + 1
unfolding spanned
spanned-some from zero l = absurd (omega arith)
spanned-some from (suc n) l = ap (λ (m : ℕ). m / 64 - from / 64 + 1) (omega arith)

-- there are no more of them than keys
pub spanned-small : (from n : ℕ) → spanned from n ≤ n
spanned-small from zero = omega (arith, spanned-none from)
spanned-small from (suc n) = omega (arith, spanned-some from (suc n) (omega arith))

-- one more: from n keys on to m, which are up to the border of the next one's word
pub spanned-more : (from n m words : ℕ) → Fresh from n → n < m → m ≤ n + 64 - (from + n) % 64 → words ≡ spanned from n → words + 1 ≡ spanned from m
spanned-more from zero m words f l u e = omega (arith, e, spanned-none from, spanned-some from m (omega arith))
spanned-more from (suc n) m words f l u e =
    let g : (from + suc n) % 64 ≡ 0 = ⊎_elim (λ z. absurd (omega (arith, z))) (λ z. z) f in
    omega (arith, e, g, spanned-some from (suc n) (omega arith), spanned-some from m (omega arith))

-- what a reader has before it is of one file
pub spanned-few : (r : Reader) (n : ℕ) → r.position + n ≤ 1024 → spanned (next_key r) n ≤ 16
spanned-few r zero l = omega (arith, spanned-none (next_key r))
spanned-few r (suc n) l = omega (arith, spanned-some (next_key r) (suc n) (omega arith))

module _ (from n : ℕ) where
  -- a word that holds one of the keys
  held : (i : ℕ) → T (any (λ k. eqb (k / 64) i) (range from n)) → T (one_of (from / 64) (spanned from n) i)
  held i h =
      let m = any-only (λ k. eqb (k / 64) i) (one_of from n) (range 0 (from + n)) (rw (one-of-keys from n (from + n) (omega arith)) h) in
      let k = m.0 in
      let e = eqb→eq (k / 64) i m.1 in
      let l = one-is from n k m.2 in
      let c = spanned-some from n (omega (arith, l)) in
      one-of (from / 64) (spanned from n) i (omega (arith, e, l)) (omega (arith, e, l, c))

  -- and one of these words holds a key: its first, or the first of all
  holds : (i : ℕ) → T (one_of (from / 64) (spanned from n) i) → T (any (λ k. eqb (k / 64) i) (range from n))
  holds i h = go (dec_lt (i * 64) from)
    where
      l : (from / 64 ≤ i) × (i < from / 64 + spanned from n)
      l = one-is (from / 64) (spanned from n) i h

      some : 0 < n
      some = omega (arith, l, spanned-small from n)

      at : (k : ℕ) → from ≤ k → k < from + n → k / 64 ≡ i → T (any (λ k. eqb (k / 64) i) (range from n))
      at k a b e = any_of (λ k. eqb (k / 64) i) from n k a b (rw e (eqb_refl i))

      go : Dec (i * 64 < from) → T (any (λ k. eqb (k / 64) i) (range from n))
      go (yes m) = at from (omega arith) (omega (arith, some)) (omega (arith, l, m))
      go (no m) = at (i * 64) (omega (arith, m)) (omega (arith, l, some, spanned-some from n some)) (omega arith)

  -- so they are as many as the rules count
  pub words-spanned : from + n ≤ 8192 → words_of (range from n) ≡ spanned from n
  unfolding words_of
  words-spanned m =
      ap (count 128) (fun_ext same)
      ∙ count-keys (one_of (from / 64) (spanned from n)) 128
      ∙ one-of-count (from / 64) (spanned from n) 128 high
    where
      same : (i : ℕ) → any (λ k. eqb (k / 64) i) (range from n) ≡ one_of (from / 64) (spanned from n) i
      same i =
          both (any (λ k. eqb (k / 64) i) (range from n)) (λ b. b ≡ one_of (from / 64) (spanned from n) i)
          (λ h. sym (is_true (one_of (from / 64) (spanned from n) i) (held i h)))
          (λ h. sym (is_false (one_of (from / 64) (spanned from n) i)
          (not_T (one_of (from / 64) (spanned from n) i) (λ o. T_not (any (λ k. eqb (k / 64) i) (range from n)) h (holds i o)))))

      high : from / 64 + spanned from n ≤ 128
      high = go (dec_lt 0 n)
        where
          go : Dec (0 < n) → from / 64 + spanned from n ≤ 128
          go (yes l) = omega (arith, m, spanned-some from n l)
          go (no l) = omega (arith, m, l, spanned-small from n)
