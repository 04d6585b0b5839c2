-- Words that are 0 where no key of theirs has a bit set, and words joined. Assumes nothing.
use mathlib.Core.Path.{◌≡◌, refl, sym, ap, ◌∙◌}
use mathlib.Core.Bool.{Bool, not, ◌&&◌, ◌||◌}
use mathlib.Core.List.{List}
use Prim.Native.Nat.{ℕ, zero, suc, ◌+◌, ◌*◌, ◌-◌, ◌/◌, ◌%◌, ◌^◌, ◌≤◌, ◌<◌}
use native.Mathlib.Nat.{lt_of_le_of_lt, pow-suc}
use native.Mathlib.Decide.{dec_lt}
use native.Mathlib.Omega.{arith}
use lib.Bits.{bit_and, bit_or, and_shr, and_mod, and_zero_l, and_le_l, and_le_r, or_shr, or_mod, or_add_and, or_zero_l}
use lib.Pow.{shr_le}
use lib.ListN.{get_or}
use lib.Dec.{T, eqb, eqb→eq}
use Rattle.std.proofs.lemmas.Nat.{or_lt}
use Rattle.bits.specs.Map.{digit}
use Rattle.bits.proofs.Words.{digit-step, digit-shr, digit-high}
use Rattle.bits.proofs.Bits.{bit_at}
use Rattle.rules.specs.Lists.{range, every}
use Rattle.rules.proofs.laws.Tests.{key}
use Rattle.image.specs.Tests.{apart_at, clear_at}
use Rattle.image.proofs.Checks.{same_test, every_in, every-at}

-- ---- digits

digit_and : (a b j : ℕ) → digit (bit_and a b) j ≡ bit_and (digit a j) (digit b j)
digit_and a b j = ap (λ (x : ℕ). x % 2) (and_shr a b j) ∙ and_mod (a / 2 ^ j) (b / 2 ^ j) 1

digit_or : (a b j : ℕ) → digit (bit_or a b) j ≡ bit_or (digit a j) (digit b j)
digit_or a b j = ap (λ (x : ℕ). x % 2) (or_shr a b j) ∙ or_mod (a / 2 ^ j) (b / 2 ^ j) 1

-- a word without a digit is 0
clear-word : (n w : ℕ) → w < 2 ^ n → ((j : ℕ) → j < n → digit w j ≡ 0) → w ≡ 0
clear-word zero w h z = omega arith
clear-word (suc n) w h z =
    let half : w / 2 ≡ 0 = clear-word n (w / 2) (omega (arith, pow-suc 2 n)) (λ j l. sym (digit-step w j) ∙ z (suc j) (omega arith)) in
    omega (arith, z 0 (omega arith))

-- two digits joined
and_one : (x y : ℕ) → x ≤ 1 → y ≤ 1 → eqb (bit_and x y) 1 ≡ (eqb x 1 && eqb y 1)
and_one zero y l m = ap (λ (x : ℕ). eqb x 1) (and_zero_l y)
and_one (suc zero) zero l m = refl
and_one (suc zero) (suc zero) l m = refl
and_one (suc zero) (suc (suc y)) l m = absurd (omega arith)
and_one (suc (suc x)) y l m = absurd (omega arith)

or-one : (x y : ℕ) → x ≤ 1 → y ≤ 1 → eqb (bit_or x y) 1 ≡ (eqb x 1 || eqb y 1)
or-one zero y l m = rw (or_zero_l y)
or-one (suc zero) zero l m = refl
or-one (suc zero) (suc zero) l m = refl
or-one (suc zero) (suc (suc y)) l m = absurd (omega arith)
or-one (suc (suc x)) y l m = absurd (omega arith)

-- two words joined are 0 where both are
or-none : (u w : ℕ) → bit_or u w ≡ 0 → (u ≡ 0) × (w ≡ 0)
or-none u w z =
    let sum = or_add_and u w in
    let l = and_le_l u w in
    let m = and_le_r u w in
    (omega arith, omega arith)

is_zero : (x : ℕ) → x ≡ 0 → T (eqb x 0)
is_zero x e = rw e tt

-- ---- words and keys

-- the keys from a to before b
abbrev pub up_to : ℕ → ℕ → List ℕ
up_to a b = range a (b - a)

-- the digits of w are set where the keys from a on fail the test
abbrev pub Tells : (ℕ → Bool) → ℕ → ℕ → Type 0
Tells P w a = (j : ℕ) → j < 64 → P (a + j) ≡ not (eqb (digit w j) 1)

module _ (P : ℕ → Bool) where
  -- a word, from digit s on, is 0 where its keys pass
  word-told : (w a s : ℕ) → w < 2 ^ 64 → s ≤ 64 → Tells P w a → eqb (w / 2 ^ s) 0 ≡ every P (range (a + s) (64 - s))
  word-told w a s fits low tells =
      same_test (eqb (w / 2 ^ s) 0) (every P (range (a + s) (64 - s)))
      (λ h. every_in P (a + s) (64 - s) (λ k l m. pass (eqb→eq (w / 2 ^ s) 0 h) k l m))
      (λ h. is_zero (w / 2 ^ s) (clear-word 64 (w / 2 ^ s) (lt_of_le_of_lt (shr_le w s) fits) (λ j _. digit-shr w s j ∙ clear h j (dec_lt (s + j) 64))))
    where
      pass : w / 2 ^ s ≡ 0 → (k : ℕ) → a + s ≤ k → k < a + s + (64 - s) → T (P k)
      pass z k l m =
          let i : ℕ = k - (a + s) in
          let e : k ≡ a + (s + i) = omega arith in
          let d : digit w (s + i) ≡ 0 = sym (digit-shr w s i) ∙ ap (λ (x : ℕ). digit x i) z ∙ digit-high 0 0 i (omega arith) (omega arith) in
          rw (e, tells (s + i) (omega arith), d) tt

      clear : T (every P (range (a + s) (64 - s))) → (j : ℕ) → Dec (s + j < 64) → digit w (s + j) ≡ 0
      clear h j (yes l) =
          let e : a + s + j ≡ a + (s + j) = omega arith in
          let p : T (P (a + (s + j))) = rw e at (every-at P (a + s) (64 - s) h (a + s + j) (omega arith) (omega arith)) in
          let q : T (not (eqb (digit w (s + j)) 1)) = rw (tells (s + j) l) at p in
          key (digit w (s + j)) 1 (λ b. T (not b) → digit w (s + j) ≡ 0) (λ _ n. absurd n) (λ ne _. omega arith) q
      clear h j (no n) = digit-high w 64 (s + j) fits (omega arith)

  -- the word of a key, from the key on
  pub first-told : (w from : ℕ) → w < 2 ^ 64 → Tells P w (from / 64 * 64) → eqb (w / 2 ^ (from % 64)) 0 ≡ every P (up_to from ((from / 64 + 1) * 64))
  first-told w from fits tells =
      let e : from / 64 * 64 + from % 64 ≡ from = omega arith in
      let f : 64 - from % 64 ≡ (from / 64 + 1) * 64 - from = omega arith in
      rw (e, f) at (word-told w (from / 64 * 64) (from % 64) fits (omega arith) tells)

  -- one more word joined to those of the keys from a on
  pub more-told : (u w a i : ℕ) → a ≤ i * 64 → w < 2 ^ 64 → Tells P w (i * 64) → eqb u 0 ≡ every P (up_to a (i * 64))
      → eqb (bit_or u w) 0 ≡ every P (up_to a ((i + 1) * 64))
  more-told u w a i low fits tells e =
      same_test (eqb (bit_or u w) 0) (every P (up_to a ((i + 1) * 64)))
      (λ h. let z = or-none u w (eqb→eq (bit_or u w) 0 h) in
      every_in P a ((i + 1) * 64 - a) (λ k l m. pass (rw e at (is_zero u z.0)) z.1 k l m (dec_lt k (i * 64))))
      (λ h. is_zero (bit_or u w) (clear (every-at P a ((i + 1) * 64 - a) h)))
    where
      word : eqb (w / 2 ^ 0) 0 ≡ every P (range (i * 64 + 0) (64 - 0))
      word = word-told w (i * 64) 0 fits (omega arith) tells

      whole : w / 2 ^ 0 ≡ w
      whole = omega arith

      pass : T (every P (up_to a (i * 64))) → w ≡ 0 → (k : ℕ) → a ≤ k → k < a + ((i + 1) * 64 - a) → Dec (k < i * 64) → T (P k)
      pass h z k l m (yes b) = every-at P a (i * 64 - a) h k l (omega arith)
      pass h z k l m (no b) = every-at P (i * 64 + 0) (64 - 0) (rw word at (is_zero (w / 2 ^ 0) (whole ∙ z))) k (omega arith) (omega arith)

      clear : ((k : ℕ) → a ≤ k → k < a + ((i + 1) * 64 - a) → T (P k)) → bit_or u w ≡ 0
      clear h =
          let x : u ≡ 0 = eqb→eq u 0 (rw e (every_in P a (i * 64 - a) (λ k l m. h k l (omega arith)))) in
          let y : w ≡ 0 = sym whole ∙ eqb→eq (w / 2 ^ 0) 0 (rw word (every_in P (i * 64 + 0) (64 - 0) (λ k l m. h k (omega arith) (omega arith)))) in
          rw (x, y, or_zero_l 0)

  -- all words
  pub all_told : (a n u i : ℕ) → eqb u 0 ≡ every P (up_to a (i * 64)) → i ≤ n → n ≤ i → eqb u 0 ≡ every P (up_to a (n * 64))
  all_told a n u i e l m = let q : i ≡ n = omega arith in e ∙ ap (λ j. every P (up_to a (j * 64))) q

-- ---- the words of both maps

module _ (cached fetching : List ℕ) where
  -- a word that has the pages in both
  pub both-tells : (w i : ℕ) → w ≡ bit_and (get_or cached i 0) (get_or fetching i 0) → Tells (apart_at cached fetching) w (i * 64)
  both-tells w i e j l =
      let c = get_or cached i 0 in
      let f = get_or fetching i 0 in
      rw (e, bit_at cached i j l, bit_at fetching i j l, digit_and c f j) (ap not (sym (and_one (digit c j) (digit f j) (omega arith) (omega arith))))

  -- a word that has the pages in either
  pub either-tells : (w i : ℕ) → w ≡ bit_or (get_or cached i 0) (get_or fetching i 0) → Tells (clear_at cached fetching) w (i * 64)
  either-tells w i e j l =
      let c = get_or cached i 0 in
      let f = get_or fetching i 0 in
      rw (e, bit_at cached i j l, bit_at fetching i j l, digit_or c f j) (ap not (sym (or-one (digit c j) (digit f j) (omega arith) (omega arith))))

-- two words joined are a word
pub either-fits : (a b : ℕ) → a < 2 ^ 64 → b < 2 ^ 64 → bit_or a b < 2 ^ 64
either-fits = or_lt 64
