-- A test of each of some numbers, and tests that pass together. Assumes nothing.
use Rattle.std.proofs.Common.{ℕ, zero, suc, ◌≡◌, ◌+◌, ◌≤◌, ◌<◌, Bool, true, false, ◌&&◌, List, [], ◌∷◌, map, leb, refl, ap, ap₂, arith}
use Rattle.std.specs.List.{list_all, range_with_len}
use native.Mathlib.Decide.{ℕ_discrete}
use borrow.Author.Tests.{le-leb}
use lib.Dec.{T}
use Rattle.rules.specs.Lists.{range, every, within}
use Rattle.rules.proofs.laws.Cases.{passed, failed}
use Rattle.rules.proofs.laws.Tests.{is_true}
use Rattle.rules.proofs.laws.Members.{range-in, range_at}
use Rattle.rules.proofs.laws.Indexed.{every-all, all-every}

-- two tests that pass together
pub same_test : (a b : Bool) → (T a → T b) → (T b → T a) → a ≡ b
same_test true true f g = refl
same_test true false f g = absurd (f tt)
same_test false true f g = absurd (g tt)
same_test false false f g = refl

-- the code makes the first test and, where it holds, the second: t is the outcome of the first, r of both
pub on : (a b t r : Bool) → t ≡ a → t ≡ true → r ≡ b → r ≡ (a && b)
on a b t r e h f = rw (← e, h) f

-- where it does not, the first settles the answer
pub off : (a b t r : Bool) → t ≡ a → t ≡ false → r ≡ t → r ≡ (a && b)
off a b t r e h f = rw (← e, h, f) h

-- a number is at least 0
pub high-within : (high n : ℕ) → leb n high ≡ within 0 high n
high-within high n = rw (le-leb 0 n (omega arith)) refl

-- ---- one for each of some numbers

-- each of them passes
pub every_in : (P : ℕ → Bool) (a n : ℕ) → ((k : ℕ) → a ≤ k → k < a + n → T (P k)) → T (every P (range a n))
every_in P a n h = all-every P (range a n) (range-in (λ k. T (P k)) a n h)

-- one of those that all pass
pub every-at : (P : ℕ → Bool) (a n : ℕ) → T (every P (range a n)) → (k : ℕ) → a ≤ k → k < a + n → T (P k)
every-at P a n h k l m = range_at (λ i. T (P i)) a n k (every-all P (range a n) h) l m

module _ (P : ℕ → Bool) where
  -- no number yet
  pub every-none : every P (range 0 0) ≡ true
  unfolding every range
  every-none = refl

  -- one more
  pub every_more : (k : ℕ) → every P (range 0 k) ≡ true → P k ≡ true → every P (range 0 (k + 1)) ≡ true
  every_more k e f =
      let before = every-at P 0 k (passed (every P (range 0 k)) e) in
      is_true (every P (range 0 (k + 1))) (every_in P 0 (k + 1) (λ i _ l. by i l (ℕ_discrete i k) before))
    where
      by : (i : ℕ) → i < 0 + (k + 1) → Dec (i ≡ k) → ((j : ℕ) → 0 ≤ j → j < 0 + k → T (P j)) → T (P i)
      by i l (yes q) b = rw q (passed (P k) f)
      by i l (no d) b = b i (omega arith) (omega arith)

  -- one fails
  pub every-stop : (k n : ℕ) → k < n → P k ≡ false → every P (range 0 n) ≡ false
  every-stop k n l f =
      same_test (every P (range 0 n)) false (λ h. failed (P k) f (every-at P 0 n h k (omega arith) (omega arith))) (λ z. absurd z)

-- ---- one for each member of a list

-- the same test, as std has it
pub every-list : {A : Type 0} (P Q : A → Bool) → ((x : A) → P x ≡ Q x) → (xs : List A) → list_all P xs ≡ every Q xs
unfolding every
every-list P Q same [] = refl
every-list P Q same (x ∷ xs) = ap₂ ◌&&◌ (same x) (every-list P Q same xs)

-- of numbers made of others
pub every_map : {A : Type 0} (P : A → Bool) (f : ℕ → A) (xs : List ℕ) → every P (map f xs) ≡ every (λ x. P (f x)) xs
unfolding every
every_map P f [] = refl
every_map P f (x ∷ xs) = ap (λ b. P (f x) && b) (every_map P f xs)

-- and each number of a range
pub every-range : (P : ℕ → Bool) (a n : ℕ) → list_all P (range_with_len a n) ≡ every P (range a n)
unfolding every range
every-range P a zero = refl
every-range P a (suc n) = ap (λ b. P a && b) (every-range P (a + 1) n)
