-- The low and high pages of a file's clusters come in pairs. Assumes nothing.
use Rattle.std.proofs.Common.{ℕ, zero, suc, ◌+◌, ◌-◌, ◌%◌, ◌≡◌, Bool, true, false, not, cond, ◌&&◌, leb, [], ◌∷◌, ◌++◌, length}
use Rattle.std.proofs.Common.{refl, ap, subst, arith, length-append}
use mathlib.Core.Bool.{and-false}
use borrow.Author.Tests.{lt-leb}
use Rattle.rules.specs.Lists.{range, each}
use Rattle.rules.specs.Pages.{size, held, ends, clusters}
use Rattle.rules.specs.declared.State.{State}

-- 1 if both hold
both : Bool → Bool → ℕ
both a b = cond (a && b) 1 0

-- a page with its two neighbours
odd-ends : (p : ℕ) (a b c : Bool) → (length (cond (b && not a) (p ∷ []) [] ++ cond (b && not c) (p ∷ []) []) + both a b + both b c) % 2 ≡ 0
unfolding both
odd-ends p true true true = refl
odd-ends p true true false = refl
odd-ends p true false true = refl
odd-ends p true false false = refl
odd-ends p false true true = refl
odd-ends p false true false = refl
odd-ends p false false true = refl
odd-ends p false false false = refl

before : (p : ℕ) → p + 1 - 1 ≡ p
before p = omega arith

module _ (s : State) (f : ℕ) where
  -- 1 if the page and the next are cached
  joined : ℕ → ℕ
  joined p = both (held s f p) (held s f (p + 1))

  page-even : (p : ℕ) → (length (ends s f (p + 1)) + joined p + joined (p + 1)) % 2 ≡ 0
  unfolding ends joined
  page-even p =
      subst (λ q. (length (ends s f (p + 1)) + both (held s f q) (held s f (p + 1)) + joined (p + 1)) % 2 ≡ 0) (before p)
      (odd-ends (p + 1) (held s f (p + 1 - 1)) (held s f (p + 1)) (held s f (p + 1 + 1)))

  stretch-even : (a n : ℕ) → (length (each (ends s f) (range (a + 1) n)) + joined a + joined (a + n)) % 2 ≡ 0
  unfolding each range
  stretch-even a zero = let e : joined (a + 0) ≡ joined a = ap joined (omega arith) in omega arith
  stretch-even a (suc n) =
      let e : joined (a + suc n) ≡ joined (a + 1 + n) = ap joined (omega arith) in
      rw length-append (omega (arith, page-even a, stretch-even (a + 1) n))

  -- so many numbers, two for each cluster
  pub clusters-even : length (clusters s f) % 2 ≡ 0
  unfolding clusters joined both held
  clusters-even =
      let even : (length (clusters s f) + joined 0 + joined (0 + size s f)) % 2 ≡ 0 = stretch-even 0 (size s f) in
      let first : joined 0 ≡ 0 = refl in
      let last : joined (0 + size s f) ≡ 0 = rw (lt-leb (0 + size s f + 1) (size s f) (omega arith), and-false (leb 1 (0 + size s f + 1)), and-false) in
      omega arith
