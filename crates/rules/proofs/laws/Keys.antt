-- Ranges of keys, cut in two and picked from. Assumes nothing.
use mathlib.Core.Path.{◌≡◌, refl, sym, ap, ap₂, ◌∙◌, subst}
use mathlib.Core.Bool.{Bool, cond}
use mathlib.Core.List.{List, [], ◌∷◌, ◌++◌, append-nil}
use Prim.Native.Nat.{ℕ, zero, suc, ◌+◌, ◌-◌, ◌*◌, ◌≤◌, ◌<◌}
use native.Mathlib.Nat.{zero-add}
use native.Mathlib.Omega.{arith}
use lib.Dec.{T, leb, leb→le, le→leb, ltb→lt, lt→ltb}
use lib.ListN.{length}
use Rattle.bits.specs.Map.{one_of}
use Rattle.rules.specs.Lists.{range, each, only}
use Rattle.rules.specs.Pages.{size, file_of, page_of, Page, pages}
use Rattle.rules.proofs.laws.Tests.{both, is_true, and_both, and_first, and_second}
use Rattle.rules.specs.declared.State.{State}
use Rattle.rules.proofs.laws.Lists.{range-add, only-append}
use Rattle.rules.proofs.laws.Indexed.{length-range}

-- nothing is picked from a range that has nothing to pick
pub only_none : (P : ℕ → Bool) (a n : ℕ) → ((k : ℕ) → a ≤ k → k < a + n → T (P k) → ⊥) → only P (range a n) ≡ []
unfolding range only
only_none P a zero h = refl
only_none P a (suc n) h =
    both (P a) (λ t. cond t (a ∷ only P (range (a + 1) n)) (only P (range (a + 1) n)) ≡ [])
    (λ p. absurd (h a (omega arith) (omega arith) p)) (λ _. only_none P (a + 1) n (λ k l u. h k (omega arith) (omega arith)))

-- all is picked from a range that passes the test
only-whole : (P : ℕ → Bool) (a n : ℕ) → ((k : ℕ) → a ≤ k → k < a + n → T (P k)) → only P (range a n) ≡ range a n
unfolding range only
only-whole P a zero h = refl
only-whole P a (suc n) h =
    rw (is_true (P a) (h a (omega arith) (omega arith))) (ap (λ l. a ∷ l) (only-whole P (a + 1) n (λ k l u. h k (omega arith) (omega arith))))

-- ---- one of n keys

module _ (a n k : ℕ) where
  -- between the first and the end
  pub one-of : a ≤ k → k < a + n → T (one_of a n k)
  one-of l u = and_both (leb a k) _ (le→leb a k l) (lt→ltb k (a + n) u)

  pub one-is : T (one_of a n k) → (a ≤ k) × (k < a + n)
  one-is h = (leb→le a k (and_first (leb a k) _ h), ltb→lt k (a + n) (and_second (leb a k) _ h))

-- they are a range, of n keys
pub one-of-keys : (a n b : ℕ) → a + n ≤ b → only (one_of a n) (range 0 b) ≡ range a n
one-of-keys a n b l =
    let P : ℕ → Bool = one_of a n in
    let m : ℕ = b - (a + n) in
    let e : a + (n + m) ≡ b = omega arith in
    let before : only P (range 0 a) ≡ [] = only_none P 0 a (λ k _ u h. omega (arith, one-is a n k h)) in
    let here : only P (range a n) ≡ range a n = only-whole P a n (λ k v u. one-of a n k v u) in
    let after : only P (range (a + n) m) ≡ [] = only_none P (a + n) m (λ k v _ h. omega (arith, one-is a n k h)) in
    ap (λ (i : ℕ). only P (range 0 i)) (sym e)
    ∙ ap (only P) (range-add 0 a (n + m) ∙ rw (zero-add a) (ap (λ l. range 0 a ++ l) (range-add a n m)))
    ∙ (only-append P (range 0 a) (range a n ++ range (a + n) m) ∙ ap (λ l. only P (range 0 a) ++ l) (only-append P (range a n) (range (a + n) m)))
    ∙ rw (before, here, after, append-nil (range a n)) refl

pub one-of-count : (a n b : ℕ) → a + n ≤ b → length (only (one_of a n) (range 0 b)) ≡ n
one-of-count a n b l = ap length (one-of-keys a n b l) ∙ length-range a n

-- pages are picked from the keys as from the pages, file by file
module _ (s : State) (small : (f : ℕ) → size s f ≤ 1024) (P : ℕ → Bool) (inside : (k : ℕ) → T (P k) → Page s k) where
  file-keys : (f : ℕ) → only P (range (f * 1024) 1024) ≡ only P (range (f * 1024) (size s f))
  file-keys f =
      let m = small f in
      let n : ℕ = 1024 - size s f in
      let e : size s f + n ≡ 1024 = omega arith in
      let none : only P (range (f * 1024 + size s f) n) ≡ [] = only_none P (f * 1024 + size s f) n (λ k l u p.
      let g : file_of k ≡ f = omega arith in
      let h : page_of k ≤ size s f = subst (λ i. page_of k ≤ size s i) g (inside k p).there in
      omega arith) in
      ap (λ (i : ℕ). only P (range (f * 1024) i)) (sym e)
      ∙ ap (only P) (range-add (f * 1024) (size s f) n)
      ∙ only-append P (range (f * 1024) (size s f)) (range (f * 1024 + size s f) n)
      ∙ rw (none, append-nil (only P (range (f * 1024) (size s f)))) refl

  files-keys : (a n : ℕ) → only P (range (a * 1024) (n * 1024)) ≡ only P (each (λ f. range (f * 1024) (size s f)) (range a n))
  unfolding range each
  files-keys a zero = refl
  files-keys a (suc n) =
      let here : List ℕ = range (a * 1024) (size s a) in
      let more : List ℕ = each (λ f. range (f * 1024) (size s f)) (range (a + 1) n) in
      let e : suc n * 1024 ≡ 1024 + n * 1024 = omega arith in
      let f : a * 1024 + 1024 ≡ (a + 1) * 1024 = omega arith in
      ap (λ (i : ℕ). only P (range (a * 1024) i)) e
      ∙ ap (only P) (range-add (a * 1024) 1024 (n * 1024))
      ∙ only-append P (range (a * 1024) 1024) (range (a * 1024 + 1024) (n * 1024))
      ∙ ap₂ ◌++◌ (file-keys a) (ap (λ (i : ℕ). only P (range i (n * 1024))) f ∙ files-keys (a + 1) n)
      ∙ sym (only-append P here more)

  -- the pages that pass a test are the keys that do
  pub only-keys : only P (range 0 8192) ≡ only P (pages s)
  unfolding pages
  only-keys = files-keys 0 8
