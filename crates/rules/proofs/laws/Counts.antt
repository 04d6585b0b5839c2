-- A set of pages of the files, counted by its keys below 8,192. Assumes nothing.
use mathlib.Core.Path.{◌≡◌, refl, sym, ap, ◌∙◌, subst}
use mathlib.Core.Bool.{Bool, true, false, not, cond, ◌&&◌, and-true}
use mathlib.Core.List.{List, ◌∷◌, ◌++◌}
use mathlib.Core.Logic.{◌≢◌, ◌⊎◌, inl, inr}
use Prim.Native.Nat.{ℕ, zero, suc, ◌+◌, ◌-◌, ◌*◌, ◌≤◌, ◌<◌}
use native.Mathlib.Nat.{zero-add}
use native.Mathlib.Omega.{arith}
use borrow.Author.Tests.{eq-eqb}
use lib.ListN.{length, length-append}
use lib.Dec.{T, eqb, eqb→eq, not_T}
use Rattle.bits.specs.Map.{bit, on, ones}
use Rattle.bits.proofs.Bits.{bit_le}
use Rattle.bits.proofs.Counts.{ones_none, ones-more, ones-add}
use Rattle.rules.specs.Lists.{range, each, only}
use Rattle.rules.specs.Pages.{size, file_of, page_of, pages, Page}
use Rattle.rules.specs.Schedules.{Set, num, count}
use Rattle.rules.proofs.laws.Tests.{key, side, and_first, and_second}
use Rattle.rules.proofs.laws.Members.{only-only, only-alike, range-in}
use Rattle.rules.proofs.laws.Counting.{num-out}
use Rattle.rules.specs.declared.State.{State}
use Rattle.rules.proofs.laws.Lists.{only-append}

count-suc : (P : Set) (a : ℕ) → count (suc a) P ≡ num (P a) + count a P
unfolding count
count-suc P a = refl

count-one : (P : Set) (a : ℕ) → count (a + 1) P ≡ num (P a) + count a P
count-one P a = ap (λ m. count m P) (omega arith) ∙ count-suc P a

-- past a size nothing counts
count_past : (P : Set) (a n : ℕ) → ((k : ℕ) → a ≤ k → k < a + n → T (not (P k))) → count (a + n) P ≡ count a P
count_past P a zero h = ap (λ m. count m P) (omega arith)
count_past P a (suc n) h =
    let ih = count_past P a n (λ k l m. h k l (omega arith)) in
    let e : count (a + suc n) P ≡ count (suc (a + n)) P = ap (λ m. count m P) (omega arith) in
    omega (arith, count-suc P (a + n), num-out (P (a + n)) (h (a + n) (omega arith) (omega arith)))

count-range : (P : Set) (a n : ℕ) → count (a + n) P ≡ count a P + length (only P (range a n))
unfolding range only
count-range P a zero = let e : count (a + 0) P ≡ count a P = ap (λ m. count m P) (omega arith) in omega arith
count-range P a (suc n) =
    let e : count (a + suc n) P ≡ count (a + 1 + n) P = ap (λ m. count m P) (omega arith) in
    e ∙ count-range P (a + 1) n ∙ go (P a) refl
  where
    go : (t : Bool) → P a ≡ t
        → count (a + 1) P + length (only P (range (a + 1) n))
        ≡ count a P + length (cond t (a ∷ only P (range (a + 1) n)) (only P (range (a + 1) n)))
    go true e = omega (arith, count-one P a, ap num e)
    go false e = omega (arith, count-one P a, ap num e)

count_none : (P : Set) → count 0 P ≡ 0
unfolding count
count_none P = refl

-- a set's keys below n are those picked from the first n
pub count-keys : (P : Set) (n : ℕ) → count n P ≡ length (only P (range 0 n))
count-keys P n = let e : count (0 + n) P ≡ count n P = ap (λ m. count m P) (omega arith) in omega (arith, count-range P 0 n, count_none P)

-- a map's ones are the keys that it has
bit-num : (b : ℕ) → b ≤ 1 → b ≡ num (eqb b 1)
bit-num b l = key b 1 (λ t. b ≡ num t) (λ e. e) (λ ne. omega (arith, ne))

pub count_ones : (words : List ℕ) (n : ℕ) → count n (on words) ≡ ones words 0 n
unfolding count
count_ones words zero = sym (ones_none words 0)
count_ones words (suc n) = rw (ones-more words 0 n, zero-add n) (omega (arith, count_ones words n, bit-num (bit words n) (bit_le words n)))

-- also of those in a stretch
range-ones : (words : List ℕ) (a n : ℕ) → length (only (on words) (range a n)) ≡ ones words a n
range-ones words a n =
    omega (arith, count-range (on words) a n, count_ones words (a + n), count_ones words a, rw (zero-add a) at (ones-add words 0 a n))

-- a set of pages of the files has as many keys as the pages in it, file by file
module _ (s : State) (small : (f : ℕ) → size s f ≤ 1024) (P : Set) (inside : (k : ℕ) → T (P k) → Page s k) where
  absent : (k : ℕ) → (Page s k → ⊥) → T (not (P k))
  absent k not-page = go (side (P k))
    where
      go : T (P k) ⊎ T (not (P k)) → T (not (P k))
      go (inl h) = absurd (not-page (inside k h))
      go (inr h) = h

  file-count : (f : ℕ) → count (f * 1024 + 1024) P ≡ count (f * 1024) P + length (only P (range (f * 1024) (size s f)))
  file-count f =
      let m = small f in
      let p = count_past P (f * 1024 + size s f) (1024 - size s f)
      (λ k l h.
      absent k
      (λ g. let e : file_of k ≡ f = omega arith in
      let q : page_of k ≤ size s f = subst (λ i. page_of k ≤ size s i) e g.there in
      omega arith)) in
      let e : count (f * 1024 + 1024) P ≡ count (f * 1024 + size s f + (1024 - size s f)) P = ap (λ m. count m P) (omega arith) in
      omega (arith, count-range P (f * 1024) (size s f))

  files-count : (a n : ℕ) → count ((a + n) * 1024) P ≡ count (a * 1024) P + length (only P (each (λ f. range (f * 1024) (size s f)) (range a n)))
  unfolding each range only
  files-count a zero = let e : count ((a + 0) * 1024) P ≡ count (a * 1024) P = ap (λ m. count m P) (omega arith) in omega arith
  files-count a (suc n) =
      let here : List ℕ = range (a * 1024) (size s a) in
      let more : List ℕ = each (λ f. range (f * 1024) (size s f)) (range (a + 1) n) in
      let e : count ((a + suc n) * 1024) P ≡ count ((a + 1 + n) * 1024) P = ap (λ m. count m P) (omega arith) in
      let e' : count ((a + 1) * 1024) P ≡ count (a * 1024 + 1024) P = ap (λ m. count m P) (omega arith) in
      let l : length (only P (here ++ more)) ≡ length (only P here) + length (only P more) =
      ap length (only-append P here more) ∙ length-append (only P here) (only P more) in
      omega (arith, files-count (a + 1) n, file-count a)

  pub pages-count : length (only P (pages s)) ≡ count 8192 P
  unfolding pages
  pages-count = omega (arith, files-count 0 8, count_none P)

  -- one that has pages of file f alone has as many as among the pages of that file
  pub in_its_file : (f : ℕ) → f < 8 → ((k : ℕ) → T (P k) → file_of k ≡ f) → length (only P (pages s)) ≡ length (only P (range (f * 1024) (size s f)))
  in_its_file f l its =
      let other : (k : ℕ) → file_of k ≢ f → T (not (P k)) = λ k ne. not_T (P k) (λ h. ne (its k h)) in
      let before : count (0 + f * 1024) P ≡ count 0 P = count_past P 0 (f * 1024) (λ k _ u. other k (λ e. omega arith)) in
      let m : ℕ = 8192 - (f * 1024 + 1024) in
      let after : count (f * 1024 + 1024 + m) P ≡ count (f * 1024 + 1024) P = count_past P (f * 1024 + 1024) m (λ k a _. other k (λ e. omega arith)) in
      let all : count 8192 P ≡ count (f * 1024 + 1024 + m) P = ap (λ i. count i P) (omega arith) in
      let first : count (f * 1024) P ≡ count (0 + f * 1024) P = ap (λ i. count i P) (omega arith) in
      omega (arith, pages-count, all, after, file-count f, first, before, count_none P)

-- how many pages of file f a map of pages of the files has
pub file-held : (s : State) → ((f : ℕ) → size s f ≤ 1024) → (words : List ℕ) → ((k : ℕ) → T (on words k) → Page s k) → (f : ℕ) → f < 8
    → length (only (λ k. eqb (file_of k) f) (only (on words) (pages s))) ≡ ones words (f * 1024) (size s f)
file-held s small words inside f l =
    let P : ℕ → Bool = λ k. on words k && eqb (file_of k) f in
    let m = small f in
    ap length (only-only (on words) (λ k. eqb (file_of k) f) (pages s))
    ∙ in_its_file s small P (λ k h. inside k (and_first (on words k) _ h)) f l (λ k h. eqb→eq (file_of k) f (and_second (on words k) _ h))
    ∙ ap length (only-alike P (on words) (range (f * 1024) (size s f))
    (range-in (λ k. P k ≡ on words k) (f * 1024) (size s f)
    (λ k a b. let e : file_of k ≡ f = omega arith in ap (λ t. on words k && t) (eq-eqb (file_of k) f e) ∙ and-true (on words k))))
    ∙ range-ones words (f * 1024) (size s f)
