-- The clusters of a file from set bit to clear bit. Assumes nothing.
use Rattle.std.proofs.Common.{◌≡◌, refl, sym, ap, ap₂, ◌∙◌, Bool, true, false, not, cond, ◌&&◌, List, [], ◌∷◌, ◌++◌, append-nil, ◌⊎◌, inl, inr, ℕ, zero}
use Rattle.std.proofs.Common.{suc, ◌+◌, ◌-◌, ◌*◌, ◌≤◌, ◌<◌, eq-or-lt_of_le, arith, eq-eqb, ne_eqb, le-leb, eqb}
use borrow.Author.Tests.{lt-leb}
use Rattle.bits.specs.Map.{bit}
use Rattle.bits.proofs.Bits.{bit_le}
use Rattle.bits.proofs.Finds.{Next}
use Rattle.rules.specs.Lists.{range, each}
use Rattle.rules.specs.Pages.{size, page_of, held, ends, clusters}
use Rattle.rules.proofs.laws.Members.{All, range-in, each_in}
use Rattle.rules.specs.declared.State.{State}
use Rattle.rules.proofs.laws.Lists.{range-add, each_append}

module _ (s : State) (f : ℕ) where
  -- the ends among n pages from page p on
  unfoldable pub stretch : ℕ → ℕ → List ℕ
  stretch p n = each (ends s f) (range p n)

  stretch-add : (p m n : ℕ) → stretch p (m + n) ≡ stretch p m ++ stretch (p + m) n
  unfolding stretch
  stretch-add p m n = ap (each (ends s f)) (range-add p m n) ∙ each_append (ends s f) (range p m) (range (p + m) n)

  stretch-first : (p n : ℕ) → stretch p (suc n) ≡ ends s f p ++ stretch (p + 1) n
  unfolding stretch each range
  stretch-first p n = refl

  stretch-none : (p : ℕ) → stretch p 0 ≡ []
  unfolding stretch each range
  stretch-none p = refl

  -- pages that are not held have no end
  gap : (p n : ℕ) → ((q : ℕ) → p ≤ q → q < p + n → held s f q ≡ false) → stretch p n ≡ []
  unfolding ends
  gap p zero h = stretch-none p
  gap p (suc n) h = stretch-first p n ∙ rw (h p (omega arith) (omega arith)) (gap (p + 1) n (λ q l u. h q (omega arith) (omega arith)))

  ends_by : (p : ℕ) (a b c : Bool) → held s f (p - 1) ≡ a → held s f p ≡ b → held s f (p + 1) ≡ c
      → ends s f p ≡ cond (b && not a) (p ∷ []) [] ++ cond (b && not c) (p ∷ []) []
  unfolding ends
  ends_by p a b c x y z = rw (x, y, z) refl

  -- held pages as far as they go have the last for an end, and the first where none is held before it
  run : (a : Bool) (p n : ℕ) → held s f (p - 1) ≡ a → ((q : ℕ) → p ≤ q → q ≤ p + n → held s f q ≡ true) → held s f (p + n + 1) ≡ false
      → stretch p (suc n) ≡ cond (not a) (p ∷ []) [] ++ ((p + n) ∷ [])
  run a p zero x h z =
      let e : p + 0 ≡ p = omega arith in
      stretch-first p 0 ∙ ap₂ ◌++◌ (ends_by p a true false x (h p (omega arith) (omega arith)) (rw e at z)) (stretch-none (p + 1))
      ∙ append-nil (cond (not a) (p ∷ []) [] ++ (p ∷ [])) ∙ rw e refl
  run a p (suc n) x h z =
      let e : p + 1 - 1 ≡ p = omega arith in
      let g : p + 1 + n ≡ p + suc n = omega arith in
      let here : held s f p ≡ true = h p (omega arith) (omega arith) in
      stretch-first p (suc n)
      ∙ ap₂ ◌++◌ (ends_by p a true true x here (h (p + 1) (omega arith) (omega arith)) ∙ append-nil (cond (not a) (p ∷ []) []))
      (run true (p + 1) n (rw e here) (λ q l u. h q (omega arith) (omega arith)) (rw g z))
      ∙ rw g refl

  -- from page a, past a cluster that ends with page b, to page c
  one_more : (a b c : ℕ) → a < b → b ≤ c → held s f a ≡ false → ((q : ℕ) → a < q → q ≤ b → held s f q ≡ true) → ((q : ℕ) → b < q → q ≤ c → held s f q ≡ false)
      → held s f (b + 1) ≡ false → stretch 1 c ≡ stretch 1 a ++ ((a + 1) ∷ b ∷ [])
  one_more a b c l u x h g z =
      let n : ℕ = b - a - 1 in
      let e : c ≡ a + (suc n + (c - b)) = omega arith in
      let p : 1 + a + n ≡ b = omega arith in
      let q : 1 + a - 1 ≡ a = omega arith in
      let r : 1 + a + suc n ≡ b + 1 = omega arith in
      let one : stretch (1 + a) (suc n) ≡ (1 + a) ∷ b ∷ [] = rw p at (run false (1 + a) n (rw q x) (λ i j k. h i (omega arith) (omega arith)) (rw p z)) in
      let none : stretch (1 + a + suc n) (c - b) ≡ [] = gap (1 + a + suc n) (c - b) (λ i j k. g i (omega arith) (omega arith)) in
      let both : stretch (1 + a) (suc n + (c - b)) ≡ (a + 1) ∷ b ∷ [] =
      stretch-add (1 + a) (suc n) (c - b) ∙ ap₂ ◌++◌ one none ∙ ap (λ (i : ℕ). i ∷ b ∷ []) (omega arith) in
      ap (stretch 1) e ∙ stretch-add 1 a (suc n + (c - b)) ∙ ap (λ m. stretch 1 a ++ m) both

-- ---- by the bits

-- the next bit v is later than a key with the other bit
pub next-above : (words : List ℕ) (v a n r : ℕ) → 0 < n → (bit words a ≡ v → ⊥) → Next words v a n r → a < r
next-above words v a n r l e t = go (eq-or-lt_of_le t.low)
  where
    go : (a ≡ r) ⊎ (a < r) → a < r
    go (inl q) = absurd (e (ap (bit words) q ∙ t.found (omega arith)))
    go (inr u) = u

-- the clusters before key low are found, and low begins another or is past the file
pub record Reached (s : State) (f low : ℕ) (found : List ℕ) : Type 0 where
  pub pages : found ≡ stretch s f 1 (low - f * 1024)
  pub fresh : low < f * 1024 + size s f → held s f (low - f * 1024) ≡ false

module _ (s : State) (f : ℕ) (words : List ℕ) (last : ℕ) (ew : s.cached ≡ words) (el : size s f ≡ last) where
  held_in : (p : ℕ) → 1 ≤ p → p ≤ last → held s f p ≡ eqb (bit words (f * 1024 + p - 1)) 1
  unfolding held
  held_in p l u = rw (el, le-leb 1 p l, le-leb p last u, ew) refl

  held-past : (p : ℕ) → last < p → held s f p ≡ false
  unfolding held
  held-past p l = rw (el, le-leb 1 p (omega arith), lt-leb p last l) refl

  held-zero : held s f 0 ≡ false
  unfolding held
  held-zero = refl

  held-set : (p : ℕ) → 1 ≤ p → p ≤ last → (bit words (f * 1024 + p - 1) ≡ 0 → ⊥) → held s f p ≡ true
  held-set p l u h = held_in p l u ∙ eq-eqb (bit words (f * 1024 + p - 1)) 1 (omega (arith, bit_le words (f * 1024 + p - 1)))

  held-clear : (p : ℕ) → 1 ≤ p → p ≤ last → (bit words (f * 1024 + p - 1) ≡ 1 → ⊥) → held s f p ≡ false
  held-clear p l u h = held_in p l u ∙ ne_eqb (bit words (f * 1024 + p - 1)) 1 h

  -- the first set bit
  pub reach-first : (low : ℕ) → Next words 1 (f * 1024) last low → Reached s f low []
  reach-first low n = record {
    pages = sym (gap s f 1 (low - f * 1024) (λ q l u. clear q l (omega arith)));
    fresh = λ _. go (low - f * 1024) (λ l. clear (low - f * 1024) l (omega arith));
  }
    where
      clear : (q : ℕ) → 1 ≤ q → q ≤ low - f * 1024 → held s f q ≡ false
      clear q l u = held-clear q l (omega (arith, n.high)) (n.before (f * 1024 + q - 1) (omega arith) (omega (arith, n.low)))

      go : (a : ℕ) → (1 ≤ a → held s f a ≡ false) → held s f a ≡ false
      go zero h = held-zero
      go (suc a) h = h (omega arith)

  -- the page after a cluster is not held
  not_after : (high : ℕ) → f * 1024 ≤ high → high ≤ f * 1024 + last → (high < f * 1024 + last → bit words high ≡ 0) → held s f (high - f * 1024 + 1) ≡ false
  not_after high b u h = go (eq-or-lt_of_le u)
    where
      go : (high ≡ f * 1024 + last) ⊎ (high < f * 1024 + last) → held s f (high - f * 1024 + 1) ≡ false
      go (inl e) = held-past (high - f * 1024 + 1) (omega arith)
      go (inr l) =
          let e : f * 1024 + (high - f * 1024 + 1) - 1 ≡ high = omega arith in
          held-clear (high - f * 1024 + 1) (omega arith) (omega arith) (rw e (λ d. omega (arith, h l)))

  -- a cluster, from a set bit to the next clear one, and the set bit after that
  pub reach-next : (low high next : ℕ) (found : List ℕ) → last ≤ 1024 → f * 1024 ≤ low → low < f * 1024 + last → bit words low ≡ 1
      → Next words 0 low (f * 1024 + last - low) high → Next words 1 high (f * 1024 + last - high) next
      → Reached s f low found → Reached s f next (found ++ (page_of low ∷ page_of (high - 1) ∷ []))
  reach-next low high next found small b l e t n r =
      let o = next-above words 0 low (f * 1024 + last - low) high (omega arith) (λ d. omega arith) t in
      let x : page_of low ≡ low - f * 1024 + 1 = omega arith in
      let y : page_of (high - 1) ≡ high - f * 1024 = omega (arith, t.high) in
      let stop = not_after high (omega arith) (omega (arith, t.high)) (λ u. t.found (omega arith)) in
      record {
        pages =
            rw (x, y, r.pages)
            (sym (one_more s f (low - f * 1024) (high - f * 1024) (next - f * 1024) (omega arith) (omega (arith, n.low)) (r.fresh (rw el l)) within
            after stop));
        fresh = λ u.
            let v : next < f * 1024 + last = rw el at u in
            after (next - f * 1024)
            (omega (
              arith,
              next-above words 1 high (f * 1024 + last - high) next (omega (arith, n.low)) (λ d. omega (arith, t.found (omega (arith, n.low))))
                  n,
            ))
            (omega arith);
      }
    where
      within : (q : ℕ) → low - f * 1024 < q → q ≤ high - f * 1024 → held s f q ≡ true
      within q i j = held-set q (omega arith) (omega (arith, t.high)) (t.before (f * 1024 + q - 1) (omega arith) (omega arith))

      after : (q : ℕ) → high - f * 1024 < q → q ≤ next - f * 1024 → held s f q ≡ false
      after q i j = held-clear q (omega arith) (omega (arith, n.high)) (n.before (f * 1024 + q - 1) (omega (arith, t.low)) (omega arith))

  -- no cluster is left
  pub reach-last : (low : ℕ) (found : List ℕ) → low ≡ f * 1024 + last → Reached s f low found → found ≡ clusters s f
  unfolding clusters stretch
  reach-last low found e r = r.pages ∙ ap (λ n. each (ends s f) (range 1 n)) (omega arith)

-- the pages are those of a file
pub clusters-low : (s : State) (f : ℕ) → size s f ≤ 1024 → All (λ p. p < 8192) (clusters s f)
unfolding clusters ends
clusters-low s f small =
    each_in _ (ends s f) (range 1 (size s f))
    (range-in _ 1 (size s f)
    (λ p _ l. ends_low p (held s f p && not (held s f (p - 1))) (held s f p && not (held s f (p + 1))) (omega arith)))
  where
    ends_low : (p : ℕ) (a b : Bool) → p < 8192 → All (λ p. p < 8192) (cond a (p ∷ []) [] ++ cond b (p ∷ []) [])
    ends_low p true true l = (l, (l, tt))
    ends_low p true false l = (l, tt)
    ends_low p false true l = (l, tt)
    ends_low p false false l = tt
