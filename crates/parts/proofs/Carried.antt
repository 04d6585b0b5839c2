-- The counts of the files' cached pages: counted file by file, summed, and one more or one less after a page. Assumes nothing.
use Prim.Native.Nat.{ℕ, ◌+◌, ◌*◌, ◌/◌, ◌≤◌, ◌<◌}
use mathlib.Core.Path.{◌≡◌, sym, ◌∙◌}
use mathlib.Core.List.{List}
use native.Mathlib.Decide.{ℕ_discrete}
use native.Mathlib.Omega.{arith}
use lib.ListN.{get_or, set, length, length-set}
use lib.Seq.{get_or-set_same, get_or-set_other}
use Rattle.bits.specs.Map.{bit, ones, put_bit}
use Rattle.bits.proofs.Counts.{ones-le, ones-add, ones-put, ones-put-out}
use Rattle.rules.proofs.laws.Below.{one_more}
use Rattle.parts.specs.Held.{Held}

-- the counts of the first n files stand in the array
pub record Counted (cached : List ℕ) (n : ℕ) (held : List ℕ) : Type 0 where
  pub eight : length held ≡ 8
  pub pages : (f : ℕ) → f < n → get_or held f 0 ≡ ones cached (f * 1024) 1024

-- none
pub counted_none : (cached held : List ℕ) → length held ≡ 8 → Counted cached 0 held
counted_none cached held e = record { eight = e; pages = λ f l. absurd (omega arith) }

-- one file more
pub counted-more : (cached held : List ℕ) (n m : ℕ) → n < 8 → Counted cached n held → m ≡ ones cached (n * 1024) 1024 → Counted cached (n + 1) (set held n m)
counted-more cached held n m l a e = record {
  eight = let q = a.eight in simp length-set q;
  pages = one_more (λ f. get_or (set held n m) f 0 ≡ ones cached (f * 1024) 1024) n
      (λ f h. get_or-set_other held n f m 0 (omega arith) ∙ a.pages f h)
      (get_or-set_same held n m 0 (omega (arith, a.eight)) ∙ e);
}

-- all
pub counted-all : (cached held : List ℕ) (n : ℕ) → 8 ≤ n → Counted cached n held → Held cached held
counted-all cached held n l a = record { eight = a.eight; pages = λ f h. a.pages f (omega arith) }

-- a count is at most a file's pages
pub held_high : (cached held : List ℕ) → Held cached held → (f : ℕ) → f < 8 → get_or held f 0 ≤ 1024
held_high cached held a f l = omega (arith, a.pages f l, ones-le cached (f * 1024) 1024)

-- the file of a cached page has one
pub held-some : (cached held : List ℕ) → Held cached held → (k : ℕ) → k < 8192 → k / 64 < length cached → bit cached k ≡ 1 → 0 < get_or held (k / 1024) 0
held-some cached held a k low there e =
    omega (
      arith,
      e,
      a.pages (k / 1024) (omega arith),
      ones-put cached k 0 (omega arith) there (k / 1024 * 1024) 1024 (omega arith) (omega arith),
    )

-- those of the first n files, summed, and of one more
pub summed-more : (cached held : List ℕ) → Held cached held → (n taken : ℕ) → n < 8 → taken ≡ ones cached 0 (n * 1024)
    → taken + get_or held n 0 ≡ ones cached 0 ((n + 1) * 1024)
summed-more cached held a n taken l e =
    let all : (n + 1) * 1024 ≡ n * 1024 + 1024 = omega arith in
    let first : 0 + n * 1024 ≡ n * 1024 = omega arith in
    rw (all, ones-add cached 0 (n * 1024) 1024, first) (omega (arith, e, a.pages n l))

-- a page is put in or out: its file's count changes by one, and no other
module _ (cached held : List ℕ) (k v m : ℕ) (low : v ≤ 1) (small : k < 8192) (there : k / 64 < length cached) (a : Held cached held)
    (e : m + bit cached k ≡ get_or held (k / 1024) 0 + v) where
  pub held-put : Held (put_bit cached k v) (set held (k / 1024) m)
  held-put = record { eight = let q = a.eight in simp length-set q; pages = λ f l. by f l (ℕ_discrete f (k / 1024)) }
    where
      by : (f : ℕ) → f < 8 → Dec (f ≡ k / 1024) → get_or (set held (k / 1024) m) f 0 ≡ ones (put_bit cached k v) (f * 1024) 1024
      by f l (yes q) =
          rw q (get_or-set_same held (k / 1024) m 0 (omega (arith, a.eight))
          ∙ omega (arith, e, a.pages (k / 1024) (omega arith), ones-put cached k v low there (k / 1024 * 1024) 1024 (omega arith) (omega arith)))
      by f l (no q) =
          get_or-set_other held (k / 1024) f m 0 q ∙ a.pages f l
          ∙ sym (ones-put-out cached k v low (f * 1024) 1024 (λ j h g. omega arith))
