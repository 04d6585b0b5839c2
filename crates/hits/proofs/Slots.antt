-- One reader's turns before it meets F, and the slots one after the other. Assumes nothing.
use Prim.Native.Nat.{ℕ, ◌+◌, ◌-◌, ◌*◌, ◌/◌, ◌≤◌, ◌<◌}
use mathlib.Core.Path.{◌≡◌, ap, ◌∙◌}
use mathlib.Core.List.{List}
use native.Mathlib.Omega.{arith}
use borrow.Author.Tests.{eq-eqb}
use lib.Dec.{T}
use lib.ListN.{get_or, set, length-set}
use lib.Seq.{get_or-set_same, get_or-set_other}
use Rattle.bits.specs.Map.{bit, on, next_bit}
use Rattle.bits.proofs.Bits.{bit_le}
use Rattle.bits.proofs.Finds.{next_is}
use Rattle.rules.specs.Readers.{reader_in}
use Rattle.rules.specs.declared.View.{View}
use Rattle.rules.proofs.laws.Below.{one_more}
use Rattle.rules.proofs.laws.Cases.{passed}
use Rattle.hits.specs.Hits.{reads_of, Advanced}

-- ---- the pages up to the first that is not cached

module _ (words : List ℕ) (a n r : ℕ) (e : r ≡ next_bit words 0 a n) where
  pub stretch-bounds : (a ≤ r) × (r ≤ a + n)
  stretch-bounds = let t = next_is words 0 a n in (omega (arith, e, t.low), omega (arith, e, t.high))

  pub stretch-cached : (i : ℕ) → i < r - a → T (on words (a + i))
  stretch-cached i l = passed (on words (a + i)) (eq-eqb (bit words (a + i)) 1 set_there)
    where
      clear : bit words (a + i) ≡ 0 → ⊥
      clear z = (next_is words 0 a n).before (a + i) (omega arith) (omega (arith, e)) z

      set_there : bit words (a + i) ≡ 1
      set_there = let h = clear in omega (arith, bit_le words (a + i))

-- of the turns up to the one that comes to that page no more than so many are a slot's own
pub own-few : (n distance m : ℕ) → n ≤ distance + 16 * m → (n + 15 - distance) / 16 ≤ m
own-few n distance m l = omega arith

-- ---- positions, one slot after the other

-- one more has moved
pub advanced-more : (v : View) (n m pages : ℕ) (positions : List ℕ) → m < 16 → Advanced v n m positions → pages ≡ reads_of v n m
    → Advanced v n (m + 1) (set positions m ((reader_in v.readers m).position + pages))
advanced-more v n m pages positions l a e = record {
  long = simp length-set a.long;
  moved = one_more (λ j. get_or (set positions m p) j 0 ≡ (reader_in v.readers j).position + reads_of v n j) m
      (λ j h. get_or-set_other positions m j p 0 (omega arith) ∙ a.moved j h)
      (get_or-set_same positions m p 0 (omega (arith, a.long)) ∙ ap (λ x. (reader_in v.readers m).position + x) e);
}
  where
    p : ℕ
    p = (reader_in v.readers m).position + pages
