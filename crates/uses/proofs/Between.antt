-- The pages not present: those that the set bits of the two maps, joined, leave; none before a reader's first absent page. Assumes nothing.
use mathlib.Core.Path.{◌≡◌, refl, sym, ◌∙◌}
use mathlib.Core.Bool.{Bool, true, false, not, cond, ◌&&◌, ◌||◌}
use mathlib.Core.List.{List}
use Prim.Native.Nat.{ℕ, zero, suc, ◌+◌, ◌-◌, ◌*◌, ◌≤◌, ◌<◌}
use native.Mathlib.Omega.{arith}
use lib.Dec.{T, eqb}
use Rattle.bits.specs.Map.{bit, joined, ones}
use Rattle.bits.proofs.Bits.{bit_le}
use Rattle.bits.proofs.Counts.{ones_none, ones-more}
use Rattle.bits.proofs.Joins.{joined-on}
use Rattle.rules.specs.Pages.{key_of, cached, in_fetch}
use Rattle.rules.specs.UseTimes.{steps, present, missing, between}
use Rattle.rules.specs.Orders.{absent}
use Rattle.rules.specs.Ranks.{Presents, Before, FirstAbsent}
use Rattle.rules.proofs.orders.LookAheads.{before-is, is-before}
use Rattle.rules.specs.declared.State.{State}
use Rattle.rules.specs.declared.Reader.{Reader}

one_bit : (b : ℕ) → b ≤ 1 → cond (eqb b 1) 0 1 + b ≡ 1
one_bit zero h = omega arith
one_bit (suc zero) h = omega arith
one_bit (suc (suc b)) h = absurd (omega arith)

module _ (s : State) (xs ys : List ℕ) (shows : Presents s xs ys) where
  -- those not present and the set bits are all
  missing-and-ones : (f c n : ℕ) → missing s f c n + ones (joined xs ys) (f * 1024 + c) n ≡ n
  unfolding missing
  missing-and-ones f c zero = omega (arith, ones_none (joined xs ys) (f * 1024 + c))
  missing-and-ones f c (suc n) =
      let k = f * 1024 + c + n in
      let e : f * 1024 + (c + suc n) - 1 ≡ k = omega arith in
      rw (e, shows k ∙ sym (joined-on xs ys k)) (omega (
        arith,
        ones-more (joined xs ys) (f * 1024 + c) n,
        one_bit (bit (joined xs ys) k) (bit_le (joined xs ys) k),
        missing-and-ones f c n,
      ))

  -- so those not present are the keys less the set bits
  pub missing-ones : (f c n : ℕ) → missing s f c n ≡ n - ones (joined xs ys) (f * 1024 + c) n
  missing-ones f c n = omega (arith, missing-and-ones f c n)

-- ---- before the first absent page

-- what is not absent is present
either : (a b : Bool) → (T (not a && not b) → ⊥) → (a || b) ≡ true
either true b h = refl
either false true h = refl
either false false h = absurd (h tt)

not-absent : (s : State) (k : ℕ) → (T (absent s k) → ⊥) → present s k ≡ true
unfolding present
not-absent s k h = either (cached s k) (in_fetch s k) h

missing-none : (s : State) (f c n : ℕ) → ((i : ℕ) → i < n → T (absent s (key_of f (c + suc i))) → ⊥) → missing s f c n ≡ 0
unfolding missing
missing-none s f c zero h = refl
missing-none s f c (suc n) h =
    rw (not-absent s (key_of f (c + suc n)) (h n (omega arith))) (omega (arith, missing-none s f c n (λ i l. h i (omega arith))))

-- so q is 0
pub first-between : (s : State) (r : Reader) (k : ℕ) → FirstAbsent s r k → between s r k ≡ 0
first-between s r k a = missing-none s r.file r.position (steps r k - 1) (λ i l x. a.first (at i) (is-before r (at i) (ahead i l)) (omega arith) x)
  where
    at : ℕ → ℕ
    at i = key_of r.file (r.position + suc i)

    ahead : (i : ℕ) → i < steps r k - 1 → Before r (at i)
    ahead i l =
        let q = before-is r k a.ahead_of in
        record { here = q.here; in_its_file = omega arith; past = omega arith; in_reach = omega (arith, q.in_reach) }
