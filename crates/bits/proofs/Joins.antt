-- Two maps joined word by word: a bit is set in the joined map where it is set in either. Assumes nothing.
use Rattle.std.proofs.Common.{◌≡◌, ◌&&◌, ◌||◌, List, [], ◌∷◌, ℕ, zero, suc, ◌/◌, ◌%◌, ◌≤◌, max, eqb, get_or, bit_or, refl, sym, ap, ◌∙◌}
use Rattle.std.specs.Int.Bits.{or_zero_l, or_zero_r}
use Rattle.std.proofs.lemmas.Nat.Bits.{bit_at_or}
use Rattle.bits.specs.Map.{digit, bit, on, joined}
use Rattle.bits.proofs.Words.{by_digits, or_set}
use Rattle.bits.proofs.Bits.{bit_le}

pub joined_at : (xs ys : List ℕ) (i : ℕ) → get_or (joined xs ys) i 0 ≡ bit_or (get_or xs i 0) (get_or ys i 0)
unfolding joined
joined_at [] ys i = sym (or_zero_l (get_or ys i 0))
joined_at (x ∷ xs) [] i = sym (or_zero_r (get_or (x ∷ xs) i 0))
joined_at (x ∷ xs) (y ∷ ys) zero = refl
joined_at (x ∷ xs) (y ∷ ys) (suc i) = joined_at xs ys i

bit-joined : (xs ys : List ℕ) (k : ℕ) → bit (joined xs ys) k ≡ max (bit xs k) (bit ys k)
unfolding bit
bit-joined xs ys k = ap (λ (w : ℕ). digit w (k % 64)) (joined_at xs ys (k / 64)) ∙ bit_at_or (get_or xs (k / 64) 0) (get_or ys (k / 64) 0) (k % 64)

clear_both : (a b : ℕ) → a ≤ 1 → b ≤ 1 → eqb (max a b) 0 ≡ (eqb a 0 && eqb b 0)
clear_both = by_digits (λ a b. eqb (max a b) 0 ≡ (eqb a 0 && eqb b 0)) refl refl refl refl

-- the joined map has the pages of both
pub joined-on : (xs ys : List ℕ) (k : ℕ) → on (joined xs ys) k ≡ (on xs k || on ys k)
joined-on xs ys k = ap (λ (b : ℕ). eqb b 1) (bit-joined xs ys k) ∙ or_set (bit xs k) (bit ys k) (bit_le xs k) (bit_le ys k)

-- a bit is 0 in the joined map where it is 0 in both
pub joined-clear : (xs ys : List ℕ) (k : ℕ) → eqb (bit (joined xs ys) k) 0 ≡ (eqb (bit xs k) 0 && eqb (bit ys k) 0)
joined-clear xs ys k = ap (λ (b : ℕ). eqb b 0) (bit-joined xs ys k) ∙ clear_both (bit xs k) (bit ys k) (bit_le xs k) (bit_le ys k)
