-- A list that a loop fills, element by element. Assumes nothing.
use mathlib.Core.Path.{◌≡◌, sym, ap, ap₂, ◌∙◌}
use mathlib.Core.List.{List, ◌∷◌, ◌++◌, map, append-nil}
use Prim.Native.Nat.{ℕ, suc, ◌+◌, ◌≤◌, ◌<◌}
use native.Mathlib.Omega.{arith}
use lib.ListN.{length, get_or, take, drop, set, drop_of_length-le}
use lib.Seq.{length-take-le, take_all, take-suc, drop-cons, set_at, append_snoc}
use Rattle.rules.specs.Lists.{range}
use Rattle.rules.proofs.laws.Indexed.{length-listed, get_or-listed}

module _ {A : Type 0} (f : ℕ → A) (n : ℕ) where
  -- the first k are those of f, the others as they were
  abbrev pub filled : ℕ → List A → List A
  filled k xs = take k (map f (range 0 n)) ++ drop k xs

  -- one more
  pub filled_more : (xs t : List A) (k : ℕ) (y : A) → t ≡ filled k xs → y ≡ f k → k < n → length xs ≡ n → set t k y ≡ filled (k + 1) xs
  filled_more xs t k y e m less long =
      let all = map f (range 0 n) in
      let far : length (take k all) ≡ k = length-take-le k all (omega (arith, length-listed f n)) in
      let next : k + 1 ≡ suc k = omega arith in
      let last : y ≡ get_or all k y = m ∙ sym (get_or-listed f n k y less) in
      rw (e, drop-cons xs k y (omega arith), next, take-suc all k y (omega (arith, length-listed f n)))
      (set_at (take k all) (get_or xs k y) (drop (suc k) xs) y k far
      ∙ ap (λ z. take k all ++ z ∷ drop (suc k) xs) last
      ∙ sym (append_snoc (take k all) (get_or all k y) (drop (suc k) xs)))

  -- all of them
  pub filled-all : (xs t : List A) (k : ℕ) → t ≡ filled k xs → n ≤ k → length xs ≡ n → t ≡ map f (range 0 n)
  filled-all xs t k e h long =
      let all = map f (range 0 n) in
      e ∙ ap₂ ◌++◌ (take_all k all (omega (arith, length-listed f n))) (drop_of_length-le xs {i = k} (omega arith)) ∙ append-nil all
