-- The lent list once the first rows are answered, by any function that answers a question. Assumes nothing.
use Rattle.std.proofs.Common.{◌≡◌, refl, ap, ℕ, zero, suc, ◌<◌, ◌≤◌, le_refl, not-suc-le-zero, le_of_suc-le-suc, List, [], ◌∷◌, ◌++◌, map, length, take}
use Rattle.std.proofs.Common.{drop, get_or, set, take_all}

-- the answers to the first n questions, and the rest of the list as it was
unfoldable pub filled_to : {A B : Type 0} → ℕ → (A → B) → List A → List B → List B
filled_to n f xs rest = map f (take n xs) ++ drop n rest

module _ {A B : Type 0} (f : A → B) where
  -- no row is answered
  pub filled_none : (xs : List A) (rest : List B) → filled_to 0 f xs rest ≡ rest
  unfolding filled_to
  filled_none xs rest = refl

  -- one more row is
  pub filled_more : (d : A) (i : ℕ) (xs : List A) (rest : List B) → i < length xs → i < length rest
      → set (filled_to i f xs rest) i (f (get_or xs i d)) ≡ filled_to (suc i) f xs rest
  unfolding filled_to
  filled_more d i [] rest h k = absurd (not-suc-le-zero h)
  filled_more d i (x ∷ xs) [] h k = absurd (not-suc-le-zero k)
  filled_more d zero (x ∷ xs) (y ∷ rest) h k = refl
  filled_more d (suc i) (x ∷ xs) (y ∷ rest) h k = ap (λ (l : List B). f x ∷ l) (filled_more d i xs rest (le_of_suc-le-suc h) (le_of_suc-le-suc k))

  -- the list is as long as it was
  pub filled-length : (i : ℕ) (xs : List A) (rest : List B) → i ≤ length xs → i ≤ length rest → length (filled_to i f xs rest) ≡ length rest
  unfolding filled_to
  filled-length zero xs rest h k = refl
  filled-length (suc i) [] rest h k = absurd (not-suc-le-zero h)
  filled-length (suc i) (x ∷ xs) [] h k = absurd (not-suc-le-zero k)
  filled-length (suc i) (x ∷ xs) (y ∷ rest) h k = ap suc (filled-length i xs rest (le_of_suc-le-suc h) (le_of_suc-le-suc k))

  -- all are
  pub filled-all : (n : ℕ) (xs : List A) (rest : List B) → n ≡ length xs → filled_to n f xs rest ≡ map f xs ++ drop (length xs) rest
  unfolding filled_to
  filled-all n xs rest e = rw e (ap (λ (l : List A). map f l ++ drop (length xs) rest) (take_all (length xs) xs (le_refl (length xs))))
