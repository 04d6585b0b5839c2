-- What holds of every member of a list, and of its parts. Assumes nothing.
use mathlib.Core.Path.{◌≡◌, refl, ap, ap₂, subst}
use mathlib.Core.Bool.{Bool, true, false, cond, ◌&&◌, ◌||◌}
use mathlib.Core.List.{List, [], ◌∷◌, ◌++◌}
use mathlib.Core.Logic.{◌≢◌}
use Prim.Native.Nat.{ℕ, zero, suc, ◌+◌, ◌≤◌, ◌<◌}
use native.Mathlib.Decide.{ℕ_discrete}
use native.Mathlib.Omega.{arith}
use lib.Dec.{T, eqb, eqb→eq, eqb_refl}
use Rattle.rules.specs.Lists.{range, each, only, any}
use Rattle.rules.proofs.laws.Tests.{both, or_left, or_right}

abbrev pub All : (ℕ → Type 0) → List ℕ → Type 0
All Q [] = Unit {0}
All Q (x ∷ xs) = Q x × All Q xs

pub all_map : (Q R : ℕ → Type 0) (l : List ℕ) → ((x : ℕ) → Q x → R x) → All Q l → All R l
all_map Q R [] f h = tt
all_map Q R (x ∷ l) f h = (f x h.0, all_map Q R l f h.1)

pub all_both : (Q R : ℕ → Type 0) (l : List ℕ) → All Q l → All R l → All (λ x. Q x × R x) l
all_both Q R [] h k = tt
all_both Q R (x ∷ l) h k = ((h.0, k.0), all_both Q R l h.1 k.1)

pub all_append : (Q : ℕ → Type 0) (a b : List ℕ) → All Q a → All Q b → All Q (a ++ b)
all_append Q [] b h k = k
all_append Q (x ∷ a) b h k = (h.0, all_append Q a b h.1 k)

pub all_left : (Q : ℕ → Type 0) (a b : List ℕ) → All Q (a ++ b) → All Q a
all_left Q [] b h = tt
all_left Q (x ∷ a) b h = (h.0, all_left Q a b h.1)

pub all_right : (Q : ℕ → Type 0) (a b : List ℕ) → All Q (a ++ b) → All Q b
all_right Q [] b h = h
all_right Q (x ∷ a) b h = all_right Q a b h.1

module _ (P : ℕ → Bool) (Q : ℕ → Type 0) where
  pub all-only : (l : List ℕ) → All Q l → All (λ k. T (P k) × Q k) (only P l)
  unfolding only
  all-only [] h = tt
  all-only (x ∷ l) h =
      both (P x) (λ t. All (λ k. T (P k) × Q k) (cond t (x ∷ only P l) (only P l)))
      (λ p. ((p, h.0), all-only l h.1)) (λ _. all-only l h.1)

  pub only-all : (l : List ℕ) → All Q (only P l) → All (λ k. T (P k) → Q k) l
  unfolding only
  only-all [] h = tt
  only-all (x ∷ l) h₀ = both (P x) (λ t. All Q (cond t (x ∷ only P l) (only P l)) → (T t → Q x) × All (λ k. T (P k) → Q k) l)
      (λ _ h. (λ _. h.0, only-all l h.1)) (λ _ h. (λ a. absurd a, only-all l h)) h₀

pub only-true : (l : List ℕ) → only (λ _. true) l ≡ l
unfolding only
only-true [] = refl
only-true (x ∷ l) = ap (λ m. x ∷ m) (only-true l)

pub only-only : (P R : ℕ → Bool) (l : List ℕ) → only R (only P l) ≡ only (λ k. P k && R k) l
unfolding only
only-only P R [] = refl
only-only P R (x ∷ l) =
    both (P x) (λ t. only R (cond t (x ∷ only P l) (only P l)) ≡ cond (t && R x) (x ∷ only (λ k. P k && R k) l) (only (λ k. P k && R k) l))
    (λ _. ap (λ m. cond (R x) (x ∷ m) m) (only-only P R l)) (λ _. only-only P R l)

-- two tests that agree on the members pick alike
pub only-alike : (P Q : ℕ → Bool) (l : List ℕ) → All (λ k. P k ≡ Q k) l → only P l ≡ only Q l
unfolding only
only-alike P Q [] h = refl
only-alike P Q (x ∷ l) h = ap₂ (λ b m. cond b (x ∷ m) m) h.0 (only-alike P Q l h.1)

pub range-in : (Q : ℕ → Type 0) (a n : ℕ) → ((i : ℕ) → a ≤ i → i < a + n → Q i) → All Q (range a n)
unfolding range
range-in Q a zero h = tt
range-in Q a (suc n) h = (h a (omega arith) (omega arith), range-in Q (a + 1) n (λ i l m. h i (omega arith) (omega arith)))

pub range_at : (Q : ℕ → Type 0) (a n i : ℕ) → All Q (range a n) → a ≤ i → i < a + n → Q i
unfolding range
range_at Q a zero i h l m = absurd (omega arith)
range_at Q a (suc n) i h l m = go (range_at Q (a + 1) n i h.1) (eqb a i) (eqb→eq a i) (λ e. subst (λ j. T (eqb a j)) e (eqb_refl a))
  where
    go : (a + 1 ≤ i → i < a + 1 + n → Q i) → (t : Bool) → (T t → a ≡ i) → (a ≡ i → T t) → Q i
    go ih true e f = subst Q (e tt) h.0
    go ih false e f = let ne : a ≢ i = f in ih (omega arith) (omega arith)

pub each_in : (Q : ℕ → Type 0) (g : ℕ → List ℕ) (l : List ℕ) → All (λ x. All Q (g x)) l → All Q (each g l)
unfolding each
each_in Q g [] h = tt
each_in Q g (x ∷ l) h = all_append Q (g x) (each g l) h.0 (each_in Q g l h.1)

pub each_at : (Q : ℕ → Type 0) (g : ℕ → List ℕ) (l : List ℕ) → All Q (each g l) → All (λ x. All Q (g x)) l
unfolding each
each_at Q g [] h = tt
each_at Q g (x ∷ l) h = (all_left Q (g x) (each g l) h, each_at Q g l (all_right Q (g x) (each g l) h))

-- ---- some member

-- of a range
pub any_of : (P : ℕ → Bool) (a n k : ℕ) → a ≤ k → k < a + n → T (P k) → T (any P (range a n))
unfolding any range
any_of P a zero k l u h = absurd (omega arith)
any_of P a (suc n) k l u h = go (any_of P (a + 1) n k) (ℕ_discrete a k)
  where
    go : (a + 1 ≤ k → k < a + 1 + n → T (P k) → T (any P (range (a + 1) n))) → Dec (a ≡ k) → T (P a || any P (range (a + 1) n))
    go ih (yes e) = or_left (P a) _ (rw e h)
    go ih (no e) = or_right (P a) _ (ih (omega (arith, e)) (omega arith) h)

-- of those that pass a test
pub any-only : (P R : ℕ → Bool) (l : List ℕ) → T (any P (only R l)) → (k : ℕ) × T (P k) × T (R k)
unfolding any only
any-only P R [] h = absurd h
any-only P R (x ∷ l) h₀ =
    both (R x) (λ t. T (any P (cond t (x ∷ only R l) (only R l))) → (k : ℕ) × T (P k) × T (R k))
    (λ r h₁. both (P x) (λ t. T (t || any P (only R l)) → (k : ℕ) × T (P k) × T (R k)) (λ p _. (x, p, r)) (λ _ h. any-only P R l h) h₁)
    (λ _ h. any-only P R l h) h₀
