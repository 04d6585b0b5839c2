-- Laws of `some_of`, `least` and `total`. Assumes nothing.
use mathlib.Core.Path.{◌≡◌, refl, sym, ap, ◌∙◌, subst}
use mathlib.Core.Bool.{Bool, true, false, ◌||◌}
use mathlib.Core.Logic.{◌≢◌}
use Prim.Native.Nat.{ℕ, zero, suc, min, ◌+◌, ◌*◌, ◌≤◌, ◌<◌}
use native.Mathlib.Decide.{ℕ_discrete}
use native.Mathlib.Omega.{arith}
use native.Mathlib.Nat.{suc-mul}
use native.Mathlib.Numerals.{add-one}
use lib.Dec.{T, eqb, eqb→eq, eqb_refl}
use Rattle.rules.specs.Lists.{least, some_of, total}
use Rattle.rules.proofs.laws.Tests.{leq, less, both, or_left, or_right}

pub some_mono : (m : ℕ) (P R : ℕ → Bool) → ((j : ℕ) → T (P j) → T (R j)) → T (some_of m P) → T (some_of m R)
unfolding some_of
some_mono zero P R h a = absurd a
some_mono (suc m) P R h a₀ =
    both (P m) (λ t. (T t → T (R m)) → T (t || some_of m P) → T (R m || some_of m R)) (λ _ r _. or_left (R m) _ (r tt))
    (λ _ r a. or_right (R m) _ (some_mono m P R h a)) (h m) a₀

pub some_at : (m : ℕ) (P : ℕ → Bool) → T (some_of m P) → (j : ℕ) × (j < m) × T (P j)
unfolding some_of
some_at zero P a = absurd a
some_at (suc m) P a = go (some_at m P) (P m) refl a
  where
    go : (T (some_of m P) → (j : ℕ) × (j < m) × T (P j)) → (t : Bool) → P m ≡ t → T (t || some_of m P) → (j : ℕ) × (j < suc m) × T (P j)
    go ih true e a = (m, omega arith, subst T (sym e) tt)
    go ih false e a = let r = ih a in (r.0, omega (arith, r.1), r.2)

pub some_in : (m j : ℕ) (P : ℕ → Bool) → j < m → T (P j) → T (some_of m P)
unfolding some_of
some_in zero j P l h = absurd (omega arith)
some_in (suc m) j P l h = go (λ k. some_in m j P k h) (P m) refl
  where
    other : P m ≡ false → m ≢ j
    other e q = subst T (ap P (sym q) ∙ e) h

    go : (j < m → T (some_of m P)) → (t : Bool) → P m ≡ t → T (t || some_of m P)
    go ih true e = tt
    go ih false e = ih (omega (arith, other e))

pub least-far : (m : ℕ) (g : ℕ → ℕ) (far : ℕ) → least m g far ≤ far
unfolding least
least-far zero g far = omega arith
least-far (suc m) g far = let ih = least-far m g far in omega arith

pub least-le : (m : ℕ) (g : ℕ → ℕ) (far j : ℕ) → j < m → least m g far ≤ g j
unfolding least
least-le zero g far j l = absurd (omega arith)
least-le (suc m) g far j l = go (least-le m g far j) (eqb j m) (eqb→eq j m) (λ e. subst (λ i. T (eqb j i)) e (eqb_refl j))
  where
    go : (j < m → least m g far ≤ g j) → (t : Bool) → (T t → j ≡ m) → (j ≡ m → T t) → min (g m) (least m g far) ≤ g j
    go ih true e f = omega (arith, ap g (e tt))
    go ih false e f = let ne : j ≢ m = f in omega (arith, ih (omega arith))

pub le-least : (m : ℕ) (g : ℕ → ℕ) (far x : ℕ) → x ≤ far → ((j : ℕ) → j < m → x ≤ g j) → x ≤ least m g far
unfolding least
le-least zero g far x l h = l
le-least (suc m) g far x l h = let ih = le-least m g far x l (λ j k. h j (omega arith)) in omega (arith, h m (omega arith))

-- it is far, or met by one of them
pub least-met : (m : ℕ) (g : ℕ → ℕ) (far : ℕ) → least m g far < far → (j : ℕ) × (j < m) × (least m g far ≡ g j)
unfolding least
least-met zero g far l = absurd (omega arith)
least-met (suc m) g far l =
    leq (g m) (least m g far) (λ _. (j : ℕ) × (j < suc m) × (min (g m) (least m g far) ≡ g j))
    (λ h. (m, omega arith, omega arith))
    (λ h. let r = least-met m g far (omega arith) in (r.0, omega (arith, r.1), omega (arith, r.2)))

-- a sum: of none, and of one more
pub total-none : (g : ℕ → ℕ) → 0 ≡ total 0 g
unfolding total
total-none g = refl

pub total-more : (g : ℕ → ℕ) (j n m : ℕ) → n ≡ total j g → m ≡ g j → n + m ≡ total (j + 1) g
unfolding total
total-more g j n m e f = rw (add-one j) (omega (arith, e, f))

-- sums of the same, and with g more at one place
total-same : (m : ℕ) (f h : ℕ → ℕ) → ((j : ℕ) → j < m → f j ≡ h j) → total m f ≡ total m h
unfolding total
total-same zero f h e = refl
total-same (suc m) f h e = omega (arith, e m (omega arith), total-same m f h (λ j l. e j (omega arith)))

pub total-one : (m u g : ℕ) (f h : ℕ → ℕ) → u < m → f u ≡ g + h u → ((j : ℕ) → j < m → j ≢ u → f j ≡ h j) → total m f ≡ g + total m h
unfolding total
total-one zero u g f h l own others = absurd (omega arith)
total-one (suc m) u g f h l own others = by (ℕ_discrete u m) (λ k. total-one m u g f h k own (λ j i. others j (omega arith)))
  where
    by : Dec (u ≡ m) → (u < m → total m f ≡ g + total m h) → f m + total m f ≡ g + (h m + total m h)
    by (yes e) _ =
        let at : f m ≡ g + h m = subst (λ i. f i ≡ g + h i) e own in
        omega (arith, at, total-same m f h (λ j k. others j (omega arith) (omega arith)))
    by (no e) below = omega (arith, others m (omega arith) (λ z. e (sym z)), below (omega arith))

-- sums go with what is summed
pub total_mono : (m : ℕ) (f g : ℕ → ℕ) → ((j : ℕ) → f j ≤ g j) → total m f ≤ total m g
unfolding total
total_mono zero f g h = omega arith
total_mono (suc m) f g h = omega (arith, h m, total_mono m f g h)

-- each part is at most the sum, and the sum at most so often the largest
pub total-part : (m : ℕ) (g : ℕ → ℕ) (j : ℕ) → j < m → g j ≤ total m g
unfolding total
total-part zero g j l = absurd (omega arith)
total-part (suc m) g j l =
    less j m (λ _. g j ≤ g m + total m g) (λ n. omega (arith, total-part m g j n))
    (λ n. let e : j ≡ m = omega arith in subst (λ i. g i ≤ g m + total m g) (sym e) (omega arith))

pub total-most : (m : ℕ) (g : ℕ → ℕ) (b : ℕ) → ((j : ℕ) → g j ≤ b) → total m g ≤ m * b
unfolding total
total-most zero g b h = omega arith
total-most (suc m) g b h = omega (arith, h m, total-most m g b h, suc-mul m b)
