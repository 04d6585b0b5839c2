-- The members of a list: what holds of each where all pass a test, and a loop that changes each in place. Assumes nothing.
use Prim.Native.Nat.{ℕ, zero, suc, ◌+◌, ◌≤◌, ◌<◌}
use mathlib.Core.Path.{◌≡◌, refl, ap, ◌∙◌}
use mathlib.Core.Bool.{Bool, true}
use mathlib.Core.List.{List, [], ◌∷◌, map}
use native.Mathlib.Omega.{arith}
use native.Mathlib.Numerals.{add-one}
use borrow.Author.Tests.{le-leb}
use lib.ListN.{get_or, set, length}
use Rattle.rules.specs.Lists.{within, every}
use Rattle.rules.proofs.laws.Cases.{and-true, within-true}

-- ---- all pass a test

-- where every member passes, member i does
every_holds : {A : Type 0} (P : A → Bool) (l : List A) (d : A) (i : ℕ) → every P l ≡ true → i < length l → P (get_or l i d) ≡ true
unfolding every
every_holds P [] d i e h = let z : ⊥ = omega arith in absurd z
every_holds P (x ∷ l) d zero e h = (and-true (P x) (every P l) e).0
every_holds P (x ∷ l) d (suc i) e h = every_holds P l d i (and-true (P x) (every P l) e).1 (omega arith)

-- where all are from low to high, member i is
pub all-within : (low high : ℕ) (l : List ℕ) (i : ℕ) → every (within low high) l ≡ true → i < length l → (low ≤ get_or l i 0) × (get_or l i 0 ≤ high)
all-within low high l i e h = within-true low high (get_or l i 0) (every_holds (within low high) l 0 i e h)

-- where all are at most so high, all are at most what is higher
pub every-higher : (low high more : ℕ) (l : List ℕ) → high ≤ more → every (within low high) l ≡ true → every (within low more) l ≡ true
unfolding every
every-higher low high more [] h e = refl
every-higher low high more (x ∷ l) h e =
    let a = and-true (within low high x) (every (within low high) l) e in
    let b = within-true low high x a.0 in
    rw (le-leb low x b.0, le-leb x more (omega (arith, b.1, h)), every-higher low high more l h a.1)

-- ---- each is changed in place

-- the first i members changed
unfoldable pub changed : {A : Type 0} → (A → A) → List A → ℕ → List A
changed f [] i = []
changed f (x ∷ l) zero = x ∷ l
changed f (x ∷ l) (suc i) = f x ∷ changed f l i

-- before the first none is changed
pub changed-none : {A : Type 0} (f : A → A) (l : List A) → l ≡ changed f l 0
unfolding changed
changed-none f [] = refl
changed-none f (x ∷ l) = refl

step : {A : Type 0} (f : A → A) (l : List A) (i : ℕ) (d : A) → i < length l → set (changed f l i) i (f (get_or (changed f l i) i d)) ≡ changed f l (suc i)
unfolding changed
step f [] i d h = refl
step f (x ∷ l) zero d h = ap (λ t. f x ∷ t) (changed-none f l)
step f (x ∷ l) (suc i) d h = ap (λ t. f x ∷ t) (step f l i d (omega arith))

-- one more is, where the loop stores it
pub changed-more : {A : Type 0} (f : A → A) (l t : List A) (i : ℕ) (d y : A) → i < length l → t ≡ changed f l i → y ≡ f (get_or t i d)
    → set t i y ≡ changed f l (i + 1)
changed-more f l t i d y h e k = rw (add-one i, k, e) (step f l i d h)

all : {A : Type 0} (f : A → A) (l : List A) (i : ℕ) → length l ≤ i → changed f l i ≡ map f l
unfolding changed
all f [] i h = refl
all f (x ∷ l) zero h = let z : ⊥ = omega arith in absurd z
all f (x ∷ l) (suc i) h = ap (λ t. f x ∷ t) (all f l i (omega arith))

-- at the end all are
pub changed-end : {A : Type 0} (f : A → A) (l t : List A) (i n : ℕ) → t ≡ changed f l i → length l ≡ n → n ≤ i → t ≡ map f l
changed-end f l t i n e h k = e ∙ all f l i (omega arith)
