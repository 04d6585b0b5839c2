-- Counting the keys of a set. Assumes nothing.
use mathlib.Core.Path.{◌≡◌, refl, sym, ap, ◌∙◌}
use mathlib.Core.Bool.{Bool, true, false, not, ◌&&◌, ◌||◌}
use mathlib.Core.Logic.{◌≢◌}
use Prim.Native.Nat.{ℕ, zero, suc, ◌+◌, ◌≤◌, ◌<◌}
use native.Mathlib.Omega.{arith}
use native.Mathlib.Nat.{le_antisymm}
use lib.Dec.{T, eqb}
use Rattle.rules.specs.Schedules.{Set, num, count, added}
use Rattle.rules.proofs.laws.Tests.{key}

abbrev pub empty : Set
empty k = false

abbrev pub one : ℕ → Set
one x k = eqb x k

abbrev pub plus : Set → ℕ → Set
plus A x k = eqb x k || A k

abbrev pub swap : Set → ℕ → ℕ → Set
swap A v x k = eqb x k || (not (eqb v k) && A k)

-- the one law of counting: a sum of two counts against a sum of two, key by key
pub four : (n : ℕ) (P Q R S : Set) → ((k : ℕ) → num (P k) + num (Q k) ≤ num (R k) + num (S k)) → count n P + count n Q ≤ count n R + count n S
unfolding count
four zero P Q R S h = omega arith
four (suc n) P Q R S h = let ih = four n P Q R S h in omega (arith, h n)

pub count-empty : (n : ℕ) → count n empty ≡ 0
unfolding count
count-empty zero = refl
count-empty (suc n) = let ih = count-empty n in omega arith

pub mono : (n : ℕ) (P Q : Set) → ((k : ℕ) → num (P k) ≤ num (Q k)) → count n P ≤ count n Q
mono n P Q h = omega (arith, four n P empty Q empty (λ k. omega (arith, h k)), count-empty n)

-- a set of one key
count-over : (n x : ℕ) → n ≤ x → count n (one x) ≡ 0
unfolding count
count-over zero x h = refl
count-over (suc n) x h = let ih = count-over n x (omega arith) in key x n (λ b. num b + count n (one x) ≡ 0) (λ e. omega arith) (λ e. omega arith)

pub count-only : (n x : ℕ) → x < n → count n (one x) ≡ 1
unfolding count
count-only zero x h = omega arith
count-only (suc n) x h =
    let ih : x ≢ n → count n (one x) ≡ 1 = λ ne. count-only n x (omega arith) in
    key x n (λ b. num b + count n (one x) ≡ 1) (λ e. omega (arith, count-over n x (omega arith))) (λ e. omega (arith, ih e))

pub num-in : (b : Bool) → T b → num b ≡ 1
num-in true h = refl
num-in false h = absurd h

pub num-out : (b : Bool) → T (not b) → num b ≡ 0
num-out true h = absurd h
num-out false h = refl

pub num-implies : (a b : Bool) → (T a → T b) → num a ≤ num b
num-implies true true h = omega arith
num-implies true false h = absurd (h tt)
num-implies false b h = omega arith

pub in-self : (x : ℕ) (b : Bool) → num (eqb x x || b) ≡ 1
in-self x b = key x x (λ e. num (e || b) ≡ 1) (λ _. refl) (λ ne. absurd (ne refl))

-- a swap leaves as many pages
pub swap-count : (N : ℕ) (A : Set) (v x : ℕ) → v < N → x < N → num (A v) ≡ 1 → num (A x) ≡ 0 → count N A ≤ count N (swap A v x)
swap-count N A v x lv lx av ax =
    omega (
      arith,
      count-only N v lv,
      count-only N x lx,
      four N A (one x) (swap A v x) (one v) (λ k.
          key x k (λ b. num (A k) + num b ≤ num (b || (not (eqb v k) && A k)) + num (eqb v k))
          (λ e. omega (arith, ap (λ j. num (A j)) e))
          (λ _. key v k (λ b. num (A k) + 0 ≤ num (not b && A k) + num b) (λ e. omega (arith, ap (λ j. num (A j)) e)) (λ _. omega arith))),
    )

pub plus-count : (N x : ℕ) (A : Set) → x < N → num (A x) ≡ 0 → count N (plus A x) ≡ count N A + 1
plus-count N x A l a =
    let up : count N A + count N (one x) ≤ count N (plus A x) + count N empty =
    four N A (one x) (plus A x) empty
    (λ k. key x k (λ b. num (A k) + num b ≤ num (b || A k) + 0) (λ e. omega (arith, ap (λ j. num (A j)) e)) (λ _. omega arith)) in
    let down : count N (plus A x) + count N empty ≤ count N A + count N (one x) =
    four N (plus A x) empty A (one x) (λ k. key x k (λ b. num (b || A k) + 0 ≤ num (A k) + num b) (λ e. omega arith) (λ _. omega arith)) in
    omega (arith, count-only N x l, count-empty N)

-- two sets that are alike key by key have one count
pub same_count : (N : ℕ) (P Q : Set) → ((k : ℕ) → num (P k) ≡ num (Q k)) → count N P ≡ count N Q
same_count N P Q h = le_antisymm (mono N P Q (λ k. omega (arith, h k))) (mono N Q P (λ k. omega (arith, h k)))

new : (a a' : Bool) → num a ≡ 0 → num a' ≡ 1 → num (a' && not a) ≡ 1
new false true h h' = refl
new true a' h h' = absurd (omega arith)
new false false h h' = absurd (omega arith)

pub old : (a a' : Bool) → (T a' → T a) → num (a' && not a) ≡ 0
old true true h = refl
old false true h = absurd (h tt)
old a false h = refl

-- what is added is x alone, where x is the one key that is new
pub added-one : (N x : ℕ) (A A' : Set) → x < N → num (A x) ≡ 0 → num (A' x) ≡ 1 → ((k : ℕ) → x ≢ k → T (A' k) → T (A k)) → count N (added A A') ≡ 1
added-one N x A A' l a a' h =
    same_count N (added A A') (one x) (λ k. key x k (λ b. num (A' k && not (A k)) ≡ num b)
    (λ e. new (A k) (A' k) (ap (λ j. num (A j)) (sym e) ∙ a) (ap (λ j. num (A' j)) (sym e) ∙ a')) (λ ne. old (A k) (A' k) (h k ne)))
    ∙ count-only N x l

pub has_key : (x : ℕ) (b : Bool) → T (eqb x x || b)
has_key x b = key x x (λ e. T (e || b)) (λ _. tt) (λ ne. absurd (ne refl))

pub but-key : (x k : ℕ) (b : Bool) → x ≢ k → T (eqb x k || b) → T b
but-key x k b ne = key x k (λ e. T (e || b) → T b) (λ e _. absurd (ne e)) (λ _ i. i)
