-- Lists in which no key stands twice, and what is left of one without a key. Assumes nothing.
use mathlib.Core.Path.{◌≡◌, refl, sym, ap, ◌∙◌, subst}
use mathlib.Core.Bool.{Bool, true, not, cond}
use mathlib.Core.List.{List, [], ◌∷◌}
use Rattle.std.specs.declared.option.Option.TheVariants.{Some, None}
use Prim.Native.Nat.{ℕ, ◌+◌, ◌≤◌}
use native.Mathlib.Omega.{arith}
use lib.ListN.{length}
use lib.Dec.{T, eqb}
use Rattle.rules.specs.Lists.{only, head}
use Rattle.rules.specs.Schedules.{num}
use Rattle.rules.proofs.laws.Tests.{leq, key, both}
use Rattle.rules.proofs.laws.Members.{All, all_map, only-true}
use Rattle.rules.proofs.laws.Counting.{num-implies}

-- how often key k stands in a list
abbrev pub times : ℕ → List ℕ → ℕ
times k l = length (only (λ j. eqb j k) l)

-- no key stands twice
abbrev pub Once : List ℕ → Type 0
Once l = (k : ℕ) → times k l ≤ 1

-- a list without key k
abbrev pub but : ℕ → List ℕ → List ℕ
but k = only (λ j. not (eqb j k))

-- what is picked, member by member
pub only-length : (P : ℕ → Bool) (x : ℕ) (l : List ℕ) → length (only P (x ∷ l)) ≡ num (P x) + length (only P l)
unfolding only
only-length P x l = both (P x) (λ t. length (cond t (x ∷ only P l) (only P l)) ≡ num t + length (only P l)) (λ _. omega arith) (λ _. omega arith)

pub times-self : (x : ℕ) (l : List ℕ) → times x (x ∷ l) ≡ 1 + times x l
times-self x l = only-length (λ j. eqb j x) x l ∙ key x x (λ b. num b + times x l ≡ 1 + times x l) (λ _. refl) (λ ne. absurd (ne refl))

-- a test that more pass picks more
pub only-mono : (P Q : ℕ → Bool) (l : List ℕ) → ((k : ℕ) → T (P k) → T (Q k)) → length (only P l) ≤ length (only Q l)
unfolding only
only-mono P Q [] h = omega arith
only-mono P Q (x ∷ l) h = omega (arith, only-length P x l, only-length Q x l, num-implies (P x) (Q x) (h x), only-mono P Q l h)

-- picked in two parts
parts-length : (P Q : ℕ → Bool) (l : List ℕ) → length (only Q l) ≡ length (only Q (only P l)) + length (only Q (only (λ k. not (P k)) l))
unfolding only
parts-length P Q [] = refl
parts-length P Q (x ∷ l) =
    both (P x)
    (λ t. length (only Q (x ∷ l))
    ≡ length (only Q (cond t (x ∷ only P l) (only P l))) + length (only Q (cond (not t) (x ∷ only (λ k. not (P k)) l) (only (λ k. not (P k)) l))))
    (λ _. omega (arith, parts-length P Q l, only-length Q x l, only-length Q x (only P l)))
    (λ _. omega (arith, parts-length P Q l, only-length Q x l, only-length Q x (only (λ k. not (P k)) l)))

-- of a key that does not stand there nothing is picked
none-length : (Q : ℕ → Bool) (k : ℕ) (l : List ℕ) → times k l ≡ 0 → length (only Q (only (λ j. eqb j k) l)) ≡ 0
unfolding only
none-length Q k l e = nothing (only (λ j. eqb j k) l) e
  where
    nothing : (m : List ℕ) → length m ≡ 0 → length (only Q m) ≡ 0
    nothing [] z = refl
    nothing (x ∷ m) z = absurd (omega arith)

-- of key k alone
one-length : (Q : ℕ → Bool) (k : ℕ) (l : List ℕ) → times k l ≡ 1 → length (only Q (only (λ j. eqb j k) l)) ≡ num (Q k)
unfolding only
one-length Q k [] e = absurd (omega arith)
one-length Q k (x ∷ l) e₀ = key x k
    (λ t. (num t + times k l ≡ 1) → length (only Q (cond t (x ∷ only (λ j. eqb j k) l) (only (λ j. eqb j k) l))) ≡ num (Q k))
    (λ q e. omega (arith, only-length Q x (only (λ j. eqb j k) l), none-length Q k l (omega arith), ap (λ j. num (Q j)) q))
    (λ _ e. one-length Q k l (omega arith)) (sym (only-length (λ j. eqb j k) x l) ∙ e₀)

-- without a key that stands there once, each test is passed less often by one, if the key passes it
pub but-length : (Q : ℕ → Bool) (k : ℕ) (l : List ℕ) → times k l ≡ 1 → length (only Q l) ≡ num (Q k) + length (only Q (but k l))
but-length Q k l e = omega (arith, parts-length (λ j. eqb j k) Q l, one-length Q k l e)

-- a key that does not stand there
pub but-none : (k : ℕ) (l : List ℕ) → times k l ≡ 0 → but k l ≡ l
unfolding only
but-none k [] e = refl
but-none k (x ∷ l) e₀ =
    key x k (λ t. (num t + times k l ≡ 0) → cond (not t) (x ∷ but k l) (but k l) ≡ x ∷ l)
    (λ _ e. absurd (omega arith)) (λ _ e. ap (λ m. x ∷ m) (but-none k l (omega arith))) (sym (only-length (λ j. eqb j k) x l) ∙ e₀)

-- the length of what is left
pub but-shorter : (k : ℕ) (l : List ℕ) → times k l ≡ 1 → length l ≡ 1 + length (but k l)
but-shorter k l e =
    ap length (sym (only-true l)) ∙ but-length (λ _. true) k l e ∙ ap (λ n. 1 + n) (ap length (only-true (but k l)))

-- parts of such a list are such lists
pub once-rest : (x : ℕ) (l : List ℕ) → Once (x ∷ l) → Once l
once-rest x l h k = omega (arith, h k, only-length (λ j. eqb j k) x l)

pub once-only : (P : ℕ → Bool) (l : List ℕ) → Once l → Once (only P l)
once-only P l h k = omega (arith, h k, parts-length P (λ j. eqb j k) l)

-- a list that is not empty has a first member
pub head-some : (l : List ℕ) → 1 ≤ length l → (k : ℕ) × (head l ≡ Some k)
head-some [] h = absurd (omega arith)
head-some (x ∷ l) h = (x, refl)

-- the first that passes a test passes it, and stands there
pub head-there : (P : ℕ → Bool) (l : List ℕ) (k : ℕ) → head (only P l) ≡ Some k → T (P k) × (1 ≤ times k l)
unfolding only
head-there P [] k e = let z : ◌≡◌ {A = ℕ} 0 1 = cc in absurd (omega arith)
head-there P (x ∷ l) k e₀ =
    both (P x) (λ t. (T t → T (P x)) → head (cond t (x ∷ only P l) (only P l)) ≡ Some k → T (P k) × (1 ≤ times k (x ∷ l)))
    (λ _ p e. let q : x ≡ k = cc in (subst (λ j. T (P j)) q (p tt), subst (λ j. 1 ≤ times j (x ∷ l)) q (omega (arith, times-self x l))))
    (λ _ _ e. let r = head-there P l k e in (r.0, omega (arith, r.1, only-length (λ j. eqb j k) x l))) (λ p. p) e₀

-- what holds of every member holds of one that stands there
pub there : (Q : ℕ → Type 0) (k : ℕ) (l : List ℕ) → All Q l → 1 ≤ times k l → Q k
unfolding only
there Q k [] h e = absurd (omega arith)
there Q k (x ∷ l) h e₀ =
    key x k (λ t. 1 ≤ num t + times k l → Q k) (λ q _. subst Q q h.0) (λ _ e. there Q k l h.1 (omega arith))
    (omega (arith, only-length (λ j. eqb j k) x l))

-- a list that is not empty has a member whose number none is above
pub largest : (g : ℕ → ℕ) (x : ℕ) (l : List ℕ) → (v : ℕ) × (1 ≤ times v (x ∷ l)) × All (λ j. g j ≤ g v) (x ∷ l)
largest g x [] = (x, omega (arith, times-self x []), (omega arith, tt))
largest g x (y ∷ l) =
    let r = largest g y l in
    leq (g r.0) (g x) (λ _. (v : ℕ) × (1 ≤ times v (x ∷ y ∷ l)) × All (λ j. g j ≤ g v) (x ∷ y ∷ l))
    (λ h. (x, omega (arith, times-self x (y ∷ l)), (omega arith, all_map _ _ (y ∷ l) (λ j a. omega (arith, a)) r.2)))
    (λ h. (r.0, omega (arith, r.1, only-length (λ j. eqb j r.0) x (y ∷ l)), (omega arith, r.2)))

-- what holds of all that stands there holds of every member
pub all_there : (Q : ℕ → Type 0) (l : List ℕ) → ((k : ℕ) → 1 ≤ times k l → Q k) → All Q l
all_there Q [] h = tt
all_there Q (x ∷ l) h =
    (h x (omega (arith, times-self x l)), all_there Q l (λ k e. h k (omega (arith, e, only-length (λ j. eqb j k) x l))))

-- the first member stands there
pub head-times : (l : List ℕ) (k : ℕ) → head l ≡ Some k → 1 ≤ times k l
head-times l k e = (head-there (λ _. true) l k (ap head (only-true l) ∙ e)).1

-- an empty list has no first member, and nothing stands there
pub head-nothing : (l : List ℕ) (k : ℕ) → head l ≡ None → times k l ≡ 0
unfolding only
head-nothing [] k e = refl
head-nothing (x ∷ l) k e = let z : ◌≡◌ {A = ℕ} 0 1 = cc in absurd (omega arith)
