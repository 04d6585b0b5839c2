-- Tests taken apart by cases. Assumes nothing.
use mathlib.Core.Path.{◌≡◌, refl, subst}
use mathlib.Core.Bool.{Bool, true, false, not, ◌&&◌, ◌||◌}
use mathlib.Core.Logic.{◌≢◌, ◌⊎◌, inl, inr}
use Prim.Native.Nat.{ℕ, ◌+◌, ◌*◌, ◌/◌, ◌%◌, ◌≤◌, ◌<◌}
use native.Mathlib.Omega.{arith}
use lib.Dec.{T, leb, ltb, eqb, leb→le, nleb→lt, ltb→lt, lt→ltb, eqb→eq, eqb_refl}

-- a ≤ b, or not
pub leq : (a b : ℕ) (P : Bool → Type 0) → (a ≤ b → P true) → (b < a → P false) → P (leb a b)
leq a b P y n = go (leb a b) (leb→le a b) (nleb→lt a b)
  where
    go : (t : Bool) → (T t → a ≤ b) → (T (not t) → b < a) → P t
    go true e f = y (e tt)
    go false e f = n (f tt)

-- a < b, or not
pub less : (a b : ℕ) (P : Bool → Type 0) → (a < b → P true) → (b ≤ a → P false) → P (ltb a b)
less a b P y n = go (ltb a b) (ltb→lt a b) (lt→ltb a b)
  where
    go : (t : Bool) → (T t → a < b) → (a < b → T t) → P t
    go true e f = y (e tt)
    go false e f = n (let ge : (a < b → ⊥) = f in omega arith)

-- x is k, or not
pub key : (x k : ℕ) (P : Bool → Type 0) → (x ≡ k → P true) → (x ≢ k → P false) → P (eqb x k)
key x k P y n = go (eqb x k) (eqb→eq x k) (λ e. subst (λ (j : ℕ). T (eqb x j)) e (eqb_refl x))
  where
    go : (b : Bool) → (T b → x ≡ k) → (x ≡ k → T b) → P b
    go true e f = y (e tt)
    go false e f = n f

-- any test
pub both : (b : Bool) (P : Bool → Type 0) → (T b → P true) → (T (not b) → P false) → P b
both true P y n = y tt
both false P y n = n tt

pub side : (b : Bool) → T b ⊎ T (not b)
side true = inl tt
side false = inr tt

pub is_true : (b : Bool) → T b → b ≡ true
is_true true h = refl
is_true false h = absurd h

pub is_false : (b : Bool) → T (not b) → b ≡ false
is_false true h = absurd h
is_false false h = refl

pub not-not : (b : Bool) → T (not (not b)) → T b
not-not true h = tt
not-not false h = absurd h

pub and_both : (a b : Bool) → T a → T b → T (a && b)
and_both true b p q = q
and_both false b p q = absurd p

pub and_first : (a b : Bool) → T (a && b) → T a
and_first true b h = tt
and_first false b h = absurd h

pub and_second : (a b : Bool) → T (a && b) → T b
and_second true b h = h
and_second false b h = absurd h

pub or_left : (a b : Bool) → T a → T (a || b)
or_left true b h = tt
or_left false b h = absurd h

pub or_right : (a b : Bool) → T b → T (a || b)
or_right true b h = tt
or_right false b h = h

-- a quotient and a remainder by 16
pub sixteen : (x q r : ℕ) → x ≡ 16 * q + r → r < 16 → (x / 16 ≡ q) × (x % 16 ≡ r)
sixteen x q r e l =
    let a : x / 16 ≤ q = omega arith in
    let b : q ≤ x / 16 = omega arith in
    (omega arith, omega arith)
