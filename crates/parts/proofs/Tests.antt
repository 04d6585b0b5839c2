-- Rules by which `search` shows that a function answers yes or no as a rule's tests do, and what std says of a list in the rules' words. Assumes nothing.
use Prim.Native.Nat.{ℕ}
use mathlib.Core.Path.{◌≡◌, refl, ap₂}
use mathlib.Core.Bool.{Bool, true, false, ◌&&◌, ◌||◌}
use mathlib.Core.List.{List, [], ◌∷◌}
use native.Mathlib.Omega.{arith}
use borrow.Author.Rules.{rules}
use borrow.Author.Tests.{le-leb}
use lib.Dec.{leb}
use Rattle.std.specs.List.{list_all}
use Rattle.rules.specs.Lists.{within, every}
use Rattle.rules.proofs.laws.Cases.{and-pass, call-stop, call-pass, outcomes}

-- the first does not hold, and is the result
pub not-both : (a b : Bool) → a ≡ false → a ≡ (a && b)
not-both a b e = rw e

-- either: the first does not hold, and the result is the second
pub or-second : (a b r : Bool) → a ≡ false → r ≡ b → r ≡ (a || b)
or-second a b r e h = rw e h

-- the first holds, and is the result
pub or-first : (a b : Bool) → a ≡ true → a ≡ (a || b)
or-first a b e = rw e

-- for a function that answers yes or no
pub ruleset tests = (and-pass, not-both, call-pass, call-stop, or-second, or-first, outcomes, rules)

-- std's word for a test of every member is the rules', where the two tests are the same
pub every-list : {A : Type 0} (P Q : A → Bool) → ((x : A) → P x ≡ Q x) → (xs : List A) → list_all P xs ≡ every Q xs
unfolding every
every-list P Q same [] = refl
every-list P Q same (x ∷ xs) = ap₂ ◌&&◌ (same x) (every-list P Q same xs)

-- a number at most so high is one from 0 to there
pub high-within : (high n : ℕ) → leb n high ≡ within 0 high n
high-within high n = rw (le-leb 0 n (omega arith)) refl
