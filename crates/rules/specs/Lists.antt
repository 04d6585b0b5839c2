-- Words about lists and numbers that the rules are written in. Assumes nothing: these are definitions.
use Rattle.std.specs.Prelude.{ℕ, zero, suc, min, ◌+◌, Bool, true, false, cond, ◌&&◌, ◌||◌, List, [], ◌∷◌, ◌++◌, length, take, drop, leb}
use Rattle.std.specs.declared.option.Option.{Option}
use Rattle.std.specs.declared.option.Option.TheVariants.{Some, None}

-- a, a + 1, .., n of them
unfoldable pub range : ℕ → ℕ → List ℕ
range a zero = []
range a (suc n) = a ∷ range (a + 1) n

-- the lists of the members, one after the other
unfoldable pub each : {A B : Type 0} → (A → List B) → List A → List B
each g [] = []
each g (x ∷ xs) = g x ++ each g xs

-- the members that pass the test, in their order
unfoldable pub only : (ℕ → Bool) → List ℕ → List ℕ
only P [] = []
only P (x ∷ xs) = cond (P x) (x ∷ only P xs) (only P xs)

-- every member passes the test
unfoldable pub every : {A : Type 0} → (A → Bool) → List A → Bool
every P [] = true
every P (x ∷ xs) = P x && every P xs

-- some member passes the test
unfoldable pub any : {A : Type 0} → (A → Bool) → List A → Bool
any P [] = false
any P (x ∷ xs) = P x || any P xs

-- some number below m passes the test
unfoldable pub some_of : ℕ → (ℕ → Bool) → Bool
some_of zero P = false
some_of (suc m) P = P m || some_of m P

-- the least of far and of g below m
unfoldable pub least : ℕ → (ℕ → ℕ) → ℕ → ℕ
least zero g far = far
least (suc m) g far = min (g m) (least m g far)

-- the sum of g below m
unfoldable pub total : ℕ → (ℕ → ℕ) → ℕ
total zero g = 0
total (suc m) g = g m + total m g

-- the list with some others in it from a place on
unfoldable pub written : List ℕ → ℕ → List ℕ → List ℕ
written buffer at bytes = take at buffer ++ (bytes ++ drop (at + length bytes) buffer)

-- from low to high, both included
abbrev pub within : ℕ → ℕ → ℕ → Bool
within low high n = leb low n && leb n high

-- x before the first member that it may precede
unfoldable pub put : (ℕ → ℕ → Bool) → ℕ → List ℕ → List ℕ
put precedes x [] = x ∷ []
put precedes x (y ∷ ys) = cond (precedes x y) (x ∷ y ∷ ys) (y ∷ put precedes x ys)

-- insertion sort
unfoldable pub sorted : (ℕ → ℕ → Bool) → List ℕ → List ℕ
sorted precedes [] = []
sorted precedes (x ∷ xs) = put precedes x (sorted precedes xs)

-- larger number first
abbrev pub falling : (ℕ → ℕ) → List ℕ → List ℕ
falling g = sorted (λ x y. leb (g y) (g x))

-- smaller number first
abbrev pub rising : (ℕ → ℕ) → List ℕ → List ℕ
rising g = sorted (λ x y. leb (g x) (g y))

-- the first member, if any
abbrev pub head : List ℕ → Option ℕ
head [] = None
head (x ∷ xs) = Some x

-- by whether there is one
abbrev pub on_option : {A : Type 0} → Option ℕ → (ℕ → A) → A → A
on_option None f a = a
on_option (Some k) f a = f k
