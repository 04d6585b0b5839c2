-- The files' weights (A.6): products of small numbers are small, and each weight is at most the sum. Assumes nothing.
use Prim.Native.Nat.{ℕ, max, ◌-◌, ◌*◌, ◌≤◌, ◌<◌}
use mathlib.Core.Path.{◌≡◌, ap, ◌∙◌}
use mathlib.Core.Bool.{cond}
use mathlib.Core.List.{List}
use native.Mathlib.Nat.{mul-le-mul}
use native.Mathlib.Omega.{arith}
use lib.ListN.{get_or}
use Rattle.rules.specs.Lists.{total}
use Rattle.rules.specs.Valid.{Valid}
use Rattle.rules.specs.Orders.{weight_sum}
use Rattle.rules.specs.declared.State.{State}
use Rattle.rules.proofs.laws.Tests.{key}
use Rattle.rules.proofs.laws.Leasts.{total-part, total-most}
use Rattle.parts.specs.Files.{weight_in, Weighable}

-- a product of two numbers, each at most so much
pub product : (a b m n : ℕ) → a ≤ m → b ≤ n → a * b ≤ m * n
product a b m n p q = mul-le-mul p q

-- a valid state has the ranges
pub weighable : (s : State) → Valid s → Weighable s.frames s.expected s.sizes
weighable s w = record { frames_high = w.frames_high; expected_high = w.expected_high; sizes_high = w.sizes_high }

-- no weight is above the sum
weight-part : (g : ℕ → ℕ) (f : ℕ) → f < 8 → g f ≤ weight_sum g
unfolding weight_sum
weight-part g f l =
    key (total 8 g) 0 (λ t. g f ≤ cond t 1 (total 8 g)) (λ e. omega (arith, total-part 8 g f l)) (λ _. total-part 8 g f l)

-- the sum is at most eight of the largest
sum-small : (g : ℕ → ℕ) (b : ℕ) → 1 ≤ b → ((f : ℕ) → g f ≤ b) → weight_sum g ≤ 8 * b
unfolding weight_sum
sum-small g b l h = key (total 8 g) 0 (λ t. cond t 1 (total 8 g) ≤ 8 * b) (λ _. omega arith) (λ _. total-most 8 g b h)

-- what a file's number is worked out of is in range
pub weighed-in : (frames sum w f : ℕ) (expected attaches sizes : List ℕ) → Weighable frames expected sizes → f < 8
    → sum ≡ weight_sum (weight_in expected attaches sizes) → w ≡ weight_in expected attaches sizes f → (frames ≤ 1024) × (w ≤ sum) × (sum ≤ 8192000)
weighed-in frames sum w f expected attaches sizes r l e g =
    let weights : ℕ → ℕ = weight_in expected attaches sizes in
    let each : (i : ℕ) → weights i ≤ 1000 * 1024 = λ i. product (get_or expected i 0 - get_or attaches i 0) (get_or sizes i 0) 1000 1024
    (omega (arith, r.expected_high i)) (r.sizes_high i) in
    (r.frames_high, omega (arith, e, g, weight-part weights f l), omega (arith, e, sum-small weights 1024000 (omega arith) each))

-- the sum of all eight, held to 1 or more
pub sum-held : (g : ℕ → ℕ) (n i : ℕ) → i ≡ 8 → n ≡ total i g → max n 1 ≡ weight_sum g
unfolding weight_sum
sum-held g n i q e =
    let all : n ≡ total 8 g = e ∙ ap (λ j. total j g) q in
    key (total 8 g) 0 (λ t. max n 1 ≡ cond t 1 (total 8 g)) (λ z. omega (arith, all, z)) (λ ne. omega (arith, all, ne))
