-- Invariant: of the run, the bits up to the place reached are set besides those of the start. Measure: the keys that are left.
use Rattle.std.proofs.Common.{◌≡◌, ◌||◌, ℕ, ◌-◌, ◌≤◌}
use Rattle.bits.specs.Map.{on, one_of}
use Rattle.bits.proofs.set_bits.Given as goal

-- the bits from `from` on to `at` are set
abbrev pub invariant-loop-at : goal.invariant-loop-at
invariant-loop-at l = (l.from ≤ l.at) × (l.at ≤ l.end) × ((k : ℕ) → on l.words k ≡ (one_of l.from (l.at - l.from) k || on l.initial.words k))

abbrev pub decreases-loop-at : goal.decreases-loop-at
decreases-loop-at l = l.end - l.at
