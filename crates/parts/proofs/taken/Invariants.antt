-- Invariant: the counts of the files passed are summed.
use Rattle.std.proofs.Common.{ℕ, ◌≡◌, ◌*◌, ◌≤◌, List}
use Rattle.bits.specs.Map.{ones}
use Rattle.parts.specs.Held.{Held}
use Rattle.parts.proofs.taken.Given as goal

abbrev pub invariant-loop-n : goal.invariant-loop-n
invariant-loop-n l = (l.taken ≤ l.n-index * 1024) × ((cached : List ℕ) → Held cached l.held → l.taken ≡ ones cached 0 (l.n-index * 1024))
