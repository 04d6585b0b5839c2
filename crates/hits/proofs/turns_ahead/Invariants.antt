-- Invariant: of so many turns, and of fewer, none of the slots passed meets F.
use Rattle.std.proofs.Common.{ℕ, ◌≤◌}
use Rattle.hits.specs.Hits.{Clear}
use Rattle.hits.proofs.turns_ahead.Given as goal

abbrev pub invariant-loop-slot : goal.invariant-loop-slot
invariant-loop-slot l = (l.n ≤ l.most) × ((m : ℕ) → m ≤ l.n → Clear l.v l.cached l.slot m)
