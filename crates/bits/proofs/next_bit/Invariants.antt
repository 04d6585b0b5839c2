-- Invariant: no bit with the value lies between the start and the place reached. Measure: the keys that are left.
use Rattle.std.proofs.Common.{◌-◌, ◌≤◌}
use Rattle.bits.proofs.Finds.{Without}
use Rattle.bits.proofs.next_bit.Given as goal

-- the keys from `from` on to `at` lack the bit v
abbrev pub invariant-loop-at : goal.invariant-loop-at
invariant-loop-at g l = (l.from ≤ l.at) × Without (g.M.PageMap.words l.words) l.v l.from l.at

abbrev pub decreases-loop-at : goal.decreases-loop-at
decreases-loop-at g l = l.end - l.at
