-- Assumes nothing. At each turn the digits from `at` up to i stand the other way round, and those of the number left are still to come.
use Rattle.std.proofs.Common.{◌<◌, ◌≤◌, length}
use Rattle.text.proofs.Puts.{Turned}
use Rattle.text.proofs.put_digits.Given as goal

abbrev pub invariant-loop-left : goal.invariant-loop-left
invariant-loop-left l = Turned l.initial.out l.n l.at l.left l.i l.out × (l.at ≤ l.i) × (l.i < length l.out)

abbrev pub decreases-loop-left : goal.decreases-loop-left
decreases-loop-left l = l.left
