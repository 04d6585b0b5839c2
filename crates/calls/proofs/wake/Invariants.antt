-- Invariant: the readers passed are woken, the others as they were.
use Rattle.std.proofs.Common.{◌≡◌}
use Rattle.rules.specs.Calls.{woken}
use Rattle.calls.proofs.Walks.{changed}
use Rattle.calls.proofs.wake.Given as goal

abbrev pub invariant-loop-r : goal.invariant-loop-r
invariant-loop-r l = l.r-items ≡ changed (woken l.key) l.fn.readers l.r-index
