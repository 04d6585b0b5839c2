-- Invariant: the readers passed are woken, the others as they were.
use Rattle.std.proofs.Common.{rules}
use Rattle.calls.proofs.Walks.{changed-none, changed-more, changed-end}
use Rattle.calls.proofs.wake.Goals as goal

pub loop-r-init : goal.loop-r-init
loop-r-init c = search (changed-none, rules)

pub loop-r-preserved : goal.loop-r-preserved
loop-r-preserved c = search (changed-more, rules)

pub returns : goal.returns
returns c = search (changed-end, rules)
