-- Invariant: no cached page of the file past page n ranks higher than the best (`Raised`), and the readers short of page n are queued. Measure: page n and
-- the end of the queue, neither of which rises.
use Rattle.std.proofs.Common.{◌+◌, ◌≤◌}
use Rattle.rules.specs.declared.View.{View}
use Rattle.uses.specs.Shown.{Shows, seen}
use Rattle.order.specs.Searches.{HasShort, Looked}
use Rattle.order.proofs.highest_of.Given as goal

abbrev pub invariant-loop-queue : goal.invariant-loop-queue
invariant-loop-queue l =
    (l.n ≤ 1024) × ((v : View) → Shows l.sight v → HasShort v.readers l.file l.n l.queue × Looked (seen l.sight v) l.file l.n l.initial.best l.best)

abbrev pub decreases-loop-queue : goal.decreases-loop-queue
decreases-loop-queue l = l.n + l.queue.end
