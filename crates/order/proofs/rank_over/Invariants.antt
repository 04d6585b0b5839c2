-- Invariant: the number kept is what the readers asked leave of the page's rank (`Swept`). Measure: the place reached, down the queue.
use Rattle.std.proofs.Common.{◌≡◌, ◌+◌, ◌/◌, ◌%◌, ◌≤◌, T}
use Rattle.rules.specs.Pages.{page_of}
use Rattle.rules.specs.UseTimes.{ahead}
use Rattle.rules.specs.declared.View.{View}
use Rattle.uses.specs.Shown.{Shows, seen}
use Rattle.order.specs.Searches.{HasShort}
use Rattle.order.proofs.Sweeps.{Swept, Asked}
use Rattle.order.proofs.rank_over.Given as goal

abbrev pub invariant-loop-at : goal.invariant-loop-at
invariant-loop-at l =
    (l.page ≡ l.key % 1024 + 1)
    × (l.at ≤ l.queue.end)
    × ((v : View) → Shows l.sight v → HasShort v.readers (l.key / 1024) (page_of l.key) l.queue → T (ahead (seen l.sight v) l.key)
    → Swept (seen l.sight v) l.key (Asked l.queue.numbers l.at l.queue.end) l.top)

abbrev pub decreases-loop-at : goal.decreases-loop-at
decreases-loop-at l = l.at
