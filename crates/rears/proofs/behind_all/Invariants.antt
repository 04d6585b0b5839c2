-- Invariant: every cached page after the one reached is ahead of a reader, and the next one is that to which its own step leads. Measure: the page reached.
use Rattle.std.proofs.Common.{◌≡◌, ◌≤◌, List, slice_index}
use Rattle.rules.specs.declared.Reader.{Reader}
use Rattle.uses.specs.Seats.{Seated}
use Rattle.rears.specs.Rears.{Back, Free}
use Rattle.rears.proofs.behind_all.Given as goal

abbrev pub invariant-loop-next : goal.invariant-loop-next
invariant-loop-next l =
    (l.page ≤ slice_index l.sight.sizes.now l.file)
    × (l.next ≤ l.page)
    × ((readers : List Reader) → Seated readers 16 l.sight.seats.now
    → Back readers l.sight.cached.now l.file (slice_index l.sight.sizes.now l.file) l.next × (l.next ≡ l.page → Free readers l.file l.next))

abbrev pub decreases-loop-next : goal.decreases-loop-next
decreases-loop-next l = l.page
