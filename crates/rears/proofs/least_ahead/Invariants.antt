-- Invariant: the least position of the slots passed, the first s, that have a reader of the file with the page before it; the others are left. Measure:
-- those left.
use Rattle.std.proofs.Common.{List, ℕ, ◌≤◌}
use Rattle.rules.specs.declared.Reader.{Reader}
use Rattle.uses.specs.Seats.{Seated}
use Rattle.uses.proofs.Seating.{Left, NoneBefore}
use Rattle.rears.specs.Rears.{Least}
use Rattle.rears.proofs.least_ahead.Given as goal

abbrev pub invariant-loop-slot : goal.invariant-loop-slot
invariant-loop-slot l =
    (s : ℕ)
    × NoneBefore s l.left
    × (s ≤ 16)
    × (l.least ≤ l.page)
    × ((readers : List Reader) → Seated readers 16 l.sight.seats.now → Left readers l.file s l.left × Least readers l.file l.page s l.least)

abbrev pub decreases-loop-slot : goal.decreases-loop-slot
decreases-loop-slot l = l.left.0
