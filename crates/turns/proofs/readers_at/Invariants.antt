-- Invariant: the records passed are at their positions, and the others are as they were.
use Rattle.turns.proofs.Seatings.{Moved}
use Rattle.turns.proofs.readers_at.Given as goal

abbrev pub invariant-loop-j : goal.invariant-loop-j
invariant-loop-j l = Moved l.fn.readers l.positions l.j l.r-items
