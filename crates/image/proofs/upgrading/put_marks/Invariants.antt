-- Invariant: the slots so far are filled in.
use Rattle.image.proofs.Upgrades.{Marking}
use Rattle.image.proofs.upgrading.put_marks.Given as goal

abbrev pub invariant-loop-slot : goal.invariant-loop-slot
invariant-loop-slot l = Marking l.image l.slot l.newest
