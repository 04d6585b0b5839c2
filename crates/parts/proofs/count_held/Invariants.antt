-- Invariant: the counts of the files passed stand in the array.
use Rattle.parts.proofs.Carried.{Counted}
use Rattle.parts.proofs.count_held.Given as goal

abbrev pub invariant-loop-file : goal.invariant-loop-file
invariant-loop-file l = Counted l.cached l.file l.held
