-- Assumes nothing. At each turn the fields before `at` are read, and a comma or the line's end is there.
use Rattle.std.proofs.Common.{◌-◌, length}
use Rattle.text.proofs.Asks.{Parsed}
use Rattle.text.proofs.parse.Given as goal

abbrev pub invariant-loop-at : goal.invariant-loop-at
invariant-loop-at l = Parsed l.line l.at l.count l.fields

abbrev pub decreases-loop-at : goal.decreases-loop-at
decreases-loop-at l = length l.line - l.at
