-- Invariant: no bit of the words passed is set.
use Rattle.std.proofs.Common.{◌*◌, ◌≤◌}
use Rattle.bits.proofs.Finds.{Without}
use Rattle.bits.proofs.last_words.Given as goal

abbrev pub invariant-loop-i : goal.invariant-loop-i
invariant-loop-i l = (l.first ≤ l.i) × Without l.words 1 (l.i * 64) (l.end * 64)
