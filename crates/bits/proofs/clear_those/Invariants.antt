-- Invariant: the words passed lack the other map's bits, the others are as they were.
use Rattle.std.proofs.Common.{◌≡◌, length}
use Rattle.bits.proofs.Runs.{Lacking}
use Rattle.bits.proofs.clear_those.Given as goal

abbrev pub invariant-loop-i : goal.invariant-loop-i
invariant-loop-i l = (length l.words ≡ 128) × Lacking l.initial.words l.other l.words l.i
