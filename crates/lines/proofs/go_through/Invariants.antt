-- The loop's invariant: what is still to be taken of the chunk gives what was to be taken at first (`Going`). The measure is what is left of the chunk.
-- Assumes nothing.
use Rattle.std.proofs.Common.{◌-◌, length}
use Rattle.lines.proofs.Taking.{Going}
use Rattle.lines.proofs.go_through.Given as goal

abbrev pub invariant-loop-end : goal.invariant-loop-end
invariant-loop-end l =
    let old = l.initial in
    Going old.q old.text l.chunk old.next old.out l.q l.text l.out l.next l.len l.end

abbrev pub decreases-loop-end : goal.decreases-loop-end
decreases-loop-end l = length l.chunk - l.next
