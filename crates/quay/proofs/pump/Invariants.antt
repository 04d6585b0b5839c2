-- The loop's invariant: the chunk is fed so far (`FedTo`), and the buffer has room. The measure is what is left of the chunk. Assumes nothing.
use Rattle.std.proofs.Common.{◌-◌, length}
use Rattle.answers.specs.Responses.{Roomy}
use Rattle.quay.proofs.Pumping.{FedTo}
use Rattle.quay.proofs.pump.Given as goal

abbrev pub invariant-loop-next : goal.invariant-loop-next
invariant-loop-next l = FedTo l.initial.image l.initial.text l.chunk l.image l.text l.next × Roomy l.out

abbrev pub decreases-loop-next : goal.decreases-loop-next
decreases-loop-next l = length l.chunk - l.next
