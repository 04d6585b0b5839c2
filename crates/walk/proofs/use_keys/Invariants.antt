-- Invariant: the slots before this one are passed.
use Rattle.rules.specs.Views.{state_of}
use Rattle.walk.proofs.Slots.{Passed}
use Rattle.walk.proofs.use_keys.Given as goal

abbrev pub invariant-loop-slot : goal.invariant-loop-slot
invariant-loop-slot l = Passed (state_of l.v l.cached l.fetching) l.slot l.ahead l.seen l.table l.tally.tested l.tally.words
