-- Invariant: of the slots passed, no first absent page is used sooner than the best (`Soonest`).
use Rattle.rules.specs.Views.{state_of}
use Rattle.fetch.specs.Soonest.{Soonest}
use Rattle.fetch.proofs.next_fetch.Given as goal

abbrev pub invariant-loop-slot : goal.invariant-loop-slot
invariant-loop-slot l = Soonest (state_of l.v l.cached l.fetching) l.slot l.best
