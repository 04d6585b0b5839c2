-- The rule keeps a valid state valid.
use Rattle.rules.specs.Entries.{prefetch}
use Rattle.state.proofs.Kept.{kept-by}
use Rattle.calls.proofs.prefetch.Goals as goal

pub invariant_of-q : goal.invariant_of-q
invariant_of-q c = (kept-by prefetch _ _ _ c.prefetch_in.ensures c.q.invariant.0, c.q.invariant.1)
