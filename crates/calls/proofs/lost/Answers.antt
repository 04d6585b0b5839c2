-- The view's Lost, with the cached map as it is: the state after it is valid.
use Rattle.rules.specs.Entries.{lost}
use Rattle.state.proofs.Kept.{kept-by}
use Rattle.calls.proofs.lost.Goals as goal

pub invariant_of-q : goal.invariant_of-q
invariant_of-q c = (kept-by (lost _ _) _ _ _ (c.lost_in.ensures c.q.inside.cached) c.q.invariant.0, c.q.invariant.1)
