-- The view is valid, and no page is counted.
use Rattle.state.proofs.Kept.{none-held}
use Rattle.state.proofs.Quay.empty.Goals as goal

pub invariant_of-result : goal.invariant_of-result
invariant_of-result c = (c.requires, none-held)
