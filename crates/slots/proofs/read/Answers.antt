-- The view's Read, with the maps: the state after it is valid, and has the other slots' records.
use Rattle.rules.specs.Entries.{read}
use Rattle.state.proofs.Kept.{kept-by}
use Rattle.slots.proofs.read.Goals as goal

pub invariant_of-q : goal.invariant_of-q
invariant_of-q c = (kept-by (read _) _ _ _ c.read_in.ensures.by_rule c.q.invariant.0, c.q.invariant.1)

pub returns-clause-one_record : goal.returns-clause-one_record
returns-clause-one_record c = rw (← c.q.view_is) c.read_in.ensures.one_record
