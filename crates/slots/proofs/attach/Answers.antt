-- The view's Attach, with the maps as they are: the state after it is valid, and has the other slots' records.
use Rattle.rules.specs.Entries.{attach}
use Rattle.state.proofs.Kept.{kept-by}
use Rattle.slots.proofs.attach.Goals as goal

pub invariant_of-q : goal.invariant_of-q
invariant_of-q c = (kept-by (attach _ _ _ _ _) _ _ _ (c.attach_in.ensures.by_rule c.q.inside.cached c.q.inside.fetching) c.q.invariant.0, c.q.invariant.1)

pub returns-clause-one_record : goal.returns-clause-one_record
returns-clause-one_record c = rw (← c.q.view_is) (c.attach_in.ensures.one_record c.q.inside.cached c.q.inside.fetching)
