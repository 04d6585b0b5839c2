-- The rule's own sum.
use Rattle.std.proofs.Common.{rules}
use Rattle.rules.specs.Orders.{surplus, standing}
use Rattle.parts.proofs.standing.Goals as goal

pub returns-clause-value : goal.returns-clause-value
unfolding standing surplus
returns-clause-value c = search rules
