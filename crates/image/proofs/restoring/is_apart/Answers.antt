-- Invariant: the joined words are 0 where no key of the first i words is in both maps.
use Rattle.std.proofs.Common.{rules}
use Rattle.image.proofs.Checks.{every-none}
use Rattle.image.proofs.Clears.{more-told, all_told, both-tells}
use Rattle.image.proofs.restoring.is_apart.Goals as goal

pub loop-i-init : goal.loop-i-init
loop-i-init c = search (every-none, rules)

pub loop-i-preserved : goal.loop-i-preserved
loop-i-preserved c = search (more-told, both-tells, rules)

pub returns : goal.returns
returns c = search (all_told, rules)
