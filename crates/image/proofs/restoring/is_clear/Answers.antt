-- Invariant: the joined words are 0 where no key from `from` up to word i is in a map.
use Rattle.std.proofs.Common.{rules}
use Rattle.image.proofs.Clears.{first-told, more-told, all_told, either-tells, either-fits}
use Rattle.image.proofs.restoring.is_clear.Goals as goal

pub loop-i-init : goal.loop-i-init
loop-i-init c = search (first-told, either-tells, either-fits, rules)

pub loop-i-preserved : goal.loop-i-preserved
loop-i-preserved c = search (more-told, either-tells, either-fits, rules)

pub returns : goal.returns
returns c = search (all_told, rules)
