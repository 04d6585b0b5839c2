-- Lost on the box that the image gives.
use Rattle.std.proofs.Common.{rules}
use Rattle.rules.specs.Entries.{lost}
use Rattle.capi.proofs.quay_lost.Goals as goal

pub returns : goal.returns
returns c = c.enter.ensures (lost _ _) (λ s t a m. search rules)
