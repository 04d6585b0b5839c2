-- Arrive on the box that the image gives.
use Rattle.std.proofs.Common.{rules}
use Rattle.rules.specs.Entries.{arrive}
use Rattle.capi.proofs.quay_arrive.Goals as goal

pub returns : goal.returns
returns c = c.enter.ensures (arrive _ _) (λ s t a m. search rules)
