-- Steal on the box that the image gives.
use Rattle.std.proofs.Common.{rules}
use Rattle.rules.specs.Entries.{steal}
use Rattle.capi.proofs.quay_steal.Goals as goal

pub returns : goal.returns
returns c = c.enter.ensures steal (λ s t a m. search rules)
