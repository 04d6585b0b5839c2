-- Measure on the box that the image gives.
use Rattle.std.proofs.Common.{rules}
use Rattle.rules.specs.Entries.{measure}
use Rattle.capi.proofs.quay_measure.Goals as goal

pub returns : goal.returns
returns c = c.enter.ensures (measure _ _ _) (λ s t a m. search rules)
