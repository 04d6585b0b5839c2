-- Run on the box that the image gives.
use Rattle.std.proofs.Common.{rules}
use Rattle.rules.specs.Entries.{run}
use Rattle.capi.proofs.quay_run.Goals as goal

pub returns : goal.returns
returns c = c.enter.ensures (run _) (λ s t a m. search rules)
