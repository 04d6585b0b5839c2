-- Prefetch on the box that the image gives.
use Rattle.std.proofs.Common.{rules}
use Rattle.rules.specs.Entries.{prefetch}
use Rattle.capi.proofs.quay_prefetch.Goals as goal

pub returns : goal.returns
returns c = c.enter.ensures prefetch (λ s t a m. search rules)
