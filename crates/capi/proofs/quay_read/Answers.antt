-- Read on the box that the image gives.
use Rattle.std.proofs.Common.{rules}
use Rattle.rules.specs.Entries.{read}
use Rattle.capi.proofs.quay_read.Goals as goal

pub returns : goal.returns
returns c = c.enter.ensures (read _) (λ s t a m. search rules)
