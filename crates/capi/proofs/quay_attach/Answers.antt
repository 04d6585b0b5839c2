-- Attach on the box that the image gives.
use Rattle.std.proofs.Common.{rules}
use Rattle.rules.specs.Entries.{attach}
use Rattle.capi.proofs.quay_attach.Goals as goal

pub returns : goal.returns
returns c = c.enter.ensures (attach _ _ _ _ _) (λ s t a m. search rules)
