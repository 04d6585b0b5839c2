-- Detach on the box that the image gives.
use Rattle.std.proofs.Common.{rules}
use Rattle.rules.specs.Entries.{detach}
use Rattle.capi.proofs.quay_detach.Goals as goal

pub returns : goal.returns
returns c = c.enter.ensures (detach _) (λ s t a m. search rules)
