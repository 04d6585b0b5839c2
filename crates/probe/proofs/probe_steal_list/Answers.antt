-- The steal list of the box that the image gives.
use Rattle.std.proofs.Common.{rules}
use Rattle.rules.specs.Listings.{steal_list_of}
use Rattle.probe.specs.Probes.{list_asked}
use Rattle.probe.proofs.Rows.{order-made}
use Rattle.probe.proofs.probe_steal_list.Goals as goal

pub returns : goal.returns
returns c = c.ask.ensures (list_asked steal_list_of) (λ q lent left n m. search (rules, order-made))
