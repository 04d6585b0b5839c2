-- The questions to the box that the image gives.
use Rattle.std.proofs.Common.{rules}
use Rattle.probe.specs.Probes.{when_asked}
use Rattle.probe.proofs.probe_when_read.Goals as goal

pub returns : goal.returns
returns c = c.ask.ensures (when_asked c.args.questions.now) (λ q lent left n m. search rules)
