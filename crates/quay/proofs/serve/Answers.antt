-- The program starts idle, with no text. Assumes nothing.
use Rattle.quay.proofs.Pumping.{starts}
use Rattle.quay.proofs.serve.Goals as goal

pub loop-init : goal.loop-init
loop-init c = (starts _ _ c.requires.0 c.requires.1, c.requires.2)
