-- The word takes the digits of the run, which are the run's bits.
use Rattle.std.proofs.Common.{arith}
use Rattle.bits.proofs.Runs.{run-set}
use Rattle.bits.proofs.set_part.Goals as goal

pub returns : goal.returns
returns c k =
    let a = c.args in
    run-set a.words.now a.from a.n c.mask.result (omega (arith, c.told-words)) c.requires.2 c.mask.ensures k
