-- Invariant: the weights of the files passed are summed, each below 2^32.
use Rattle.std.proofs.Common.{arith}
use Rattle.rules.proofs.laws.Leasts.{total-none, total-more}
use Rattle.parts.proofs.Weights.{sum-held}
use Rattle.parts.proofs.weight_sum.Goals as goal

pub loop-file-init : goal.loop-file-init
loop-file-init c = (total-none _, omega arith)

pub loop-file-preserved : goal.loop-file-preserved
loop-file-preserved c =
    let i = c.loop-file.invariant in
    let w = c.weight-sum.ensures in
    (total-more _ c.loop-file.file _ _ i.0 w.value, omega (arith, i.1, w.small))

pub returns : goal.returns
returns c =
    omega (
      arith,
      c.max.ensures,
      sum-held _ c.loop-file.sum c.loop-file.file (omega (arith, c.loop-file.auto.file-end, c.loop-file-test.false)) c.loop-file.invariant.0,
    )
