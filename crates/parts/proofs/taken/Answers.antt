-- Invariant: the counts of the files passed are summed.
use Rattle.std.proofs.Common.{arith}
use Rattle.bits.proofs.Counts.{ones_none}
use Rattle.parts.proofs.Carried.{summed-more}
use Rattle.parts.proofs.taken.Goals as goal

pub loop-n-init : goal.loop-n-init
loop-n-init c = (omega arith, λ cached _. omega (arith, ones_none cached 0))

pub loop-n-preserved : goal.loop-n-preserved
loop-n-preserved c =
    let i = c.loop-n.invariant in
    let low = c.loop-n-test.true in (
      omega (arith, i.0, c.requires c.loop-n.n-index (omega (arith, low, c.told-held))),
      λ cached h. summed-more cached _ h _ _ (omega (arith, low, c.told-held)) (i.1 cached h),
    )
