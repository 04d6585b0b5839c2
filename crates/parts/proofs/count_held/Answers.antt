-- Invariant: the counts of the files passed stand in the array. A count is at most a file's 1,024 pages.
use Rattle.std.proofs.Common.{arith, ◌*◌}
use Rattle.bits.proofs.Counts.{ones-le}
use Rattle.parts.proofs.Carried.{counted_none, counted-more, counted-all}
use Rattle.parts.proofs.count_held.Goals as goal

pub loop-file-init : goal.loop-file-init
loop-file-init c = counted_none _ _ c.requires

pub overflow_cast-n : goal.overflow_cast-n
overflow_cast-n c = omega (arith, c.count.ensures, ones-le c.args.cached.now (c.loop-file.file * 1024) 1024)

pub loop-file-preserved : goal.loop-file-preserved
loop-file-preserved c = counted-more _ _ _ _ c.loop-file-test.true c.loop-file.invariant c.count.ensures

pub returns : goal.returns
returns c = counted-all _ _ _ (omega (arith, c.loop-file-test.false)) c.loop-file.invariant
