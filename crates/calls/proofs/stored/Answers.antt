-- Invariant: the numbers passed are stored.
use Rattle.std.proofs.Common.{arith, rules}
use Rattle.calls.proofs.Walks.{all-within}
use Rattle.calls.proofs.stored.Goals as goal

pub overflow_cast-kept : goal.overflow_cast-kept
overflow_cast-kept c =
    let h = all-within 0 65535 c.args.numbers.now c.loop-file.file c.requires (search rules) in
    omega (arith, h)
