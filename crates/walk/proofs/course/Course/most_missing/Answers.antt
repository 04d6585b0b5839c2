-- Nothing is pruned where fetches take no time; else it is from L divided by T on.
use Rattle.std.proofs.Common.{arith}
use Rattle.rules.specs.UseTimes.{pruned}
use Rattle.walk.proofs.course.Course.most_missing.Goals as goal

pub returns-clause-most : goal.returns-clause-most
unfolding pruned
returns-clause-most c s q e f l =
    let a = c.args in
    rw (e, f, c.unwrap_or.ensures) (grind arith)
