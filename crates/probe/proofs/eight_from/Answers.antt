-- The numbers from the place on, one by one.
use Rattle.std.proofs.Common.{◌+◌, get_or, rules}
use Rattle.probe.proofs.Numbers.{from-results}
use Rattle.probe.proofs.eight_from.Goals as goal

pub returns : goal.returns
returns c = from-results _ (λ i. get_or c.args.numbers.now (c.args.from + i) 0) _ (λ i y q k. (search rules, search rules)) _ 8 c.from_fn.ensures.items
