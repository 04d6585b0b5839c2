-- Numbers that pass fit 16 bits.
use Rattle.std.proofs.Common.{arith}
use Rattle.std.proofs.lemmas.Grind.{common_steps}
use Rattle.rules.specs.Calls.{settings_in}
use Rattle.calls.proofs.Walks.{every-higher}
use Rattle.calls.proofs.setup_by_rule_in.Goals as goal

pub stored-requires : goal.stored-requires
unfolding settings_in
stored-requires c = every-higher 0 1024 65535 c.args.sizes (omega arith) (grind (arith, common_steps))

pub stored-requires-2 : goal.stored-requires-2
unfolding settings_in
stored-requires-2 c = every-higher 0 1000 65535 c.args.expected (omega arith) (grind (arith, common_steps))
