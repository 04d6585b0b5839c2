-- The first digit of the set.
use Rattle.files.proofs.Sets.{set_first}
use Rattle.files.proofs.FileSet.first.Goals as goal

pub returns : goal.returns
returns c = set_first c.args.self c.next_one.result c.next_one.ensures
