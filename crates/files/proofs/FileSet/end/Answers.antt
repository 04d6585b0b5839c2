-- Past the last digit of the set that is a file.
use Rattle.files.proofs.Sets.{set_last}
use Rattle.files.proofs.FileSet.end.Goals as goal

pub returns : goal.returns
returns c = set_last c.args.self c.last_one.result c.last_one.ensures
