-- A 1 shifted by a file's number.
use Rattle.files.proofs.Sets.{set-of-one}
use Rattle.files.proofs.FileSet.of.Goals as goal

pub returns : goal.returns
returns c = set-of-one c.args.file c.requires
