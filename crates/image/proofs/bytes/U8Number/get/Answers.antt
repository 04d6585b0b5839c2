-- A byte is the number of one byte.
use Rattle.std.proofs.Common.{rules}
use Rattle.image.proofs.Gets.{number-one}
use Rattle.image.proofs.bytes.U8Number.get.Goals as goal

pub returns : goal.returns
returns c = search (number-one, rules)
