-- A number is its bytes', each worth 256 times the one before it.
use Rattle.std.proofs.Common.{arith}
use Rattle.image.proofs.Gets.{number-two}
use Rattle.image.proofs.bytes.U16Number.get.Goals as goal

pub returns : goal.returns
returns c = omega (arith, c.from_le_bytes.ensures, number-two c.args.image.now c.args.at c.requires)
