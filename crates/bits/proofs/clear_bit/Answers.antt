-- The word with its digit taken out is the map with the bit put to 0.
use Rattle.std.proofs.Common.{rules}
use Rattle.bits.proofs.Bits.{and_is}
use Rattle.bits.proofs.clear_bit.Goals as goal

pub returns : goal.returns
returns c = and_is c.args.words.now c.args.key (search rules)
