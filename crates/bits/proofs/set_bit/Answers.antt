-- The word with its digit put in is the map with the bit put to 1.
use Rattle.bits.proofs.Bits.{or_is}
use Rattle.bits.proofs.set_bit.Goals as goal

pub returns : goal.returns
returns c = or_is c.args.words.now c.args.key
