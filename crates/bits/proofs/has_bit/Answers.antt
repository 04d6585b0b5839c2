-- The digit of the word is the bit of the map.
use Rattle.bits.specs.Map.{bit}
use Rattle.bits.proofs.has_bit.Goals as goal

pub returns : goal.returns
unfolding bit
returns c = c.has_digit.ensures
