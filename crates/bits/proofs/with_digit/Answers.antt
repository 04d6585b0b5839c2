-- A 1 at the digit's place, put into the word.
use Rattle.bits.proofs.Words.{or_digits}
use Rattle.bits.proofs.with_digit.Goals as goal

pub returns : goal.returns
returns c = or_digits c.args.w c.args.i c.requires
