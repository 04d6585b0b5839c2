-- The ones of a word are its set digits.
use Rattle.bits.proofs.Counts.{ones-word}
use Rattle.bits.proofs.word_ones.Goals as goal

pub returns : goal.returns
returns c = ones-word c.args.w c.ranges.w.fits
