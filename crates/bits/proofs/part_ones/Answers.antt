-- Of a word, the digits from one to another: shifted out below and above, the ones that stay are theirs.
use Rattle.std.proofs.Common.{◌∙◌}
use Rattle.bits.proofs.Counts.{ones_shl}
use Rattle.bits.proofs.part_ones.Goals as goal

pub returns : goal.returns
returns c = c.word_ones.ensures ∙ ones_shl c.args.w c.args.s c.args.n c.requires.1
