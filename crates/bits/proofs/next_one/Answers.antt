-- The next set digit of a word, by the zeros below it.
use Rattle.std.proofs.Common.{◌∙◌}
use Rattle.bits.proofs.Finds.{next-shr}
use Rattle.bits.proofs.next_one.Goals as goal

pub returns : goal.returns
returns c = c.min.ensures ∙ next-shr c.args.w c.args.s c.requires
