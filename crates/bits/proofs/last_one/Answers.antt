-- The last set one of a word's lowest digits, by the zeros above it when the others are shifted out.
use Rattle.std.proofs.Common.{◌∙◌}
use Rattle.bits.proofs.Finds.{last-shl}
use Rattle.bits.proofs.last_one.Goals as goal

pub returns : goal.returns
returns c = c.saturating_sub.ensures ∙ last-shl c.args.w c.args.m c.requires.1
