-- A full word, shifted down until n digits are left and up to digit s.
use Rattle.bits.proofs.Runs.{mask-digit}
use Rattle.bits.proofs.mask.Goals as goal

pub returns : goal.returns
returns c i = mask-digit c.args.s c.args.n i c.requires.1
