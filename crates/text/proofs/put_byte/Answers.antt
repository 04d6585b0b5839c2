-- Assumes nothing.
use Rattle.std.proofs.Common.{refl}
use Rattle.rules.proofs.laws.Lists.{written_one}
use Rattle.text.proofs.put_byte.Goals as goal

pub returns : goal.returns
returns c = record { buffer = written_one _ _ _ c.requires; next_is = refl }
