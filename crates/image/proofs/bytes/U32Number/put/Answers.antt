-- std's bytes of a number are those of the rules.
use Rattle.std.proofs.Common.{◌∙◌}
use Rattle.image.proofs.Puts.{written-bytes}
use Rattle.image.proofs.bytes.U32Number.put.Goals as goal

pub returns : goal.returns
returns c = written-bytes 4 _ _ _ _ (c.copy_from_slice.ensures.after ∙ c.to_le_bytes.ensures)
