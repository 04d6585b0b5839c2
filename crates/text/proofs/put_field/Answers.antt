-- Assumes nothing. The digits stand behind the comma.
use Rattle.std.proofs.Common.{arith}
use Rattle.text.proofs.Puts.{put-more}
use Rattle.text.proofs.put_field.Goals as goal

pub returns : goal.returns
returns c =
    put-more _ _ _ _ _ _ _ _ c.put_byte-from.ensures c.put_digits.ensures (omega (arith, c.requires.1))
