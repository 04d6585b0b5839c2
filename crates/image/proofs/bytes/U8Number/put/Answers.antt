-- A byte is put in its place.
use Rattle.std.proofs.Common.{rules}
use Rattle.image.proofs.Puts.{written_byte}
use Rattle.image.proofs.bytes.U8Number.put.Goals as goal

pub returns : goal.returns
returns c = search (written_byte, rules)
