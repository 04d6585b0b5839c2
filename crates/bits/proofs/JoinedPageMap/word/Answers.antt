-- A word of two maps joined is both words joined.
use Rattle.std.proofs.Common.{sym}
use Rattle.bits.proofs.Joins.{joined_at}
use Rattle.bits.proofs.JoinedPageMap.word.Goals as goal

pub returns : goal.returns
returns c = let e = c.args.self.now in sym (joined_at e.0.now e.1.now c.args.i)
