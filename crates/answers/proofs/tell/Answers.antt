-- The answer's line, then its line end.
use Rattle.std.proofs.Common.{arith}
use Rattle.answers.proofs.Replies.{answer-length, line-ended}
use Rattle.answers.proofs.tell.Goals as goal

pub put_byte-requires : goal.put_byte-requires
put_byte-requires c = omega (arith, c.put_case-at.ensures.next_is, answer-length c.args.answer)

pub returns : goal.returns
returns c = line-ended _ _ _ _ _ _ c.put_case-at.ensures c.put_byte.ensures (omega (arith, answer-length c.args.answer))
