-- The letter, then the numbers behind it.
use Rattle.std.proofs.Common.{arith, rules}
use Rattle.rules.specs.Lines.{line_of}
use Rattle.answers.proofs.Rows.{line-room, line-put}
use Rattle.answers.proofs.put_line.Goals as goal

pub put_byte-at-requires : goal.put_byte-at-requires
unfolding line_of
put_byte-at-requires c = omega arith

pub put_fields-requires : goal.put_fields-requires
put_fields-requires c = line-room _ _ _ _ _ c.put_byte-at.ensures c.requires (search rules)

pub returns : goal.returns
returns c = line-put _ _ _ _ _ c.put_byte-at.ensures c.requires _ _ c.put_fields.ensures
