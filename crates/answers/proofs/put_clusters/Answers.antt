-- The count, then the pages behind it.
use Rattle.std.proofs.Common.{arith}
use Rattle.answers.proofs.Rows.{count-room, behind-room, behind-put}
use Rattle.answers.proofs.put_clusters.Goals as goal

pub put_line-at-requires : goal.put_line-at-requires
put_line-at-requires c = count-room _ _ _ c.args.pages.now c.requires.1

pub put_fields-requires : goal.put_fields-requires
put_fields-requires c =
    let room = behind-room _ _ _ c.args.pages.now c.requires.1 _ _ c.put_line-at.ensures in
    omega (arith, room)

pub returns : goal.returns
returns c = behind-put _ _ _ c.args.pages.now c.requires.1 _ _ c.put_line-at.ensures _ _ c.put_fields.ensures
