-- Assumes nothing.
use Rattle.std.proofs.Common.{◌≡◌, ◌+◌, ◌-◌, length, drop-drop, arith}
use Rattle.rules.specs.Lists.{written}
use Rattle.text.proofs.put_bytes.Goals as goal

pub returns : goal.returns
unfolding written
returns c =
    let same : c.args.at + length c.args.bytes.now - c.args.at ≡ length c.args.bytes.now = omega arith in
    rw (same, c.copy_from_slice.ensures.after, drop-drop)
