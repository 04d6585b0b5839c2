-- The last cached page up to the least position.
use Rattle.std.proofs.Common.{◌*◌, arith}
use Rattle.bits.proofs.Finds.{last-is}
use Rattle.rears.proofs.Rearing.{back_is, back-free}
use Rattle.rears.proofs.back_from.Goals as goal

pub returns : goal.returns
returns c =
    let a = c.args in
    let map = a.sight.now.cached.now in
    let n = c.least_ahead.result in record {
      back = λ readers h.
          let l = c.least_ahead.ensures.least readers h in
          rw c.last_set.ensures (
            back_is readers map a.file a.page n c.requires.1 l,
            back-free readers map a.file a.page n c.requires.1 l,
          );
      low = omega (arith, c.last_set.ensures, (last-is map (a.file * 1024) n).high, c.least_ahead.ensures.low);
    }
