-- By whether a page was chosen.
use Rattle.std.proofs.Common.{arith}
use Rattle.parts.proofs.Carried.{held-some}
use Rattle.calls.proofs.make_room.Goals as goal

pub clear_bit-requires : goal.clear_bit-requires
clear_bit-requires c = (c.requires.cached_len.1 _ c.in-Some.is).0

pub page_out-requires : goal.page_out-requires
page_out-requires c =
    let there = c.requires.cached_len.1 _ c.in-Some.is in
    (there.0, c.requires.held.eight, held-some _ _ c.requires.held _ there.0 (omega (arith, c.requires.cached_len.0)) there.1)
