-- Room is made, the page is cached and counted, its fetch is closed.
use native.Mathlib.Omega.{arith}
use borrow.Author.Rules.{rules}
use Rattle.parts.proofs.Carried.{held_high}
use Rattle.calls.proofs.Frames.{eased-clear, eased-length}
use Rattle.calls.proofs.put_in.Goals as goal

pub page_in-requires : goal.page_in-requires
page_in-requires c =
    let counts = c.make_room.ensures.counted in
    (search rules, counts.eight, held_high _ _ counts _ (omega arith))

pub returns-clause-counted : goal.returns-clause-counted
returns-clause-counted c =
    let room = c.make_room.ensures in
    let clear = eased-clear _ _ _ c.requires.cached_len.1 c.requires.key_bound.1 in
    rw c.set_bit.ensures
    (c.page_in.ensures _ room.counted (rw room.cached_after clear) (rw (room.cached_after, eased-length) (omega (arith, c.requires.cached_len.0))))
