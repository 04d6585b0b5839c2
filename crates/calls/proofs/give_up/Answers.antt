-- A frame is free, or the head of the steal order goes.
use Rattle.parts.proofs.Carried.{held_high}
use Rattle.calls.proofs.Frames.{free-none, taken-victim}
use Rattle.calls.proofs.give_up.Goals as goal

pub taken-requires : goal.taken-requires
taken-requires c = held_high _ _ c.q.invariant.1

pub returns-then-taken-q : goal.returns-then-taken-q
returns-then-taken-q c =
    let n = c.taken.ensures _ c.q.invariant.1 in
    rw (← c.q.view_is) (free-none _ c.q.invariant.0 _ n c.if-taken-q.true)

pub returns : goal.returns
returns c =
    let n = c.taken.ensures _ c.q.invariant.1 in
    rw (← c.q.view_is, c.victim.ensures) (taken-victim _ c.q.invariant.0 _ n c.if-taken-q.false)
