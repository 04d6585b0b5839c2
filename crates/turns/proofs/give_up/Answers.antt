-- A frame is free, or the head of the steal order goes.
use Rattle.std.proofs.Common.{◌∙◌, arith}
use Rattle.parts.proofs.Carried.{held_high}
use Rattle.calls.proofs.Frames.{free-none, taken-victim}
use Rattle.turns.proofs.give_up.Goals as goal

pub taken-requires : goal.taken-requires
taken-requires c = held_high _ _ c.requires.1

pub open-requires : goal.open-requires
open-requires c = held_high _ _ c.requires.1

pub returns-then-taken-sight : goal.returns-then-taken-sight
returns-then-taken-sight c = λ v g a k.
    (free-none _ g.valid _ (c.taken.ensures _ c.requires.1) (omega (arith, c.if-taken-sight.true)), k)

pub returns : goal.returns
returns c = λ v g a k.
    let found = c.victim.ensures v g k in (
      found.0
          ∙ c.open.ensures _ _ _ g.valid a c.requires.1
          ∙ taken-victim _ g.valid _ (c.taken.ensures _ c.requires.1) (omega (arith, c.if-taken-sight.false)),
      found.1,
    )
