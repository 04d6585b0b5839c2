-- All pages up to the last are cached, or the turns end with the reader's own one that comes to the first that is not.
use Rattle.std.proofs.Common.{◌-◌, arith}
use Rattle.hits.proofs.Slots.{stretch-bounds, stretch-cached, own-few}
use Rattle.hits.proofs.turns_before.Goals as goal

pub overflow_sub-stretch : goal.overflow_sub-stretch
overflow_sub-stretch c = omega (arith, stretch-bounds _ _ _ _ c.next_bit.ensures)

pub returns-then-stretch-left : goal.returns-then-stretch-left
returns-then-stretch-left c =
    (omega arith, λ n l i h. rw (← c.next_key-key.ensures) (stretch-cached _ _ _ _ c.next_bit.ensures i (omega (arith, h, c.if-stretch-left.true))))

pub overflow_mul-stretch : goal.overflow_mul-stretch
overflow_mul-stretch c = omega (arith, stretch-bounds _ _ _ _ c.next_bit.ensures)

pub overflow_add-distance : goal.overflow_add-distance
overflow_add-distance c = omega (arith, stretch-bounds _ _ _ _ c.next_bit.ensures)

pub returns : goal.returns
returns c = (
  omega arith,
  λ n l i h. rw (← c.next_key-key.ensures) (stretch-cached _ _ _ _ c.next_bit.ensures i
      (omega (arith, h, own-few n c.args.distance (c.next_bit.result - c.next_key-key.result) (omega arith)))),
)
