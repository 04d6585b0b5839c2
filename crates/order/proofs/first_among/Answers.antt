-- A page ahead of no reader goes before all others; else the page of the highest rank, if any.
use Rattle.order.proofs.Firsts.{first-rear}
use Rattle.order.proofs.first_among.Goals as goal

pub returns-then-behind-gt0 : goal.returns-then-behind-gt0
returns-then-behind-gt0 c = λ v h. first-rear _ h.valid _ c.furthest_behind-behind.result (c.furthest_behind-behind.ensures _ v _ h) c.if-behind-gt0.true
