-- The first page goes, if there is one.
use Rattle.std.proofs.Common.{sym}
use Rattle.order.proofs.Firsts.{first-victim, first-nothing}
use Rattle.order.proofs.victim_among.Goals as goal

pub returns-then-first-eq0 : goal.returns-then-first-eq0
returns-then-first-eq0 c = λ v h.
    sym (first-nothing _ h.valid _ c.first_among-first.result (c.first_among-first.ensures v h) c.if-first-eq0.true)

pub returns : goal.returns
returns c = λ v h.
    sym (first-victim _ h.valid _ c.first_among-first.result (c.first_among-first.ensures v h) c.if-first-eq0.false)
