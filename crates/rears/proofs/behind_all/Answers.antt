-- Invariant: every cached page after the one reached is ahead of a reader, and the next one is that to which its own step leads. Measure: the page reached.
use Rattle.std.proofs.Common.{arith, slice_index}
use Rattle.rears.proofs.Rearing.{back_more}
use Rattle.rears.proofs.behind_all.Goals as goal

pub loop-next-preserved : goal.loop-next-preserved
loop-next-preserved c =
    let a = c.args in
    let l = c.loop-next in
    let b = c.back_from-next-in-loop-next in (
      omega (arith, l.invariant.0, l.invariant.1),
      b.ensures.low,
      λ readers h.
          let step = b.ensures.back readers h in (
            back_more readers a.sight.now.cached.now a.file (slice_index a.sight.now.sizes.now a.file) l.next b.result (l.invariant.2 readers h).0 step.0,
            step.1,
          ),
    )

pub returns-else-next-page-clause-back : goal.returns-else-next-page-clause-back
returns-else-next-page-clause-back c = λ readers h.
    let i = c.loop-next.invariant in
    let r = i.2 readers h in (r.0, r.1 (omega (arith, i.1, c.if-next-page.false)))
