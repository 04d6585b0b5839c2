-- Turns one by one, and those after them that meet no F.
use Rattle.std.proofs.Common.{arith}
use Rattle.run.proofs.Passings.{on-then}
use Rattle.run.proofs.further.Goals as goal

pub returns-then-run-fetches-clause-ready : goal.returns-then-run-fetches-clause-ready
returns-then-run-fetches-clause-ready c =
    let after = c.pass_hits.ensures.ready in
    (after.0 _ c.go_on.ensures.ready.0, after.1)

pub returns-then-run-fetches-clause-leg : goal.returns-then-run-fetches-clause-leg
returns-then-run-fetches-clause-leg c =
    on-then c.args.run.now _ _ _ _ _ _ _ _ _ _ _ c.go_on.ensures.leg (omega arith) (c.pass_hits.ensures.leg _ c.go_on.ensures.ready.0)

pub returns-then-run-fetches-clause-gone : goal.returns-then-run-fetches-clause-gone
returns-then-run-fetches-clause-gone c = λ s u. c.pass_hits.ensures.gone s _ (c.go_on.ensures.gone s u)
