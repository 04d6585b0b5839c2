-- Each turn feeds some more of the chunk, until it is fed whole. Assumes nothing.
use Rattle.std.proofs.Common.{arith, rules}
use Rattle.quay.proofs.Pumping.{FedTo, fed-more, fed-far, fed-all}
use Rattle.quay.proofs.pump.Goals.{After-answers}
use Rattle.quay.proofs.pump.Goals as goal

-- the chunk is fed further
more : (c : After-answers) → FedTo c.args.image.now c.args.text.now c.args.chunk.now c.answers.new.image c.answers.new.text c.answers.new.next
more c = fed-more _ _ _ _ _ _ c.loop-next.invariant.0 _ c.loop-next.invariant.1 c.loop-next-test.true _ _ _ _ c.answers.ensures

pub loop-next-smaller : goal.loop-next-smaller
loop-next-smaller c =
    let far = fed-far _ _ _ _ _ _ c.loop-next.invariant.0 _ c.loop-next.invariant.1 c.loop-next-test.true _ _ _ _ c.answers.ensures in
    omega (arith, c.loop-next-test.true)

pub loop-next-preserved : goal.loop-next-preserved
loop-next-preserved c = (more (goal.at.loop-next-preserved c).After-answers, search rules)

pub returns-in_err-put-clause-stands : goal.returns-in_err-put-clause-stands
returns-in_err-put-clause-stands c = (more (goal.at.returns-in_err-put-clause-stands c).After-answers).stands

pub returns-clause-whole : goal.returns-clause-whole
returns-clause-whole c = λ f at _. fed-all _ _ _ _ _ _ c.loop-next.invariant.0 c.loop-next-test.false f at
