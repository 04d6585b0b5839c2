-- At first no question is answered; a turn answers one more; and where the loop ends all are.
use Rattle.std.proofs.Common.{◌∙◌, sym, add-one, arith}
use Rattle.questions.proofs.Filled.{filled_none, filled_more, filled-all}
use Rattle.questions.proofs.Known.answer_rows.Goals as goal

pub loop-i-init : goal.loop-i-init
loop-i-init c = sym (filled_none _ c.args.questions.now c.args.answers.now)

pub loop-i-preserved : goal.loop-i-preserved
loop-i-preserved c =
    rw (c.loop-i.invariant, c.answer.ensures, add-one c.loop-i.i)
    (filled_more _ _ c.loop-i.i c.args.questions.now c.args.answers.now c.loop-i-test.true (omega arith))

pub returns : goal.returns
returns c = c.loop-i.invariant ∙ filled-all _ c.loop-i.i c.args.questions.now c.args.answers.now (omega arith)
