-- At first no number is written; a turn writes one more; and where the loop ends all are.
use Rattle.std.proofs.Common.{◌∙◌, sym, add-one, arith}
use Rattle.questions.proofs.Filled.{filled_none, filled_more, filled-all}
use Rattle.probe.proofs.put_numbers.Goals as goal

pub loop-i-init : goal.loop-i-init
loop-i-init c = sym (filled_none _ c.args.rows.now c.args.answers.now)

pub loop-i-preserved : goal.loop-i-preserved
loop-i-preserved c =
    rw (c.loop-i.invariant, c.row_number.ensures, add-one c.loop-i.i)
    (filled_more _ _ c.loop-i.i c.args.rows.now c.args.answers.now c.loop-i-test.true (omega arith))

pub returns : goal.returns
returns c = c.loop-i.invariant ∙ filled-all _ c.loop-i.i c.args.rows.now c.args.answers.now (omega arith)
