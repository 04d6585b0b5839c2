-- A turn makes one more question; and where the loop ends all are made.
use Rattle.std.proofs.Common.{◌∙◌, sym, add-one, arith}
use Rattle.questions.proofs.Filled.{filled_none, filled_more}
use Rattle.probe.specs.Probes.{questions_in}
use Rattle.probe.proofs.Rows.{question-in, made-all}
use Rattle.probe.proofs.put_questions.Goals as goal

pub loop-i-init : goal.loop-i-init
loop-i-init c = sym (filled_none _ (questions_in c.args.numbers.now) c.args.questions.now)

pub loop-i-preserved : goal.loop-i-preserved
loop-i-preserved c =
    let i = c.loop-i.i in
    let made = question-in c.args.numbers.now i (record { file = 0; page = 0 }) (omega arith) in
    rw (c.loop-i.invariant, add-one i, ← made.1) (filled_more _ _ i (questions_in c.args.numbers.now) c.args.questions.now made.0 (omega arith))

pub returns : goal.returns
returns c = c.loop-i.invariant ∙ made-all c.loop-i.i (questions_in c.args.numbers.now) c.args.questions.now (omega arith)
