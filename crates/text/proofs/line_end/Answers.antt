-- Assumes nothing. At each turn the bytes from `from` to i hold no line end.
use Rattle.std.proofs.Common.{◌≡◌, ◌∙◌, arith}
use Rattle.text.proofs.Keeps.{end-met, end-all}
use Rattle.text.proofs.Pieces.{walked_none, walked_more}
use Rattle.text.proofs.line_end.Goals as goal

pub loop-i-init : goal.loop-i-init
loop-i-init c = (walked_none _ _ _, omega arith)

pub returns-then-chunk-i-eq10 : goal.returns-then-chunk-i-eq10
returns-then-chunk-i-eq10 c = end-met _ _ _ c.loop-i.invariant.0 c.loop-i-test.true c.if-chunk-i-eq10.true

pub loop-i-preserved : goal.loop-i-preserved
loop-i-preserved c = (walked_more _ _ _ _ c.loop-i.invariant.0 c.loop-i-test.true c.if-chunk-i-eq10.false, omega arith)

pub returns : goal.returns
returns c =
    let end : c.max.result ≡ c.loop-i.i = omega arith in
    end ∙ end-all _ _ _ c.loop-i.invariant.0 c.loop-i-test.false
