-- Invariant: the words passed lack the other map's bits, the others are as they were.
use Rattle.std.proofs.Common.{arith, rules}
use Rattle.bits.proofs.Runs.{lacking-none, lacking-more, lacking-all}
use Rattle.bits.proofs.clear_those.Goals as goal

pub loop-i-init : goal.loop-i-init
loop-i-init c = (c.told-words, lacking-none c.args.words.now c.args.other.now)

pub loop-i-preserved : goal.loop-i-preserved
loop-i-preserved c =
    let a = c.args in
    let l = c.loop-i in
    (search rules, lacking-more a.words.now a.other.now l.words l.i (omega (arith, l.invariant.0)) (search rules) l.invariant.1)

pub returns : goal.returns
returns c k = lacking-all c.args.words.now c.args.other.now c.loop-i.words c.loop-i.i (omega (arith, c.told-words)) c.loop-i.invariant.1 k
