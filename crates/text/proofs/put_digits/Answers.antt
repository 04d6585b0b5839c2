-- Assumes nothing. At each turn the digits from `at` up to i stand the other way round, and those of the number left are still to come.
use Rattle.std.proofs.Common.{◌≡◌, ◌+◌, ◌-◌, arith}
use Rattle.text.proofs.Puts.{turned_start, turned-room, turned_step, turned_end}
use Rattle.text.proofs.put_digits.Goals as goal

pub loop-left-init : goal.loop-left-init
loop-left-init c =
    let t = turned_start _ _ _ c.requires.0 in
    (t, omega arith, turned-room _ _ _ _ _ _ t c.requires.1)

pub loop-left-preserved : goal.loop-left-preserved
loop-left-preserved c =
    let t = turned_step _ _ _ _ _ _ c.loop-left.invariant.0 c.requires.1 c.loop-left-test.true in
    (t, omega arith, turned-room _ _ _ _ _ _ t c.requires.1)

pub returns : goal.returns
returns c =
    let part : c.args.at + (c.loop-left.i + 1 - c.args.at) ≡ c.loop-left.i + 1 = omega arith in
    rw c.reverse.ensures.after (turned_end _ _ _ _ _ _ c.loop-left.invariant.0 c.requires.1 c.loop-left-test.false _ part)
