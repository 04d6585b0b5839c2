-- The next 0 of a word is the next 1 of its complement.
use Rattle.std.proofs.Common.{◌≡◌, ◌∙◌, arith}
use Rattle.bits.proofs.Finds.{next-not}
use Rattle.bits.proofs.next_digit.Goals as goal

pub returns-then-v-eq1 : goal.returns-then-v-eq1
returns-then-v-eq1 c = rw c.if-v-eq1.true c.next_one.ensures

pub returns : goal.returns
returns c =
    let e : c.args.v ≡ 0 = omega arith in
    rw e (c.next_one-2.ensures ∙ next-not c.args.w c.args.s c.ranges.w.fits)
