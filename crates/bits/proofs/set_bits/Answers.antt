-- Invariant: of the run, the bits up to the place reached are set besides those of the start. Measure: the keys that are left.
use Rattle.std.proofs.Common.{◌≡◌, ◌-◌, arith, rules}
use Rattle.bits.proofs.Runs.{run_none, run_more}
use Rattle.bits.proofs.set_bits.Goals as goal

pub loop-at-init : goal.loop-at-init
loop-at-init c = (search rules, search rules, λ k. run_none c.args.words.now c.args.from (c.args.from - c.args.from) k (omega arith))

pub loop-at-preserved : goal.loop-at-preserved
loop-at-preserved c =
    let a = c.args in (
      omega arith,
      omega arith,
      λ k. run_more a.words.now c.loop-at.words c.set_part.new.words a.from c.loop-at.at c.min-m.result k
          c.loop-at.invariant.0 (c.loop-at.invariant.2 k) (c.set_part.ensures k),
    )

pub returns : goal.returns
returns c k =
    let a = c.args in
    let e : c.loop-at.at - a.from ≡ a.n = omega arith in
    rw (← e) (c.loop-at.invariant.2 k)
