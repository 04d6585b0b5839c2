-- Invariant: no bit with the value lies between the start and the place reached. Measure: the keys that are left.
use Rattle.std.proofs.Common.{◌+◌, ◌-◌, ◌*◌, ◌/◌, ◌%◌, ◌∙◌, arith, rules}
use Rattle.bits.proofs.Finds.{Next, without-join, next_word, next-at, next-none}
use Rattle.bits.proofs.next_bit.Goals.{After-next_digit-r}
use Rattle.bits.proofs.next_bit.Goals as goal

-- the next bit v of the turn's word
found : (g : _) → (c : After-next_digit-r g) →
    Next (g.M.PageMap.words c.args.words.now) c.args.v c.loop-at.at (64 - c.loop-at.at % 64)
    (c.loop-at.at / 64 * 64 + c.next_digit-r.result)
found g c =
    next_word (g.M.PageMap.words c.args.words.now) c.args.v c.loop-at.at c.next_digit-r.result
    (rw c.word.ensures at c.next_digit-r.ensures)

pub loop-at-init : goal.loop-at-init
loop-at-init g c = (search rules, λ k l u e. omega arith)

pub overflow_add-at : goal.overflow_add-at
overflow_add-at g c = omega (arith, found g c)

pub returns-then-r-lt64 : goal.returns-then-r-lt64
returns-then-r-lt64 g c =
    let a = c.args in
    let t = found g (goal.at.returns-then-r-lt64 g c).After-next_digit-r in
    c.min.ensures
    ∙ next-at _ a.v a.from a.n c.loop-at.at (64 - c.loop-at.at % 64) (c.loop-at.at / 64 * 64 + c.next_digit-r.result)
    c.loop-at.invariant.0 c.loop-at-test.true c.loop-at.invariant.1 t (omega arith)

pub loop-at-smaller : goal.loop-at-smaller
loop-at-smaller g c = omega (arith, c.if-r-lt64.false)

pub loop-at-preserved : goal.loop-at-preserved
loop-at-preserved g c =
    let a = c.args in
    let t = found g (goal.at.loop-at-preserved g c).After-next_digit-r in (
      omega arith,
      without-join _ a.v a.from c.loop-at.at
          (c.loop-at.at / 64 * 64 + c.next_digit-r.result) c.loop-at.invariant.1 t.before,
    )

pub returns : goal.returns
returns g c =
    let a = c.args in
    next-none _ a.v a.from a.n c.loop-at.at c.loop-at-test.false c.loop-at.invariant.1
