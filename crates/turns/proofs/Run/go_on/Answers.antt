-- One turn more is made where the seats have its reader; the counts are no more than the turns.
use Rattle.std.proofs.Common.{◌≡◌, arith}
use Rattle.turns.proofs.Goings.{going-ready, going-all, leg-first, leg-turning, leg-more, leg-all}
use Rattle.turns.proofs.Run.go_on.Goals as goal

pub loop-i-init : goal.loop-i-init
loop-i-init c = record {
  low = c.requires.ready.0.valid.turn_high;
  counted = c.requires.few.1;
  leg = leg-first _ _ _ _ (omega arith) c.requires.ready.0 c.requires.ready.1;
}

pub turn-q-requires-clause-turning : goal.turn-q-requires-clause-turning
turn-q-requires-clause-turning c =
    let i = c.loop-i.invariant in
    rw c.of-terms.ensures (_, leg-turning _ _ _ _ _ _ _ _ _ _ _ i.leg i.low _ c.of_view-shares.ensures)

pub overflow_add-self : goal.overflow_add-self
overflow_add-self c =
    let few = c.loop-i.invariant.leg.going.few in
    omega (arith, few, c.turn-q.ensures.single)

pub overflow_add-self-in-loop-i : goal.overflow_add-self-in-loop-i
overflow_add-self-in-loop-i c =
    let few = c.loop-i.invariant.leg.going.few in
    omega (arith, few, c.turn-q.ensures.single)

pub loop-i-preserved : goal.loop-i-preserved
loop-i-preserved c =
    let i = c.loop-i.invariant in
    let ws = c.of_view-shares.ensures in
    record {
      low = omega arith;
      counted = c.turn-q.ensures.counted;
      leg =
          leg-more _ _ _ _ _ _ _ _ _ _ _ i.leg i.low _ ws c.turn-q.result _ _ _ _ c.turn-q.ensures.single
          ((rw c.of-terms.ensures at c.turn-q.ensures.by_rule) _ (leg-turning _ _ _ _ _ _ _ _ _ _ _ i.leg i.low _ ws));
    }

pub returns-clause-leg : goal.returns-clause-leg
returns-clause-leg c =
    let e : c.loop-i.i ≡ c.args.turns = omega arith in
    rw (← e) (leg-all _ _ _ _ _ _ _ _ _ _ _ c.loop-i.invariant.leg _ c.view_after-self.ensures)

pub returns-clause-gone : goal.returns-clause-gone
returns-clause-gone c =
    let e : c.loop-i.i ≡ c.args.turns = omega arith in
    rw (← e) (going-all _ _ _ _ _ _ _ _ _ _ _ c.loop-i.invariant.leg.going _ c.view_after-self.ensures)

pub returns-clause-ready : goal.returns-clause-ready
returns-clause-ready c =
    let e : c.loop-i.i ≡ c.args.turns = omega arith in
    let u = c.loop-i.invariant.leg.going in
    rw (← e) (going-ready _ _ _ _ _ _ _ _ _ _ _ u _ c.view_after-self.ensures, u.few)
