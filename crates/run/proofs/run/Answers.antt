-- 11 and 10 are refused; else the turns are made.
use Rattle.std.proofs.Common.{ap, refl}
use Rattle.rules.specs.Views.{state_of}
use Rattle.rules.specs.Calls.{reply}
use Rattle.rules.specs.Entries.{run}
use Rattle.rules.proofs.third.Optimal.{third_of}
use Rattle.state.proofs.Kept.{kept-by}
use Rattle.run.proofs.Replies.{run-many, run-open, run-done, none_open}
use Rattle.run.proofs.run.Goals as goal

pub returns-then-turns-gt16384 : goal.returns-then-turns-gt16384
returns-then-turns-gt16384 c =
    let e = run-many c.args.q.now c.args.turns _ c.if-turns-gt16384.true refl in
    record { by_rule = e; third = third_of _ _ _ e }

pub returns-then-count-ne0 : goal.returns-then-count-ne0
returns-then-count-ne0 c =
    let i = c.q.inside in
    let e = run-open (state_of i.view i.cached i.fetching) c.q.invariant.0 _ c.if-turns-gt16384.false _ c.count.ensures _ c.if-count-ne0.true refl in
    rw (← c.q.view_is) (record { by_rule = e; third = third_of _ _ _ e })

pub make_turns-requires : goal.make_turns-requires
make_turns-requires c =
    let v = c.q.invariant.0 in
    record {
      valid = (v, none_open _ v _ c.if-turns-gt16384.false _ c.count.ensures c.if-count-ne0.false);
      few = c.if-turns-gt16384.false;
      held = c.q.invariant.1;
    }

pub returns : goal.returns
returns c =
    let i = c.q.inside in
    let made = c.make_turns.ensures.told in
    let e = run-done (state_of i.view i.cached i.fetching) c.q.invariant.0 _ c.if-turns-gt16384.false _ c.count.ensures
    _ made.0 made.1 _ c.if-count-ne0.false made.3 (ap (reply _) made.2) in
    rw (← c.q.view_is) (record { by_rule = e; third = third_of _ _ _ e })

pub invariant_of-q : goal.invariant_of-q
invariant_of-q c =
    let i = c.q.inside in
    let s = state_of i.view i.cached i.fetching in
    let made = c.make_turns.ensures.told in
    let e = run-done s c.q.invariant.0 _ c.if-turns-gt16384.false _ c.count.ensures
    _ made.0 made.1 _ c.if-count-ne0.false made.3 (ap (reply _) made.2) in
    (kept-by (run c.args.turns) s _ _ e c.q.invariant.0, c.make_turns.ensures.counted)
