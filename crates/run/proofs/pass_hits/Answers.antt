-- The turns that meet no F are passed; no head is known after them.
use Rattle.std.proofs.Common.{refl, arith}
use Rattle.run.proofs.Passings.{passed-ready, passed-counts, passed-on, passed, passed-few}
use Rattle.run.proofs.pass_hits.Goals as goal

pub overflow_add-run : goal.overflow_add-run
overflow_add-run c =
    let few = c.requires.ready.1 in
    omega (arith, few, c.pass_turns.ensures.value, passed-few c.args.run.now.view c.turns_ahead-turns.result (omega arith))

pub returns-clause-ready : goal.returns-clause-ready
returns-clause-ready c =
    let ahead = c.turns_ahead-turns.ensures.1 in
    let p = c.pass_turns.ensures in
    let known = c.requires.ready.0 in (
      λ fetching u. passed-ready _ _ fetching u _ ahead _ _ _ _ p.moved p.value refl c.view_after-run.ensures _ c.new-run.ensures,
      passed-counts _ _ _ known.1 _ ahead _ _ _ _ p.moved p.value refl c.view_after-run.ensures c.requires.ready.1 _ c.new-run.ensures,
    )

pub returns-clause-leg : goal.returns-clause-leg
returns-clause-leg c = λ fetching u.
    passed-on _ _ fetching u _ c.turns_ahead-turns.ensures.1 _ _ _ _ c.pass_turns.ensures.moved c.pass_turns.ensures.value refl c.view_after-run.ensures
    _ c.new-run.ensures _ c.turns_ahead-turns.ensures.0

pub returns-clause-gone : goal.returns-clause-gone
returns-clause-gone c = λ s fetching u.
    passed _ _ fetching u.ready _ c.turns_ahead-turns.ensures.1 _ _ _ _ c.pass_turns.ensures.moved c.pass_turns.ensures.value refl c.view_after-run.ensures
    s u _ c.new-run.ensures
