-- No turn is made yet; more can follow those made.
use Rattle.std.proofs.Common.{◌≡◌, ◌∙◌, ap, refl, arith}
use Rattle.rules.specs.Run.{turns_of}
use Rattle.rules.specs.Views.{state_of}
use Rattle.run.proofs.Passings.{underway-none, underway-few}
use Rattle.run.proofs.make_turns.Goals as goal

pub loop-run-init : goal.loop-run-init
loop-run-init c = record {
  within = omega arith;
  gone = underway-none c.args.view.now _ _ _ _ c.requires.valid.0 c.requires.valid.1 c.of.ensures c.new.ensures;
  counted = c.requires.held;
}

pub further-requires-clause-ready : goal.further-requires-clause-ready
further-requires-clause-ready c =
    let u = c.loop-run.invariant.gone in
    (u.ready, underway-few _ _ _ _ u)

pub returns-clause-told : goal.returns-clause-told
returns-clause-told c =
    let all : c.loop-run.run.turns ≡ c.args.turns = omega (arith, c.loop-run.invariant.within) in
    (_, _, refl, c.loop-run.invariant.gone.told ∙ ap (λ n. turns_of n (state_of c.args.view.now c.args.cached.now c.args.fetching.now)) all)
