-- Invariant: so many of the turns are made from the start on (`Underway`), and the files' counts are those of the map. Measure: the turns that are left.
use Rattle.std.proofs.Common.{◌-◌, ◌≤◌}
use Rattle.rules.specs.Views.{state_of}
use Rattle.parts.specs.Held.{Held}
use Rattle.turns.specs.Runs.{Underway}
use Rattle.run.proofs.make_turns.Given as goal

abbrev pub invariant-loop-run : goal.invariant-loop-run
invariant-loop-run l = record {
  within : l.run.turns ≤ l.turns;
  gone : Underway (state_of l.initial.run.view l.initial.cached l.initial.fetching) l.run l.cached l.fetching;
  counted : Held l.cached l.held;
}

abbrev pub decreases-loop-run : goal.decreases-loop-run
decreases-loop-run l = l.turns - l.run.turns
