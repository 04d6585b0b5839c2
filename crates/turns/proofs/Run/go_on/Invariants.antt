-- Invariant: so many turns more are made, and seats, heads and maps are as they left them (`OnLeg`).
use Rattle.std.proofs.Common.{◌<◌}
use Rattle.parts.specs.Held.{Held}
use Rattle.turns.proofs.Goings.{OnLeg}
use Rattle.turns.proofs.Run.go_on.Given as goal

abbrev pub invariant-loop-i : goal.invariant-loop-i
invariant-loop-i l = record {
  low : l.slot < 16;
  counted : Held l.cached l.held;
  leg : OnLeg l.initial.self l.initial.cached l.initial.fetching
      l.slot l.i l.self.fetches l.self.reads l.self.seats l.self.heads l.cached l.fetching;
}
