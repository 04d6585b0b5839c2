-- Invariant: the slots passed are so many pages on (`Advanced`), and their pages are counted.
use Rattle.std.proofs.Common.{◌*◌, ◌≤◌, ◌≡◌}
use Rattle.rules.specs.Lists.{total}
use Rattle.hits.specs.Hits.{reads_of, Advanced}
use Rattle.hits.proofs.pass_turns.Given as goal

abbrev pub invariant-loop-slot : goal.invariant-loop-slot
invariant-loop-slot l = record {
  small : l.reads ≤ l.slot * 1024;
  counted : l.reads ≡ total l.slot (reads_of l.v l.turns);
  advanced : Advanced l.v l.turns l.slot l.positions;
}
