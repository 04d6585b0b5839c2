-- Invariant: the weights of the files passed are summed, each below 2^32.
use Rattle.std.proofs.Common.{◌≡◌, ◌*◌, ◌≤◌}
use Rattle.rules.specs.Lists.{total}
use Rattle.parts.specs.Files.{weight_in}
use Rattle.parts.proofs.weight_sum.Given as goal

abbrev pub invariant-loop-file : goal.invariant-loop-file
invariant-loop-file l = (l.sum ≡ total l.file (weight_in l.expected l.attaches l.sizes)) × (l.sum ≤ l.file * 4294967295)
