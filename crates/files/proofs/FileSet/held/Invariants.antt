-- Invariant: the set has the files passed that have cached pages.
use Rattle.std.proofs.Common.{ℕ, ◌<◌, T, get_or}
use Rattle.files.specs.Sets.{in_set}
use Rattle.files.proofs.FileSet.held.Given as goal

abbrev pub invariant-loop-file : goal.invariant-loop-file
invariant-loop-file l = (f : ℕ) → f < l.file → 0 < get_or l.held f 0 → T (in_set l.set f)
