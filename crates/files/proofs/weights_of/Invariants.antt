-- Invariant: the weights of the files passed stand in the array.
use Rattle.std.proofs.Common.{ℕ, ◌<◌, ◌≡◌, get_or}
use Rattle.parts.specs.Files.{weight_in}
use Rattle.files.proofs.weights_of.Given as goal

abbrev pub invariant-loop-file : goal.invariant-loop-file
invariant-loop-file l = (f : ℕ) → f < l.file → get_or l.weight-items f 0 ≡ weight_in l.expected l.attaches l.sizes f
