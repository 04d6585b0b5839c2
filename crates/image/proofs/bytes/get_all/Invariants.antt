-- Invariant: the first k numbers are those of the image, the others as they were.
use Rattle.std.proofs.Common.{◌≡◌, length}
use Rattle.image.specs.Bytes.{number_from}
use Rattle.image.proofs.Fills.{filled}
use Rattle.image.proofs.bytes.get_all.Given as goal

abbrev pub invariant-loop-k : goal.invariant-loop-k
invariant-loop-k g l =
    l.numbers ≡ filled (λ k. g.N.Number.of (number_from g.N.Number.WIDTH l.image l.at k)) (length l.initial.numbers) l.k l.initial.numbers
