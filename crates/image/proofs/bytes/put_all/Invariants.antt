-- Invariant: the buffer is what it was with the first k numbers put into it.
use Rattle.std.proofs.Common.{◌≡◌, take}
use Rattle.rules.specs.Lists.{each, written}
use Rattle.rules.specs.Image.{bytes_of}
use Rattle.image.proofs.bytes.put_all.Given as goal

abbrev pub invariant-loop-k : goal.invariant-loop-k
invariant-loop-k g l = l.buffer ≡ written l.initial.buffer l.at (each (λ n. bytes_of g.N.Number.WIDTH (g.N.Number.value n)) (take l.k l.numbers))
