-- Invariant: the numbers so far are written from the place on.
use Rattle.std.proofs.Common.{take}
use Rattle.rules.specs.Lists.{each}
use Rattle.rules.specs.Lines.{field_of}
use Rattle.text.specs.Written.{Put}
use Rattle.answers.proofs.put_fields.Given as goal

abbrev pub invariant-loop-n : goal.invariant-loop-n
invariant-loop-n l = Put l.initial.out l.initial.at (each field_of (take l.n-index l.numbers)) l.out l.at
