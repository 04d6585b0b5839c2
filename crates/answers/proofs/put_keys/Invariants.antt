-- Invariant: the keys so far are written behind the count, each as file and page.
use Rattle.std.proofs.Common.{take}
use Rattle.rules.specs.Lists.{each}
use Rattle.text.specs.Written.{Put}
use Rattle.answers.proofs.Rows.{pair_fields}
use Rattle.answers.proofs.put_keys.Given as goal

abbrev pub invariant-loop-key : goal.invariant-loop-key
invariant-loop-key l = Put l.initial.out l.initial.at (each pair_fields (take l.key-index l.keys)) l.out l.at
