-- Invariant: the file that leads among those passed.
use Rattle.files.proofs.Leading.{Led}
use Rattle.files.proofs.Shares.chosen.Given as goal

abbrev pub invariant-loop-file : goal.invariant-loop-file
invariant-loop-file l = Led l.self l.held l.file l.best
