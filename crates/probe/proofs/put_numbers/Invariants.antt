-- Invariant: the numbers of the first i rows are written, and the rest of the answers is as it was.
use Rattle.std.proofs.Common.{◌≡◌}
use Rattle.questions.proofs.Filled.{filled_to}
use Rattle.probe.specs.Probes.{forecast_number}
use Rattle.probe.proofs.put_numbers.Given as goal

abbrev pub invariant-loop-i : goal.invariant-loop-i
invariant-loop-i l = l.answers ≡ filled_to l.i forecast_number l.rows l.initial.answers
