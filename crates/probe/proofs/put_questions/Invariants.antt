-- Invariant: the first i questions are made.
use Rattle.std.proofs.Common.{◌≡◌}
use Rattle.questions.proofs.Filled.{filled_to}
use Rattle.probe.specs.Probes.{questions_in}
use Rattle.probe.proofs.put_questions.Given as goal

abbrev pub invariant-loop-i : goal.invariant-loop-i
invariant-loop-i l = l.questions ≡ filled_to l.i (λ q. q) (questions_in l.numbers) l.initial.questions
