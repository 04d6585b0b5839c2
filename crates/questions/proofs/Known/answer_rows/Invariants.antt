-- Invariant: the first i questions are answered, and the rest of the list is as it was.
use Rattle.std.proofs.Common.{◌≡◌}
use Rattle.questions.specs.Rows.{row_by}
use Rattle.questions.proofs.Filled.{filled_to}
use Rattle.questions.proofs.Known.answer_rows.Given as goal

abbrev pub invariant-loop-i : goal.invariant-loop-i
invariant-loop-i l = l.answers ≡ filled_to l.i (row_by l.self.sizes l.self.turn l.self.ahead.now l.self.table.now) l.questions l.initial.answers
