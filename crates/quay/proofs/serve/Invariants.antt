-- The loop's invariant: the image and the text stand for the program after some input, and there is room for any answer. Assumes nothing.
use Rattle.answers.specs.Responses.{Roomy}
use Rattle.quay.specs.Program.{Stands}
use Rattle.quay.proofs.serve.Given as goal

abbrev pub invariant-loop : goal.invariant-loop
invariant-loop l = Stands l.image l.text × Roomy l.out
