-- Where the size is 1,024 there is nothing above it; else it is all of the file's words from the size on.
use Rattle.std.proofs.Common.{rules, ◌∙◌}
use borrow.Author.Tests.{eq-eqb}
use Rattle.image.proofs.MapTests.{above-none, above-some}
use Rattle.image.proofs.restoring.file_holds.Goals as goal

pub returns-then-size-eq1024 : goal.returns-then-size-eq1024
returns-then-size-eq1024 c = eq-eqb _ _ c.if-size-eq1024.true ∙ above-none _ _ c.args.f _ c.if-size-eq1024.true

pub returns-else-size-eq1024 : goal.returns-else-size-eq1024
returns-else-size-eq1024 c = search (above-some, rules)
