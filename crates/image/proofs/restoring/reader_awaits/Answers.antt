-- A reader at its last page awaits none; any other awaits the page after its position.
use Rattle.std.proofs.Common.{eqb, ap, ◌∙◌}
use borrow.Author.Tests.{lt-ltb, le-ltb}
use Rattle.bits.specs.Map.{bit}
use Rattle.rules.specs.Readers.{awaits}
use Rattle.rules.proofs.laws.Cases.{and-pass}
use Rattle.parts.proofs.Tests.{not-both}
use Rattle.image.proofs.restoring.reader_awaits.Goals as goal

pub returns-then-r : goal.returns-then-r
unfolding awaits
returns-then-r c =
    and-pass _ _ _ (lt-ltb _ _ c.if-r.true) (c.has_bit.ensures ∙ ap (λ k. eqb (bit c.args.fetching.now k) 1) c.next_key.ensures)

pub returns-else-r : goal.returns-else-r
unfolding awaits
returns-else-r c = not-both _ _ (le-ltb _ _ c.if-r.false)
