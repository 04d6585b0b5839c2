-- Assumes nothing.
use Rattle.text.proofs.Decimals.{grown-other, grown-over, grown-within}
use Rattle.text.proofs.grown.Goals as goal

pub returns-then-not-is_ascii_digit : goal.returns-then-not-is_ascii_digit
returns-then-not-is_ascii_digit c = grown-other _ _ c.if-not-is_ascii_digit.ensures.value

pub returns-then-more-gt4294967295 : goal.returns-then-more-gt4294967295
returns-then-more-gt4294967295 c = grown-over _ _ c.if-not-is_ascii_digit.ensures.value (rw c.from.ensures at c.if-more-gt4294967295.true)

pub returns-else-more-gt4294967295 : goal.returns-else-more-gt4294967295
returns-else-more-gt4294967295 c =
    rw c.from.ensures (grown-within _ _ c.if-not-is_ascii_digit.ensures.value (rw c.from.ensures at c.if-more-gt4294967295.false))
