-- The page to fetch is a page.
use Rattle.calls.proofs.Choices.{next_low}
use Rattle.calls.proofs.prefetch_in.Goals as goal

pub set_bit-requires : goal.set_bit-requires
set_bit-requires c = next_low _ c.requires _ c.next_fetch.ensures _ c.in-Some.is
