-- Invariant: the joined words are 0 where no key from `from` up to word i is in a map.
use Rattle.std.proofs.Common.{◌≡◌, ◌*◌, ◌≤◌, eqb}
use Rattle.rules.specs.Lists.{every}
use Rattle.image.specs.Tests.{clear_at}
use Rattle.image.proofs.Clears.{up_to}
use Rattle.image.proofs.restoring.is_clear.Given as goal

abbrev pub invariant-loop-i : goal.invariant-loop-i
invariant-loop-i l = (l.from ≤ l.i * 64) × (eqb l.any 0 ≡ every (clear_at l.cached l.fetching) (up_to l.from (l.i * 64)))
