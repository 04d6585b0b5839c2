-- Invariant: the joined words are 0 where no key of the first i words is in both maps.
use Rattle.std.proofs.Common.{◌≡◌, ◌*◌, eqb}
use Rattle.rules.specs.Lists.{every}
use Rattle.image.specs.Tests.{apart_at}
use Rattle.image.proofs.Clears.{up_to}
use Rattle.image.proofs.restoring.is_apart.Given as goal

abbrev pub invariant-loop-i : goal.invariant-loop-i
invariant-loop-i l = eqb l.both 0 ≡ every (apart_at l.cached l.fetching) (up_to 0 (l.i * 64))
