-- Invariant: the count is that of the words passed.
use Rattle.std.proofs.Common.{◌≡◌, ◌-◌, ◌*◌}
use Rattle.bits.specs.Map.{ones}
use Rattle.bits.proofs.count_words.Given as goal

abbrev pub invariant-loop-i : goal.invariant-loop-i
invariant-loop-i g l = l.n ≡ ones (g.M.PageMap.words l.words) (l.first * 64) ((l.i - l.first) * 64)
