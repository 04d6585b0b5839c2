-- Invariant: the numbers passed are stored.
use Rattle.std.proofs.Common.{◌≡◌, length, take}
use Rattle.calls.proofs.stored.Given as goal

abbrev pub invariant-loop-file : goal.invariant-loop-file
invariant-loop-file l = (length l.kept ≡ 8) × (take l.file l.kept ≡ take l.file l.numbers)
