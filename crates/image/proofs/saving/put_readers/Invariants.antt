-- Invariant: the buffer is what it was with the first records put into it.
use Rattle.std.proofs.Common.{◌≡◌, take}
use Rattle.rules.specs.Lists.{each, written}
use Rattle.image.specs.Bytes.{reader_bytes}
use Rattle.image.proofs.saving.put_readers.Given as goal

abbrev pub invariant-loop-slot : goal.invariant-loop-slot
invariant-loop-slot l = l.buffer ≡ written l.initial.buffer l.at (each reader_bytes (take l.slot l.readers))
