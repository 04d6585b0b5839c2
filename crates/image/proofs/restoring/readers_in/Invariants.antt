-- Invariant: the first records are those of the image, the others as they were, and their conditions are known.
use Rattle.std.proofs.Common.{◌≡◌, true}
use Rattle.rules.specs.Lists.{range, every}
use Rattle.rules.specs.Image.{reader_from, image_numbers}
use Rattle.image.specs.Tests.{known_condition}
use Rattle.image.proofs.Fills.{filled}
use Rattle.image.proofs.restoring.readers_in.Given as goal

abbrev pub invariant-loop-slot : goal.invariant-loop-slot
invariant-loop-slot l = record {
  read-so : l.r-items ≡ filled (reader_from (image_numbers l.image)) 16 l.slot l.initial.r-items;
  known : every (known_condition (image_numbers l.image)) (range 0 l.slot) ≡ true;
}
