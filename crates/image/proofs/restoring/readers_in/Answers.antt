-- Invariant: the first records are those of the image, the others as they were, and their conditions are known.
use Rattle.std.proofs.Common.{◌≡◌, refl, arith}
use Rattle.std.proofs.lemmas.Result.{err_from_is_err_and}
use Rattle.rules.specs.Image.{reader_from, image_numbers}
use Rattle.image.specs.Tests.{known_condition}
use Rattle.image.proofs.Fills.{filled_more, filled-all}
use Rattle.image.proofs.Checks.{every-none, every_more, every-stop}
use Rattle.image.proofs.restoring.readers_in.Goals as goal

pub loop-slot-init : goal.loop-slot-init
loop-slot-init c = record { read-so = refl; known = every-none _ }

pub loop-slot-preserved : goal.loop-slot-preserved
loop-slot-preserved c =
    let numbers = image_numbers c.args.image.now in
    let h = c.in_ok-r.ensures in
    record {
      read-so = filled_more (reader_from numbers) 16 _ _ _ _ c.loop-slot.invariant.read-so h.1 c.loop-slot-test.true refl;
      known = every_more (known_condition numbers) _ c.loop-slot.invariant.known h.0;
    }

pub returns-in_err-r : goal.returns-in_err-r
returns-in_err-r c =
    rw (err_from_is_err_and c.from_residual.result c.from_residual.ensures.1).1
    (every-stop (known_condition (image_numbers c.args.image.now)) _ 16 c.loop-slot-test.true c.in_err-r.ensures)

pub returns : goal.returns
returns c =
    let numbers = image_numbers c.args.image.now in
    let all : c.loop-slot.slot ≡ 16 = omega arith in (
      rw all at c.loop-slot.invariant.known,
      filled-all (reader_from numbers) 16 _ _ _ c.loop-slot.invariant.read-so c.loop-slot-test.false refl,
    )
