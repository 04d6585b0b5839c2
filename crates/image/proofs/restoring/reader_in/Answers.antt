-- The numbers of a slot, each read in its place, make its record.
use Rattle.std.proofs.lemmas.Result.{err_from_is_err_and}
use Rattle.image.proofs.States.{condition-told, condition-unknown, condition-known, reader-read}
use Rattle.image.proofs.restoring.reader_in.Goals as goal

pub returns-in_err-condition : goal.returns-in_err-condition
returns-in_err-condition c =
    rw (err_from_is_err_and c.from_residual.result c.from_residual.ensures.1).1
    (condition-unknown _ _ _ c.requires.1 c.get.ensures c.in_err-condition.ensures)

pub returns : goal.returns
returns c =
    let number = c.in_ok-condition.ensures in (
      condition-known _ _ _ c.requires.1 c.get.ensures _ number,
      reader-read _ _ _ c.requires.1 c.get.ensures _ _ _ _ _ (condition-told _ _ number) c.get-2.ensures c.get-3.ensures c.get-4.ensures c.get-5.ensures,
    )
