-- The numbers, each read in its place, make the state but its maps.
use Rattle.std.proofs.lemmas.Result.{err_from_is_err_and}
use Rattle.image.proofs.States.{rule-told, conditions-unknown, rule-unknown, rule-known, view-read}
use Rattle.image.proofs.restoring.view_in.Goals as goal

pub returns-in_err-readers : goal.returns-in_err-readers
returns-in_err-readers c =
    rw (err_from_is_err_and c.from_residual.result c.from_residual.ensures.1).1 (conditions-unknown c.args.image.now c.in_err-readers.ensures)

pub returns-in_err-rule : goal.returns-in_err-rule
returns-in_err-rule c =
    rw (err_from_is_err_and c.from_residual-in_err-rule.result c.from_residual-in_err-rule.ensures.1).1
    (rule-unknown c.args.image.now _ c.get.ensures c.in_err-rule.ensures)

pub returns : goal.returns
returns c =
    let image = c.args.image.now in
    let known = c.in_ok-readers.ensures in
    let number = c.in_ok-rule.ensures in (
      rule-known image _ _ c.get.ensures number known.0,
      view-read image _ _ _ _ _ _ _ _ _ _ _ c.get-2.ensures c.get-3.ensures c.get-4.ensures c.get-5.ensures
          c.numbers_in.ensures known.1 c.numbers_in-2.ensures
          c.get.ensures (rule-told _ _ number) c.numbers_in-3.ensures c.numbers_in-4.ensures,
    )
