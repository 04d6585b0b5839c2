-- One number more has room, and is written behind the others.
use Rattle.std.proofs.Common.{arith, rules}
use Rattle.rules.specs.Lines.{field_of}
use Rattle.answers.proofs.Rows.{each-none, each-room, each-put}
use Rattle.answers.proofs.put_fields.Goals as goal

pub loop-n-init : goal.loop-n-init
loop-n-init c = each-none field_of c.args.numbers.now _ _

pub put_field-at-requires : goal.put_field-at-requires
put_field-at-requires c =
    let l = c.loop-n in
    rw c.from.ensures (
      omega (arith, c.type_inv.numbers l.n-index),
      each-room field_of c.args.numbers.now _ _ _ _ l.n-index c.loop-n-test.true c.requires l.invariant (search rules),
    )

pub loop-n-preserved : goal.loop-n-preserved
loop-n-preserved c =
    let l = c.loop-n in
    each-put field_of c.args.numbers.now _ _ _ _ l.n-index c.loop-n-test.true c.requires l.invariant _ _ (rw c.from.ensures at c.put_field-at.ensures)
