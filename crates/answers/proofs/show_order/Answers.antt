-- The order is listed, then written as pairs, then its line end.
use Rattle.std.proofs.Common.{refl, subst, arith}
use Rattle.rules.specs.Valid.{Valid}
use Rattle.answers.specs.Responses.{letter_of}
use Rattle.answers.proofs.Shown.{order-few, order-line}
use Rattle.answers.proofs.Replies.{line-ended}
use Rattle.answers.proofs.show_order.Goals as goal

pub put_keys-at-requires : goal.put_keys-at-requires
put_keys-at-requires c =
    let s = c.args.q.now in
    let v = subst Valid c.q.view_is c.q.invariant.0 in
    rw c.list_order-n.ensures.is (order-few s v c.args.order, omega (arith, order-line s v c.letter.result c.args.order))

pub put_byte-requires : goal.put_byte-requires
put_byte-requires c =
    let s = c.args.q.now in
    let v = subst Valid c.q.view_is c.q.invariant.0 in
    let put = rw c.list_order-n.ensures.is at c.put_keys-at.ensures in
    omega (arith, put.next_is, order-line s v c.letter.result c.args.order)

pub returns : goal.returns
returns c =
    let s = c.args.q.now in
    let v = subst Valid c.q.view_is c.q.invariant.0 in
    let put = rw (c.list_order-n.ensures.is, c.letter.ensures) at c.put_keys-at.ensures in
    record { state_is = refl; line = line-ended _ _ _ _ _ _ put c.put_byte.ensures (omega (arith, order-line s v (letter_of c.args.order) c.args.order)) }
