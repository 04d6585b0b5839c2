-- One of the two lists, into a list that is long enough.
use Rattle.std.proofs.Common.{◌≡◌, subst, rules}
use Rattle.rules.specs.Listings.{keys_in}
use Rattle.answers.specs.Responses.{order_of, Front}
use Rattle.answers.proofs.Shown.{steal-front, fetch-front, keys-counted}
use Rattle.answers.proofs.list_order.Goals.{in-Steal, in-Fetch}
use Rattle.rules.specs.Valid.{Valid}
use Rattle.answers.proofs.list_order.Goals as goal

pub returns : goal.returns
returns c =
    let s = c.args.q.now in
    let v = subst Valid c.q.view_is c.q.invariant.0 in
    let listed : Front (order_of c.args.order s) c.match-order.keys (keys_in c.match-order.listed) = elim c.match-order.branch [
      | in-Steal w ↦ rw (w.in-Steal.is, w.keys-is, w.listed-is) (steal-front s v _ _ c.requires _ w.steal_list-listed.ensures)
      | in-Fetch w ↦ rw (w.in-Fetch.is, w.keys-is, w.listed-is) (fetch-front s v _ _ c.requires _ w.fetch_list-listed.ensures)
    ] in
    let n : c.map_or.result ≡ keys_in c.match-order.listed = keys-counted c.match-order.listed c.map_or.result (search rules) in
    rw n listed
