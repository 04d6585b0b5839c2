-- What is restored is valid, whatever the image.
use Rattle.std.proofs.Common.{sym, ap, subst}
use Rattle.rules.specs.Valid.{Valid}
use Rattle.rules.proofs.images.Images.{restored-valid}
use Rattle.image.proofs.upgrading.restore.Goals as goal

pub invariant_of-q : goal.invariant_of-q
invariant_of-q c =
    let r = c.restore_in.ensures in
    (subst Valid (sym (ap (λ q. q.state) r.by_rule)) (restored-valid c.args.image.now (λ i. (c.type_inv.image i).fits)), r.counted)
