-- What is restored is valid, whatever the image.
use Rattle.rules.proofs.images.Images.{lent-valid}
use Rattle.image.proofs.restoring.restore_whole.Goals as goal

pub invariant_of-q : goal.invariant_of-q
invariant_of-q c = (lent-valid c.args.image.now c.type_inv.image _ c.restore_whole_in.ensures.by_rule, c.restore_whole_in.ensures.counted)
