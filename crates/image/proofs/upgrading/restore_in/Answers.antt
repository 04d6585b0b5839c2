-- An image of either older length is restored as what it is upgraded to, any other as it is.
use Rattle.image.proofs.Upgrades.{restore-other, restore-older}
use Rattle.image.proofs.upgrading.restore_in.Goals as goal

pub returns-then-image-eq-UNMARKED_LENGTH : goal.returns-then-image-eq-UNMARKED_LENGTH
returns-then-image-eq-UNMARKED_LENGTH c =
    record {
      by_rule = restore-older c.args.image.now _ _ c.upgrade.ensures c.restore_whole_in.ensures.by_rule;
      counted = c.restore_whole_in.ensures.counted;
    }

pub returns : goal.returns
returns c =
    let other = restore-other c.args.image.now _ c.if-image-eq-UNMARKED_LENGTH.false c.if-image-eq-UNRULED_LENGTH.false in
    record { by_rule = other c.restore_whole_in-2.ensures.by_rule; counted = c.restore_whole_in-2.ensures.counted }
