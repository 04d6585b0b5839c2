-- The image stands at the front, and 0 behind it: the rule, E and R, and the marks where it has none.
use Rattle.std.proofs.Common.{◌∙◌}
use mathlib.Core.Logic.{⊎_elim}
use Rattle.image.proofs.Upgrades.{padded, unruled-upgraded}
use Rattle.image.proofs.upgrading.upgrade.Goals as goal

pub put_marks-requires : goal.put_marks-requires
put_marks-requires c =
    let old = c.if-image-eq-UNMARKED_LENGTH.true in
    (old, padded 2208 66 c.args.image.now _ c.copy_from_slice.ensures.after old)

pub returns-else-image-eq-UNMARKED_LENGTH : goal.returns-else-image-eq-UNMARKED_LENGTH
returns-else-image-eq-UNMARKED_LENGTH c =
    let image = c.args.image.now in
    let long = ⊎_elim (λ e. absurd (c.if-image-eq-UNMARKED_LENGTH.false e)) (λ e. e) c.requires in
    padded 2240 34 image _ c.copy_from_slice.ensures.after long ∙ unruled-upgraded image long
