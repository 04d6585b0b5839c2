-- The numbers are tested one after the other.
use Rattle.std.proofs.Common.{rules, leb, ◌∙◌}
use Rattle.std.proofs.lemmas.Iterator.{YieldsList-from_slice}
use Rattle.std.proofs.lemmas.Iterator.Search.{all_from_yields_List}
use Rattle.image.proofs.Checks.{high-within, every-list}
use Rattle.image.proofs.restoring.eight_hold.Goals as goal

pub returns : goal.returns
returns c =
    all_from_yields_List (λ n. leb n c.args.high) _ _ _ c.all.ensures.ran (YieldsList-from_slice c.args.numbers.now cc) (λ x b q k. search rules)
    ∙ every-list _ _ (high-within c.args.high) c.args.numbers.now
