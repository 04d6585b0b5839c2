-- The files are tested one after the other.
use Rattle.std.proofs.Common.{rules, refl, ◌∙◌}
use Rattle.std.proofs.lemmas.Iterator.{YieldsList-from_range}
use Rattle.std.proofs.lemmas.Iterator.Search.{all_from_yields_List}
use Rattle.image.specs.Tests.{size_holds}
use Rattle.image.proofs.Checks.{every-range}
use Rattle.image.proofs.restoring.files_hold.Goals as goal

pub returns : goal.returns
returns c =
    let P = size_holds c.args.sizes.now c.args.cached.now c.args.fetching.now in
    all_from_yields_List P _ _ _ c.all.ensures.ran (YieldsList-from_range 0 8 8 refl refl) (λ x b q k. search rules) ∙ every-range P 0 8
