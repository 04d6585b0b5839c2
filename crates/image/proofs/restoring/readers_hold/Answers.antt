-- The records are tested one after the other.
use Rattle.std.proofs.Common.{rules, refl, ◌∙◌}
use Rattle.std.proofs.lemmas.Iterator.{YieldsList-from_slice}
use Rattle.std.proofs.lemmas.Iterator.Search.{all_from_yields_List}
use Rattle.rules.specs.Image.{reader_holds}
use Rattle.parts.specs.Files.{sized_with}
use Rattle.image.proofs.Checks.{every-list}
use Rattle.image.proofs.restoring.readers_hold.Goals as goal

pub returns : goal.returns
returns c =
    let P = reader_holds (sized_with c.args.sizes.now c.args.fetching.now) in
    all_from_yields_List P _ _ _ c.all.ensures.ran (YieldsList-from_slice c.args.readers.now cc) (λ x b q k. search rules)
    ∙ every-list P P (λ _. refl) c.args.readers.now
