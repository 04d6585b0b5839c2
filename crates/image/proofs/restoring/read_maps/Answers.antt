-- Each map is read in its place.
use Rattle.std.proofs.Common.{◌∙◌}
use Rattle.image.proofs.States.{cached-read, fetching_read}
use Rattle.image.proofs.restoring.read_maps.Goals as goal

pub returns : goal.returns
returns c =
    let image = c.args.image.now in (
      rw c.told-cached at c.get_all.ensures ∙ cached-read image,
      rw c.told-fetching at c.get_all-2.ensures ∙ fetching_read image,
    )
