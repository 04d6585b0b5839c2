-- The parts, put one after the other, are the image.
use Rattle.image.proofs.Saves.{written-image}
use Rattle.image.proofs.saving.save_whole_in.Goals as goal

pub returns : goal.returns
returns c =
    written-image _ c.requires.0 c.args.buffer.now _ _ _ _ _ _ _ c.requires.1
    c.put_settings.ensures c.put_all.ensures c.put_readers.ensures c.put.ensures c.put_all-2.ensures c.put_all-3.ensures c.put_tail.ensures
