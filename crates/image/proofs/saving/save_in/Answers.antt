-- A short buffer is refused and left; in any other the image is its first bytes, and those after it are left.
use Rattle.std.proofs.Common.{length}
use borrow.Author.Tests.{lt-ltb, le-ltb}
use Rattle.rules.specs.Image.{save_of, image_length}
use Rattle.image.proofs.saving.save_in.Goals as goal

pub returns-then-buffer-lt-IMAGE_LENGTH : goal.returns-then-buffer-lt-IMAGE_LENGTH
unfolding save_of
returns-then-buffer-lt-IMAGE_LENGTH c = rw (lt-ltb (length c.args.buffer.now) image_length c.if-buffer-lt-IMAGE_LENGTH.true)

pub returns : goal.returns
unfolding save_of
returns c = rw (le-ltb (length c.args.buffer.now) image_length c.if-buffer-lt-IMAGE_LENGTH.false, c.save_whole_in.ensures)
