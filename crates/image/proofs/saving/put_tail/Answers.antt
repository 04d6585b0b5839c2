-- The parts, put one after the other, are the tail.
use Rattle.std.proofs.Common.{rules, ap, ◌∙◌}
use Rattle.rules.specs.Image.{bytes_of}
use Rattle.rules.specs.Lists.{written}
use Rattle.image.proofs.Saves.{written-tail}
use Rattle.image.proofs.saving.put_tail.Goals as goal

pub returns : goal.returns
returns c =
    written-tail _ _ _ _ (search rules) (search rules) (search rules) c.args.buffer.now _ _ _ _ _ c.requires
    c.put_all.ensures (c.put.ensures ∙ ap (λ n. written c.put_all.new.buffer _ (bytes_of 1 n)) c.from.ensures) c.put-2.ensures
    c.put_all-2.ensures c.put_all-3.ensures
