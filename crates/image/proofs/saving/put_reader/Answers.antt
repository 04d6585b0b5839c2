-- Five fields, put one after the other, are a record's bytes.
use Rattle.std.proofs.Common.{rules, ap, ◌∙◌}
use Rattle.rules.specs.Image.{field, bytes_of, condition_number}
use Rattle.rules.specs.Lists.{written}
use Rattle.image.specs.Bytes.{reader_bytes}
use Rattle.image.proofs.Puts.{written-five}
use Rattle.image.proofs.saving.put_reader.Goals as goal

pub returns : goal.returns
unfolding reader_bytes
returns c =
    let r = c.args.r in
    written-five (field 1 (condition_number r.condition)) (field 1 r.file) (field 2 r.pace) (field 2 r.position) (field 2 r.last)
    c.args.buffer.now _ _ _ _ _ c.args.at
    (c.put.ensures ∙ ap (λ n. written c.args.buffer.now c.args.at (bytes_of 1 n)) c.from.ensures)
    c.put-2.ensures c.put-3.ensures c.put-4.ensures c.put-5.ensures (search rules)
