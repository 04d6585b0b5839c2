-- Five fields, put one after the other, are the settings' bytes.
use Rattle.std.proofs.Common.{rules}
use Rattle.rules.specs.Image.{field}
use Rattle.image.proofs.Puts.{written-five}
use Rattle.image.proofs.saving.put_settings.Goals as goal

pub returns : goal.returns
returns c =
    let v = c.args.v.now in
    written-five (field 2 v.frames) (field 1 v.turn) (field 1 0) (field 4 v.look_ahead) (field 4 v.fetch_time) c.args.buffer.now _ _ _ _ _ 0
    c.put.ensures c.put-2.ensures c.put-3.ensures c.put-4.ensures c.put-5.ensures (search rules)
