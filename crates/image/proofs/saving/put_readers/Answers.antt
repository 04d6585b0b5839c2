-- Invariant: the buffer is what it was with the first records put into it.
use Rattle.std.proofs.Common.{rules, ℕ, ◌≡◌, ◌<◌, get_or, length, arith}
use Rattle.std.proofs.lemmas.List.{get_or_default}
use Rattle.rules.specs.Readers.{no_reader}
use Rattle.image.specs.Bytes.{reader_bytes}
use Rattle.image.proofs.Puts.{each_none, each_more, reader-wide}
use Rattle.image.proofs.saving.put_readers.Goals as goal

pub loop-slot-init : goal.loop-slot-init
loop-slot-init c = each_none reader_bytes 8 reader-wide _ _ c.args.readers.now

pub loop-slot-preserved : goal.loop-slot-preserved
loop-slot-preserved c =
    let readers = c.args.readers.now in
    let slot : ℕ = c.loop-slot.slot in
    let long : length readers ≡ 16 = search rules in
    let less : slot < length readers = omega (arith, long, c.loop-slot-test.true) in
    each_more reader_bytes 8 reader-wide c.args.buffer.now c.loop-slot.buffer c.put_reader.new.buffer c.args.at slot readers (get_or readers slot no_reader)
    c.loop-slot.invariant (get_or_default readers slot _ _ less) c.put_reader.ensures less (search rules)
