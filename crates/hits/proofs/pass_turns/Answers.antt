-- A slot's reader gets no further than its file's end, and what it reads is the slot's part.
use Rattle.std.proofs.Common.{◌≡◌, arith}
use Rattle.rules.proofs.laws.Leasts.{total-none, total-more}
use Rattle.calls.proofs.Slots.{readable}
use Rattle.hits.specs.Hits.{reads_of}
use Rattle.hits.proofs.Slots.{advanced-more}
use Rattle.hits.proofs.pass_turns.Goals as goal

pub loop-slot-init : goal.loop-slot-init
loop-slot-init c = record {
  small = omega arith;
  counted = total-none _;
  advanced = record { long = c.told-positions; moved = λ j l. absurd (omega arith) };
}

pub loop-slot-preserved : goal.loop-slot-preserved
loop-slot-preserved c =
    let slot = c.loop-slot.slot in
    let a = c.loop-slot.invariant in
    let its : c.pages_read-pages.result ≡ reads_of c.args.v.now c.args.turns slot = rw (← c.seat.ensures) c.pages_read-pages.ensures in
    let r = readable _ c.requires.by_index.2 slot in
    record {
      small = omega (arith, r, c.pages_read-pages.ensures);
      counted = total-more _ slot c.loop-slot.reads _ a.counted its;
      advanced = advanced-more _ _ slot _ _ c.loop-slot-test.true a.advanced its;
    }
