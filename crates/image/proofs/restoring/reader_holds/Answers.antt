-- A record is tested as its condition asks.
use Rattle.std.proofs.Common.{[], refl}
use Rattle.image.proofs.Checks.{on, off}
use Rattle.image.proofs.Slots.{holds-empty, holds-running, holds-waiting, placed-file, placed-last}
use Rattle.image.proofs.restoring.reader_holds.Goals as goal

pub reader_awaits-requires : goal.reader_awaits-requires
reader_awaits-requires c =
    let placed = c.reader_placed-in-Waiting in (
      placed-file c.args.sizes.now [] c.args.r.now _ placed.ensures c.if-reader_placed.true,
      placed-last c.args.sizes.now [] c.args.r.now _ placed.ensures c.if-reader_placed.true c.requires,
    )

pub returns-in-Empty : goal.returns-in-Empty
returns-in-Empty c = holds-empty _ _ c.args.r.now _ c.in-Empty.is c.is_blank.ensures

pub returns-in-Running : goal.returns-in-Running
returns-in-Running c = holds-running _ _ c.args.r.now _ c.in-Running.is c.reader_placed.ensures

pub returns-then-reader_placed : goal.returns-then-reader_placed
returns-then-reader_placed c =
    holds-waiting _ _ c.args.r.now _ c.in-Waiting.is (on _ _ _ _ c.reader_placed-in-Waiting.ensures c.if-reader_placed.true c.reader_awaits.ensures)

pub returns-else-reader_placed : goal.returns-else-reader_placed
returns-else-reader_placed c =
    holds-waiting _ _ c.args.r.now _ c.in-Waiting.is (off _ _ _ _ c.reader_placed-in-Waiting.ensures c.if-reader_placed.false refl)
