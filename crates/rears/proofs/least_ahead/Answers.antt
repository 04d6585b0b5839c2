-- Invariant: the least position of the slots passed, the first s, that have a reader of the file with the page before it; the others are left. Measure:
-- those left.
use Rattle.std.proofs.Common.{◌≡◌, List, ℕ, ◌+◌, ◌≤◌, ◌<◌, T, arith, slice_index}
use Rattle.rules.specs.Readers.{reader_in, reads_file}
use Rattle.rules.specs.declared.Reader.{Reader}
use Rattle.uses.specs.Seats.{Seated}
use Rattle.uses.proofs.Seating.{Left, NoneBefore, popped-low, popped-none, popped-left, popped-reads, popped-between, left-none, reach-is}
use Rattle.rears.proofs.Rearing.{least-none, least-past, least-nearer, least-all}
use Rattle.rears.proofs.least_ahead.Goals.{In-Some}
use Rattle.rears.proofs.least_ahead.Goals as goal

pub loop-slot-init : goal.loop-slot-init
loop-slot-init c = (
  0,
  λ j l. absurd (omega arith),
  omega arith,
  omega arith,
  λ readers h. (λ j l u. h.slots c.args.file j c.requires u, least-none readers c.args.file c.args.page),
)

-- the slot taken out: what stands before it, and what is left
low : (c : In-Some) → c.loop-slot.invariant.0 ≤ c.in-Some.slot
low c = popped-low c.loop-slot.invariant.0 c.in-Some.slot _ _ c.in-Some.ensures c.loop-slot.invariant.1

none-before : (c : In-Some) → NoneBefore (c.in-Some.slot + 1) c.pop.new.self
none-before c = popped-none c.loop-slot.invariant.0 c.in-Some.slot _ _ c.in-Some.ensures c.loop-slot.invariant.1

module _ (c : In-Some) (readers : List Reader) (h : Seated readers 16 c.args.sight.now.seats.now) where
  abbrev s : ℕ
  s = c.loop-slot.invariant.0

  abbrev slot : ℕ
  slot = c.in-Some.slot

  here : Left readers c.args.file s c.loop-slot.left
  here = (c.loop-slot.invariant.4 readers h).0

  left : Left readers c.args.file (slot + 1) c.pop.new.self
  left = popped-left s slot _ _ c.in-Some.ensures c.loop-slot.invariant.1 readers c.args.file here

  reads : T (reads_file c.args.file (reader_in readers slot))
  reads = popped-reads s slot _ _ c.in-Some.ensures c.loop-slot.invariant.1 readers c.args.file here

  between : (j : ℕ) → s ≤ j → j < slot → T (reads_file c.args.file (reader_in readers j)) → ⊥
  between = popped-between s slot _ _ c.in-Some.ensures c.loop-slot.invariant.1 readers c.args.file here

  last : slice_index c.args.sight.now.seats.now.lasts slot ≡ (reader_in readers slot).last
  last = reach-is readers c.args.sight.now.seats.now h c.args.file slot c.in-Some.ensures.low reads

pub loop-slot-preserved-then-page-seats : goal.loop-slot-preserved-then-page-seats
loop-slot-preserved-then-page-seats c =
    let i = c.loop-slot.invariant in
    let p = c.in-Some.ensures in
    let t = (goal.at.loop-slot-preserved-then-page-seats c).In-Some in (
      c.in-Some.slot + 1,
      none-before t,
      omega (arith, p.low),
      omega (arith, i.3, c.min-least.ensures),
      λ readers h. (
        left t readers h,
        rw (c.min-least.ensures, h.position c.in-Some.slot p.low)
            (least-nearer readers c.args.file c.args.page i.0 c.in-Some.slot c.loop-slot.least (low t) p.low (reads t readers h) (between t readers h)
            (i.4 readers h).1
            (omega (arith, last t readers h, c.if-page-seats.true))),
      ),
    )

pub loop-slot-preserved : goal.loop-slot-preserved
loop-slot-preserved c =
    let i = c.loop-slot.invariant in
    let p = c.in-Some.ensures in
    let t = (goal.at.loop-slot-preserved c).In-Some in (
      c.in-Some.slot + 1,
      none-before t,
      omega (arith, p.low),
      i.3,
      λ readers h. (
        left t readers h,
        least-past readers c.args.file c.args.page i.0 c.in-Some.slot c.loop-slot.least (low t) p.low (reads t readers h) (between t readers h)
            (i.4 readers h).1
            (omega (arith, last t readers h, c.if-page-seats.false)),
      ),
    )

pub returns : goal.returns
returns c =
    let l = c.loop-slot in
    let i = l.invariant in record {
      least = λ readers h.
          let r = i.4 readers h in
          least-all readers c.args.file c.args.page i.0 l.least i.2 (left-none readers c.args.file i.0 l.left c.in_default.ensures r.0) r.1;
      low = i.3;
    }
