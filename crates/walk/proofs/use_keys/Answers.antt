-- Invariant: the slots before this one are passed.
use Rattle.std.proofs.Common.{◌≡◌, ◌∙◌, sym, arith}
use Rattle.rules.specs.Views.{state_of}
use Rattle.rules.specs.declared.State.{State}
use Rattle.rules.proofs.orders.Local.{maps-present}
use Rattle.walk.proofs.Slots.{passed-none, passed-empty, passed-more, keyed-all, counts-all}
use Rattle.walk.proofs.Words.{spanned-small}
use Rattle.walk.proofs.use_keys.Goals.{Start, then-is_attached, else-is_attached}
use Rattle.walk.proofs.use_keys.Goals as goal

abbrev at : Start → State
at c = state_of c.args.v c.args.cached.now c.args.fetching.now

pub loop-slot-init : goal.loop-slot-init
loop-slot-init c =
    let s = at (goal.at.loop-slot-init c).Start in
    let p = c.requires.blank in
    let e = c.default-tally.ensures in
    rw (p.0, p.1, p.2, e.0, e.1) (passed-none s)

pub set_bits-requires-then-is_attached : goal.set_bits-requires-then-is_attached
set_bits-requires-then-is_attached c =
    let o = c.of-course.ensures c.args.cached.now c.args.fetching.now in
    omega (arith, o.from_is, o.file_high, o.position_in, o.last_high)

pub overflow_add-tally-then-is_attached : goal.overflow_add-tally-then-is_attached
overflow_add-tally-then-is_attached c =
    omega (arith, c.loop-slot.invariant.words_few, c.walk_words-n.ensures.words, spanned-small c.of-course.result.from c.walk_words-n.result.tested)

pub loop-slot-preserved : goal.loop-slot-preserved
loop-slot-preserved c =
    let s = at (goal.at.loop-slot-preserved c).Start in
    let a = c.args in
    let l = c.loop-slot in
    elim c.if-is_attached.branch [
      | then-is_attached w ↦
          let o = w.of-course.ensures a.cached.now a.fetching.now in
          let n = w.walk_words-n in
          rw (w.ahead-is, w.seen-is, w.table-is, w.tally-is)
          (passed-more s l.slot c.requires.valid l.ahead l.seen l.table l.tally.tested l.tally.words l.invariant
          (omega arith) w.of-course.result o n.result.tested n.ensures.few _ _ _ (n.ensures.walked s l.slot o (maps-present s))
          n.result.words n.ensures.words w.set_bits-then-is_attached.ensures w.set_bits.ensures)
      | else-is_attached w ↦
          rw (w.ahead-is, w.seen-is, w.table-is, w.tally-is)
          (passed-empty s l.slot c.requires.valid l.ahead l.seen l.table l.tally.tested l.tally.words l.invariant
          (sym c.is_attached.ensures ∙ w.if-is_attached.false))
    ]

pub returns : goal.returns
returns c =
    let s = at (goal.at.returns c).Start in
    let l = c.loop-slot in
    let e : l.slot ≡ 16 = omega arith in
    let p = rw e at l.invariant in
    let all = keyed-all s l.ahead l.seen l.table l.tally.tested l.tally.words p in
    let counts = counts-all s l.ahead l.seen l.table l.tally.tested l.tally.words p in record {
      few = (omega (arith, p.pages_few), omega (arith, p.words_few));
      report = counts.0;
      words = counts.1;
      keyed = all.0;
      seen = all.1;
    }
