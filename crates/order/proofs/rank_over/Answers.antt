-- Invariant: the number kept is what the readers asked leave of the page's rank (`Swept`). Measure: the place reached, down the queue.
use Rattle.std.proofs.Common.{refl, ℕ, ◌+◌, ◌-◌, ◌/◌, ◌%◌, ◌≡◌, arith, slice_index}
use Rattle.rules.specs.Pages.{page_of}
use Rattle.rules.specs.declared.View.{View}
use Rattle.uses.specs.Sights.{Sits}
use Rattle.uses.specs.Shown.{Shows, seen}
use Rattle.uses.specs.Queueing.{Has}
use Rattle.order.specs.Searches.{HasShort}
use Rattle.order.proofs.Sweeps.{last-is, pace_is, stands-before, swept_none, swept-past, swept-more, swept_all}
use Rattle.order.proofs.rank_over.Goals.{Then-floor-top, Then-page-seats}
use Rattle.order.proofs.rank_over.Goals as goal

-- the turn's reader, by its number
abbrev index : Then-floor-top → ℕ
index c = c.loop-at.at - 1

abbrev number : Then-floor-top → ℕ
number c = slice_index c.args.queue.now.numbers (index c)

next : (c : Then-floor-top) → c.loop-at.at ≡ index c + 1
next c = omega (arith, c.loop-at-test.true)

queued : (c : Then-floor-top) → Has c.args.queue.now (number c)
queued c = (index c, omega (arith, c.loop-at-test.true), omega (arith, c.loop-at-test.true, c.loop-at.invariant.1), refl)

-- it has the page before it
sits : (c : Then-page-seats) (v : View) → let a = c.args in
    let x = number (goal.at.Then-page-seats c).Then-floor-top in
    Shows a.sight.now v → HasShort v.readers (a.key / 1024) (page_of a.key) a.queue.now
    → Sits v (x % 16) (x / 16) (slice_index a.sight.now.seats.now.paces (x % 16)) a.key
sits c v h p =
    let a = c.args in
    let t = (goal.at.Then-page-seats c).Then-floor-top in
    let s = seen a.sight.now v in
    let seats = a.sight.now.seats.now in record {
      ahead =
          stands-before s h.valid seats h.seated (a.key / 1024) (page_of a.key) a.queue.now p c.requires.1 (number t) (queued t) a.key refl (omega arith)
          (omega (arith, c.if-page-seats.true, c.loop-at.invariant.0));
      position_is = (p.sits (number t) (queued t)).1;
      pace_is = pace_is s h.valid seats h.seated (a.key / 1024) (page_of a.key) a.queue.now p c.requires.1 (number t) (queued t);
    }

pub loop-at-init : goal.loop-at-init
loop-at-init c = (refl, omega arith, λ v h p a. swept_none (seen c.args.sight.now v) c.args.key c.args.queue.now.numbers c.args.queue.now.end a)

pub loop-at-preserved-then-page-seats : goal.loop-at-preserved-then-page-seats
loop-at-preserved-then-page-seats c =
    let a = c.args in
    let q = a.queue.now in
    let l = c.loop-at in
    let t = (goal.at.loop-at-preserved-then-page-seats c).Then-floor-top in (
      refl,
      omega (arith, l.invariant.1),
      λ v h p b.
          swept-more (seen a.sight.now v) a.key q.numbers q.end l.at (index t) l.top (next t) (l.invariant.2 v h p b) _
          (c.lowered-top.ensures v h (sits (goal.at.loop-at-preserved-then-page-seats c).Then-page-seats v h p)),
    )

pub loop-at-preserved : goal.loop-at-preserved
loop-at-preserved c =
    let a = c.args in
    let q = a.queue.now in
    let l = c.loop-at in
    let t = (goal.at.loop-at-preserved c).Then-floor-top in (
      refl,
      omega (arith, l.invariant.1),
      λ v h p b.
          let s = seen a.sight.now v in
          let last = last-is s h.valid a.sight.now.seats.now h.seated (a.key / 1024) (page_of a.key) q p c.requires.1 (number t) (queued t) in
          swept-past s a.key q.numbers q.end l.at (index t) l.top (next t) (l.invariant.2 v h p b)
          (omega (arith, c.if-page-seats.false, l.invariant.0, last)),
    )

pub returns-after-loop-at : goal.returns-after-loop-at
returns-after-loop-at c = λ v h p b.
    let a = c.args in
    let l = c.loop-at in
    let all = l.invariant.2 v h p b in
    record {
      bound = all.bound;
      exact = λ _. swept_all (seen a.sight.now v) a.key a.queue.now l.at l.top (omega (arith, c.loop-at-test.false)) h.valid b p all;
    }
