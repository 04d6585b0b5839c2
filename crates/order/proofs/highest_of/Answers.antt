-- Invariant: no cached page of the file past page n ranks higher than the best (`Raised`), and the readers short of page n are queued. Measure: page n and
-- the end of the queue, neither of which rises.
use Rattle.std.proofs.Common.{IsTrue, false, refl, ℕ, ◌+◌, ◌-◌, ◌*◌, ◌≡◌, ◌≤◌, ◌<◌, arith}
use Rattle.std.proofs.lemmas.Bool.{false≢true}
use native.Mathlib.Decide.{dec_lt}
use Rattle.bits.proofs.Finds.{last-is}
use Rattle.rules.specs.Pages.{file_of, page_of}
use Rattle.rules.specs.declared.View.{View}
use Rattle.uses.specs.declared.Queue.{Queue}
use Rattle.uses.specs.Shown.{Shows, seen}
use Rattle.order.specs.Searches.{HasShort, Looked}
use Rattle.order.proofs.Sweeps.{has-all, has-fewer, has-shortened, all-short}
use Rattle.order.proofs.Searching.{last-cached, raised-start, raised-last, is-ahead, raised-higher, raised-high, raised_all}
use Rattle.order.proofs.highest_of.Goals.{After-shorten_to, In-Some}
use Rattle.order.proofs.highest_of.Goals as goal

-- the page found
abbrev page : After-shorten_to → ℕ
page c = c.last_set-n.result

page_low : (c : After-shorten_to) → page c ≤ c.loop-queue.n
page_low c = omega (arith, c.last_set-n.ensures, (last-is c.args.sight.now.cached.now (c.args.file * 1024) c.loop-queue.n).high)

-- the readers short of it are queued, and no cached page past it ranks higher than the best
looked : (c : After-shorten_to) (v : View) → Shows c.args.sight.now v
    → HasShort v.readers c.args.file (page c) c.shorten_to.new.self
    × Looked (seen c.args.sight.now v) c.args.file (page c) c.args.kept c.loop-queue.best
looked c v h =
    let a = c.args in
    let l = c.loop-queue in
    let i = l.invariant.1 v h in (
      has-shortened v.readers a.file l.n (page c) l.queue c.shorten_to.new.self (page_low c) c.shorten_to.ensures i.0,
      λ files o free r. raised-last (seen a.sight.now v) files a.file a.kept l.n l.best (i.1 files o free r) (page c) c.last_set-n.ensures,
    )

-- a queue that is not empty
some-left : (q : Queue) → (q.first ≡ q.end → IsTrue false) → q.first < q.end
some-left q h = by (dec_lt q.first q.end)
  where
    by : Dec (q.first < q.end) → q.first < q.end
    by (yes l) = l
    by (no l) = absurd (false≢true (h (omega (arith, q.bounded))))

-- ---- where some reader is short of it

abbrev found : In-Some → After-shorten_to
found c = (goal.at.In-Some c).After-shorten_to

-- the nearest of them
near : (c : In-Some) → c.in-Some.position < page (found c)
near c = omega (arith, c.in-Some.ensures.1, c.shorten_to.ensures.short c.in-Some.ensures.0)

-- the page's key
abbrev key : In-Some → ℕ
key c = c.args.file * 1024 + page (found c) - 1

key-is : (c : In-Some) → (file_of (key c) ≡ c.args.file) × (page_of (key c) ≡ page (found c)) × (key c < 8192)
key-is c =
    let l = page_low (found c) in
    let n = c.loop-queue.invariant.0 in
    let s = near c in
    let f = c.requires in
    (omega arith, omega arith, omega arith)

pub loop-queue-init : goal.loop-queue-init
loop-queue-init c = (
  omega arith,
  λ v h. (
    has-all v.readers c.args.file 1024 _ (c.add_readers.ensures v.readers h.seated),
    λ files o free r. raised-start (seen c.args.sight.now v) files c.args.file _ r,
  ),
)

pub overflow_add-file : goal.overflow_add-file
overflow_add-file c = omega (arith, page_low (goal.at.overflow_add-file c).After-shorten_to, c.loop-queue.invariant.0, c.requires)

pub higher-best-requires : goal.higher-best-requires
higher-best-requires c =
    let t = (goal.at.higher-best-requires c).In-Some in
    ((key-is t).2, rw (key-is t).1 (all-short (page (found t)) _ _ c.shorten_to.ensures))

pub loop-queue-smaller-in-Some : goal.loop-queue-smaller-in-Some
loop-queue-smaller-in-Some c =
    let t = (goal.at.loop-queue-smaller-in-Some c).In-Some in
    omega (arith, near t, page_low (found t), c.shorten_to.ensures.low)

pub loop-queue-preserved-in-Some : goal.loop-queue-preserved-in-Some
loop-queue-preserved-in-Some c =
    let a = c.args in
    let l = c.loop-queue in
    let t = (goal.at.loop-queue-preserved-in-Some c).In-Some in
    let f = found t in
    let q = c.shorten_to.new.self in
    let k = key-is t in (
      omega (arith, near t, page_low f, l.invariant.0),
      λ v h.
          let s = seen a.sight.now v in
          let so_far = looked f v h in (
            has-fewer v.readers a.file (page f) _ q (omega (arith, near t)) so_far.0,
            λ files o free r.
                let here = last-cached s a.file l.n _ c.last_set-n.ensures (omega (arith, near t)) in
                let ahead = is-ahead s files a.file o (key t) here k.0 free in
                rw (c.higher-best.ensures v h (rw (k.0, k.1) so_far.0) ahead)
                (raised-higher s files a.file a.kept h.valid (key t) (page f) _ k.2 k.1 k.0 here l.best (so_far.1 files o free r) q so_far.0
                (λ x (i, m, u, e). omega (arith, e, c.in-Some.ensures.1, q.rising i (q.end - 1) m (omega arith) (omega arith))) o),
          ),
    )

pub loop-queue-smaller : goal.loop-queue-smaller
loop-queue-smaller c =
    omega (
      arith,
      page_low (goal.at.loop-queue-smaller c).After-shorten_to,
      c.in_default.ensures,
      c.shorten_to.ensures.begins,
      some-left c.loop-queue.queue (c.loop-queue-test.ensures.1),
    )

pub loop-queue-preserved : goal.loop-queue-preserved
loop-queue-preserved c =
    let f = (goal.at.loop-queue-preserved c).After-shorten_to in
    (omega (arith, page_low f, c.loop-queue.invariant.0), looked f)

pub returns-else-best-n : goal.returns-else-best-n
returns-else-best-n c = λ v h files o free r.
    let l = c.loop-queue in
    raised-high (seen c.args.sight.now v) files c.args.file _ l.n l.best ((l.invariant.1 v h).1 files o free r) free o c.if-best-n.false

pub returns-after-loop-queue : goal.returns-after-loop-queue
returns-after-loop-queue c = λ v h files o free r.
    let l = c.loop-queue in
    raised_all (seen c.args.sight.now v) files c.args.file _ l.n l.best ((l.invariant.1 v h).1 files o free r) free o l.queue (l.invariant.1 v h).0
    (c.loop-queue-test.ensures.0 refl)
