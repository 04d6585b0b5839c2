-- Invariant: of the slots passed, no first absent page is used sooner than the best (`Soonest`).
use Rattle.std.proofs.Common.{◌≡◌, sym, arith}
use Rattle.rules.specs.Views.{state_of}
use Rattle.fetch.specs.Soonest.{Soonest}
use Rattle.fetch.proofs.Searching.{soonest-fetch, soonest-nothing}
use Rattle.fetch.proofs.next_fetch.Goals.{After-loop-slot}
use Rattle.fetch.proofs.next_fetch.Goals as goal

-- all slots
all : (c : After-loop-slot) → Soonest (state_of c.args.v c.args.cached.now c.args.fetching.now) 16 c.loop-slot.best
all c =
    let e : c.loop-slot.slot ≡ 16 = omega arith in
    rw e at c.loop-slot.invariant

pub returns-then-best-eq-NEVER : goal.returns-then-best-eq-NEVER
returns-then-best-eq-NEVER c =
    sym (soonest-nothing (state_of c.args.v c.args.cached.now c.args.fetching.now) c.requires
    c.loop-slot.best (all (goal.at.returns-then-best-eq-NEVER c).After-loop-slot) c.if-best-eq-NEVER.true)

pub returns : goal.returns
returns c =
    sym (soonest-fetch (state_of c.args.v c.args.cached.now c.args.fetching.now) c.requires
    c.loop-slot.best (all (goal.at.returns c).After-loop-slot) c.if-best-eq-NEVER.false)
