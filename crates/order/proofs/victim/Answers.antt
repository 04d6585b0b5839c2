-- The page of the files that are open is the box's.
use Rattle.std.proofs.Common.{refl, ◌∙◌}
use Rattle.parts.proofs.Carried.{held_high}
use Rattle.uses.specs.Sights.{Sighted}
use Rattle.uses.proofs.Sighting.{sound}
use Rattle.order.proofs.victim.Goals.{After-of}
use Rattle.order.proofs.victim.Goals as goal

-- the view as the search reads it
sighted : (c : After-of) → let a = c.args in
    Sighted c.of.result a.v.sizes c.of-seats.result a.cached.now a.fetching.now a.v
sighted c = rw c.of.ensures (record { valid = c.requires.0; seated = c.of-seats.ensures; sizes_are = refl })

pub open-files-requires : goal.open-files-requires
open-files-requires c = held_high _ _ c.requires.1

pub invariant_of-sight : goal.invariant_of-sight
invariant_of-sight c =
    let s = sound _ _ _ _ _ _ (sighted (goal.at.invariant_of-sight c).After-of) in
    record { turn_fits = s.turn_fits; sizes_fit = s.sizes_fit; positions_fit = s.positions_fit }

pub returns : goal.returns
returns c =
    let a = c.args in
    (rw c.of.ensures at c.victim_among.ensures) a.v (record { valid = c.requires.0; seated = c.of-seats.ensures; sizes_are = refl })
    ∙ c.open-files.ensures a.v a.cached.now a.fetching.now c.requires.0 c.of_view-shares.ensures c.requires.1
