-- What a search reads, and a view of which it is read. Assumes nothing: these are definitions.
use Rattle.rules.specs.declared.State.{State}
use Rattle.rules.specs.declared.View.{View}
use Rattle.uses.specs.declared.Sight.{Sight}
use Rattle.uses.specs.Sights.{state_under, Sighted}

-- the sight is one of the view
abbrev pub Shows : Sight → View → Type 0
Shows s v = Sighted s.terms s.sizes.now s.seats.now s.cached.now s.fetching.now v

-- and this is the state that it shows
abbrev pub seen : Sight → View → State
seen s v = state_under s.terms v s.cached.now s.fetching.now
