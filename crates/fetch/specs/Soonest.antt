-- What the search for the next fetch keeps: the best page so far, with the key that a slot has for it. Assumes nothing: this is a definition.
use Rattle.std.specs.Prelude.{ℕ, ◌≤◌, ◌<◌, T}
use Rattle.rules.specs.UseTimes.{never, use_key}
use Rattle.rules.specs.Orders.{wanted}
use Rattle.rules.specs.Ranks.{NoneBelow}
use Rattle.rules.specs.declared.State.{State}
use Rattle.uses.specs.declared.Pick.{Pick}

-- the page kept, if any, is wanted, and no first absent page of the first m slots is used sooner
pub record Soonest (s : State) (m : ℕ) (p : Pick) : Type 0 where
  pub low : p.value ≤ never
  pub page : p.value < never → T (wanted s p.key)
  pub its : p.value < never → use_key s p.key ≤ p.value
  pub below : NoneBelow s m p.value
