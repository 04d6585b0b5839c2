-- What the walks of the slots leave: a table of use keys, a map of the pages ahead and one of the pages in a look-ahead. Assumes nothing: these are
-- definitions.
use Rattle.std.specs.Prelude.{ℕ, ◌<◌, ◌≡◌, List, get_or}
use Rattle.bits.specs.Map.{on}
use Rattle.rules.specs.UseTimes.{use_key, ahead, seen}
use Rattle.rules.specs.declared.State.{State}

-- by all, page by page the rules' own: a map of the pages ahead of a reader and a table of the use keys, from which every rank can be told
pub record Keyed (s : State) (before-some table : List ℕ) : Type 0 where
  pub ahead_is : (k : ℕ) → on before-some k ≡ ahead s k
  pub use_is : (k : ℕ) → k < 8192 → get_or table k 0 ≡ use_key s k

-- a map of the pages in a look-ahead
abbrev pub InLookAhead : State → List ℕ → Type 0
InLookAhead s words = (k : ℕ) → on words k ≡ seen s k
