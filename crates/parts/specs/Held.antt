-- How many cached pages each file has: counted once, when an image is restored, and carried beside the maps from call to call. Assumes nothing: these are
-- definitions.
use Rattle.std.specs.Prelude.{ℕ, ◌*◌, ◌<◌, ◌≡◌, List, get_or, length}
use Rattle.bits.specs.Map.{ones}

-- the array has the count of each file
pub record Held (cached held : List ℕ) : Type 0 where
  pub eight : length held ≡ 8
  pub pages : (f : ℕ) → f < 8 → get_or held f 0 ≡ ones cached (f * 1024) 1024
