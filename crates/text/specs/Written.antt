-- Bytes put into a buffer. Assumes nothing: these are definitions.
use Rattle.std.specs.Prelude.{ℕ, ◌+◌, ◌≡◌, List, length}
use Rattle.rules.specs.Lists.{written}

-- some bytes were put into a buffer at a place: the buffer after, and the place after them
pub record Put (before : List ℕ) (at : ℕ) (bytes after : List ℕ) (next : ℕ) : Type 0 where
  pub buffer : after ≡ written before at bytes
  pub next_is : next ≡ at + length bytes
