-- The slots that a call does not name. Assumes nothing: these are definitions.
use Rattle.std.specs.Prelude.{ℕ, ◌≡◌, ◌≢◌}
use Rattle.rules.specs.Readers.{reader_at, mark_at}
use Rattle.rules.specs.declared.State.{State}

-- every slot but this one has the record and the mark that it had
abbrev pub OthersStay : State → ℕ → State → Type 0
OthersStay s slot t = (j : ℕ) → j ≢ slot → (reader_at t j ≡ reader_at s j) × (mark_at t j ≡ mark_at s j)
