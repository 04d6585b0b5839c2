-- What `Valid` says of a slot's reader. Assumes nothing.
use mathlib.Core.Bool.{true, false}
use Prim.Native.Nat.{ℕ}
use lib.Dec.{T}
use Rattle.rules.specs.Readers.{reader_at, attached, by_condition}
use Rattle.rules.specs.Valid.{Valid, Placed, ReaderIn}
use Rattle.rules.specs.declared.State.{State}
use Rattle.rules.specs.declared.Reader.{Reader}
use Rattle.rules.specs.declared.Condition.{Condition}
use Rattle.rules.specs.declared.Condition.TheVariants.{Empty, Running, Waiting}

placed-in : (c : Condition) (s : State) (r : Reader) → ReaderIn c s r → T (by_condition c false true true) → Placed s r
placed-in Empty s r h a = absurd a
placed-in Running s r h a = h
placed-in Waiting s r h a = h.0

-- an attached reader is placed in its file
pub placed_at : (s : State) → Valid s → (j : ℕ) → T (attached (reader_at s j)) → Placed s (reader_at s j)
placed_at s v j = placed-in (reader_at s j).condition s (reader_at s j) (v.readers_in j)
