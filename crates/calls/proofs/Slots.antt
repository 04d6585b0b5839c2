-- Read can look at every record of a valid state. Assumes nothing.
use Prim.Native.Nat.{ℕ, ◌≤◌}
use native.Mathlib.Omega.{arith}
use Rattle.rules.specs.Pages.{size}
use Rattle.rules.specs.Valid.{Valid, Placed, ReaderIn}
use Rattle.rules.specs.Readers.{reader_at}
use Rattle.rules.specs.declared.State.{State}
use Rattle.rules.specs.declared.Reader.{Reader}
use Rattle.rules.specs.declared.Condition.{Condition}
use Rattle.rules.specs.declared.Condition.TheVariants.{Empty, Running, Waiting}
use Rattle.calls.specs.Inner.{Readable}

-- a placed record can be looked at
placed-in : (s : State) (r : Reader) → ((f : ℕ) → size s f ≤ 1024) → Placed s r → Readable r
placed-in s r high p = (p.file_high, p.position_in, omega (arith, p.last_high, high r.file))

-- so can one that is as its condition has it
in-file : (c : Condition) (s : State) (r : Reader) → ((f : ℕ) → size s f ≤ 1024) → ReaderIn c s r → Readable r
in-file Empty s r high e = rw e (omega arith, omega arith, omega arith)
in-file Running s r high p = placed-in s r high p
in-file Waiting s r high p = placed-in s r high p.0

-- and every record of a valid state
pub readable : (s : State) → Valid s → (j : ℕ) → Readable (reader_at s j)
readable s v j = in-file (reader_at s j).condition s (reader_at s j) v.sizes_high (v.readers_in j)
