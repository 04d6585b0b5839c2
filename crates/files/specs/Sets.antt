-- Sets of files. Assumes nothing: these are definitions.
use Rattle.std.specs.Prelude.{ℕ, ◌≤◌, ◌<◌, Bool, T, eqb}
use Rattle.bits.specs.Map.{digit}
use Rattle.files.specs.declared.FileSet.{FileSet}

-- the files of a set: the digits of its word
abbrev pub in_set : FileSet → ℕ → Bool
in_set files f = eqb (digit files.0 f) 1

-- no file from a to before b is of the set
abbrev pub NoFile : (ℕ → Bool) → ℕ → ℕ → Type 0
NoFile files a b = (f : ℕ) → a ≤ f → f < b → T (files f) → ⊥
