-- Assumes nothing. At each turn the bytes from `from` to i hold no line end.
use Prim.Native.Char.{code as ascii}
use Rattle.std.proofs.Common.{◌≤◌, max, length}
use Rattle.text.proofs.Pieces.{Walked}
use Rattle.text.proofs.line_end.Given as goal

abbrev pub invariant-loop-i : goal.invariant-loop-i
invariant-loop-i l = Walked (ascii "\n") l.chunk l.from l.i × (l.i ≤ max (length l.chunk) l.from)
