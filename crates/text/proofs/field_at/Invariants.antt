-- Assumes nothing. At each turn the bytes from `from` to i are digits, of the value held.
use Prim.Native.Char.{code as ascii}
use Rattle.text.specs.Commands.{Digits}
use Rattle.text.proofs.Pieces.{Walked}
use Rattle.text.proofs.field_at.Given as goal

abbrev pub invariant-loop-i : goal.invariant-loop-i
invariant-loop-i l = Walked (ascii ",") l.line l.from l.i × Digits l.line l.from l.i l.value
