-- By the three tests. Assumes nothing.
use Rattle.std.proofs.Common.{⊎_elim}
use Rattle.lines.proofs.Taking.{ready-short, ready-other, ready-last}
use Rattle.lines.proofs.ready.Goals as goal

pub returns-then-out-lt-ROOM : goal.returns-then-out-lt-ROOM
returns-then-out-lt-ROOM c = ⊎_elim (ready-short _ _ _ _) (λ h. ready-other _ _ _ _ h.0 h.1) c.then-out-lt-ROOM.either

pub returns : goal.returns
returns c = ready-last _ _ _ _ c.if-out-lt-ROOM.false c.if-text-ne201.false
