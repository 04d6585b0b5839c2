-- Assumes nothing. By whether the text has room for the bytes.
use Rattle.std.proofs.Common.{◌≡◌, ◌+◌, get_or, length, arith}
use Rattle.text.proofs.Keeps.{append-over, append-fits}
use Rattle.text.proofs.append.Goals as goal

pub returns-then-all-gt200 : goal.returns-then-all-gt200
returns-then-all-gt200 c = append-over _ _ c.requires (omega arith)

pub returns : goal.returns
returns c =
    let all : c.saturating_add-all.result ≡ get_or c.args.text.now 0 0 + length c.args.bytes.now = omega arith in
    rw (c.put_bytes.ensures, all) (append-fits _ _ c.requires (omega arith))
