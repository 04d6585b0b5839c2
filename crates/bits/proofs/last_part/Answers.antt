-- The last set bit of a part of one word.
use Rattle.std.proofs.Common.{[], ◌∷◌, ◌*◌, ◌/◌, ◌%◌, get_or, sym, ◌∙◌, arith}
use Rattle.bits.proofs.Bits.{whole_same}
use Rattle.bits.proofs.Finds.{last-is, last-same}
use Rattle.bits.proofs.last_part.Goals as goal

pub returns-then-m-eq0 : goal.returns-then-m-eq0
returns-then-m-eq0 c =
    let a = c.args in
    omega (arith, (last-is a.words.now (a.end / 64 * 64) (a.end % 64)).high)

pub returns : goal.returns
returns c =
    let a = c.args in
    let i = a.end / 64 in
    c.last_one.ensures
    ∙ sym (last-same a.words.now (i * 64) (get_or a.words.now i 0 ∷ []) 0 (a.end % 64)
    (whole_same a.words.now i (a.end % 64) (omega arith)))
