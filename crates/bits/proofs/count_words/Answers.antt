-- Invariant: the count is that of the words passed.
use Rattle.std.proofs.Common.{◌≡◌, [], ◌∷◌, ◌-◌, ◌*◌, sym, arith}
use Rattle.bits.proofs.Counts.{ones_none, ones-le, ones-words}
use Rattle.bits.proofs.count_words.Goals as goal

pub loop-i-init : goal.loop-i-init
loop-i-init g c =
    let a = c.args in
    let e : (a.first - a.first) * 64 ≡ 0 = omega arith in
    rw e (sym (ones_none _ (a.first * 64)))

pub overflow_add-n : goal.overflow_add-n
overflow_add-n g c =
    let a = c.args in
    let words = g.M.PageMap.words a.words.now in
    omega (
      arith,
      c.word_ones-n.ensures,
      ones-le words (a.first * 64) ((c.loop-i.i - a.first) * 64),
      ones-le (c.word.result ∷ []) 0 64,
    )

pub loop-i-preserved : goal.loop-i-preserved
loop-i-preserved g c =
    let a = c.args in
    let words = g.M.PageMap.words a.words.now in
    let h = rw c.word.ensures at c.word_ones-n.ensures in
    omega (arith, h, ones-words words a.first c.loop-i.i c.loop-i.auto.i)
