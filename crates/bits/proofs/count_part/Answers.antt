-- The ones of a part of one word.
use Rattle.std.proofs.Common.{[], ◌∷◌, ℕ, ◌%◌, sym, ap, ◌∙◌}
use Rattle.bits.specs.Map.{ones}
use Rattle.bits.proofs.Counts.{ones_none, ones-part}
use Rattle.bits.proofs.count_part.Goals as goal

pub returns-then-n-eq0 : goal.returns-then-n-eq0
returns-then-n-eq0 g c = rw c.if-n-eq0.true (sym (ones_none _ c.args.from))

pub returns : goal.returns
returns g c =
    let a = c.args in
    c.part_ones.ensures
    ∙ ap (λ (w : ℕ). ones (w ∷ []) (a.from % 64) a.n) c.word.ensures
    ∙ sym (ones-part (g.M.PageMap.words a.words.now) a.from a.n c.requires.0)
