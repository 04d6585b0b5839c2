-- Invariant: the first k numbers are those of the image, the others as they were.
use Rattle.std.proofs.Common.{ℕ, ◌+◌, ◌*◌, refl, ap, ◌∙◌}
use Rattle.image.specs.Bytes.{number_at, number_from}
use Rattle.image.proofs.Fills.{filled_more, filled-all}
use Rattle.image.proofs.bytes.get_all.Goals as goal

pub loop-k-preserved : goal.loop-k-preserved
loop-k-preserved g c =
    let w : ℕ = g.N.Number.WIDTH in
    let a = c.args in
    filled_more (λ k. g.N.Number.of (number_from w a.image.now a.at k)) _ _ _ _ _ c.loop-k.invariant
    (c.get.ensures ∙ ap (λ m. g.N.Number.of (number_at w a.image.now (a.at + m * c.loop-k.k))) c.WIDTH.ensures)
    c.loop-k-test.true refl

pub returns : goal.returns
returns g c =
    let a = c.args in
    filled-all (λ k. g.N.Number.of (number_from g.N.Number.WIDTH a.image.now a.at k)) _ _ _ _ c.loop-k.invariant c.loop-k-test.false refl
