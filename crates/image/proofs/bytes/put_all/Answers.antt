-- Invariant: the buffer is what it was with the first k numbers put into it.
use Rattle.std.proofs.Common.{ℕ, ◌+◌, ◌*◌, List, ap, ◌∙◌}
use Rattle.rules.specs.Lists.{written}
use Rattle.rules.specs.Image.{bytes_of}
use Rattle.rules.proofs.laws.Numbers.{bytes-length}
use Rattle.image.proofs.Puts.{each_none, each_more, each_all}
use Rattle.image.proofs.bytes.put_all.Goals as goal

pub loop-k-init : goal.loop-k-init
loop-k-init g c = each_none (λ n. bytes_of g.N.Number.WIDTH (g.N.Number.value n)) _ (λ n. bytes-length _ _) _ _ c.args.numbers.now

pub loop-k-preserved : goal.loop-k-preserved
loop-k-preserved g c =
    let w : ℕ = g.N.Number.WIDTH in
    let bytes : g.row.N.Denot → List ℕ = λ n. bytes_of w (g.N.Number.value n) in
    let n = c.index-numbers-k.result in
    each_more bytes w (λ n. bytes-length _ _) _ _ _ _ _ _ n c.loop-k.invariant c.index-numbers-k.is
    (c.put.ensures ∙ ap (λ m. written c.loop-k.buffer (c.args.at + m * c.loop-k.k) (bytes n)) c.WIDTH.ensures)
    c.loop-k-test.true c.requires

pub returns : goal.returns
returns g c = each_all (λ n. bytes_of g.N.Number.WIDTH (g.N.Number.value n)) _ (λ n. bytes-length _ _) _ _ _ _ _ c.loop-k.invariant c.loop-k-test.false
