-- The keys end before the next word's start, or are cut there and at the last word's start, and the parts counted one after the other.
use Rattle.std.proofs.Common.{◌≡◌, ◌+◌, ◌-◌, ◌*◌, ◌%◌, ◌≤◌, arith}
use Rattle.bits.specs.Map.{ones}
use Rattle.bits.proofs.Counts.{ones-le, ones_cut}
use Rattle.bits.proofs.count.Goals.{After-count_words}
use Rattle.bits.proofs.count.Goals as goal

-- the three parts
cut : (g : _) → (c : After-count_words g) →
    let a = c.args in
    let words = g.M.PageMap.words a.words.now in
    ones words a.from a.n ≡ c.count_part-2.result + c.count_words.result + ones words (a.from + a.n - (a.from + a.n) % 64) ((a.from + a.n) % 64)
cut g c =
    let a = c.args in
    let first = c.div_ceil-first.result in
    let l : a.from ≤ first * 64 = omega arith in
    let m : first * 64 ≤ a.from + a.n = omega arith in
    omega (arith, ones_cut (g.M.PageMap.words a.words.now) a.from a.n first l m)

pub overflow_add-result : goal.overflow_add-result
overflow_add-result g c = omega (arith, cut g c, ones-le (g.M.PageMap.words c.args.words.now) c.args.from c.args.n)

pub overflow_add-result-2 : goal.overflow_add-result-2
overflow_add-result-2 g c =
    omega (arith, cut g (goal.at.overflow_add-result-2 g c).After-count_words, ones-le (g.M.PageMap.words c.args.words.now) c.args.from c.args.n)

pub returns : goal.returns
returns g c = omega (arith, cut g (goal.at.returns g c).After-count_words)
