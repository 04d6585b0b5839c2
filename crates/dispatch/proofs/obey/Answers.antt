-- An R line and an I line are obeyed by their rules, and no other line is one.
use Rattle.std.proofs.Common.{◌≡◌, length, take, arith}
use Rattle.rules.specs.Lines.{obeyed}
use Rattle.dispatch.proofs.Letters.{gives-told}
use Rattle.dispatch.proofs.obey.Goals as goal

pub returns-in-82-len1 : goal.returns-in-82-len1
unfolding obeyed
returns-in-82-len1 c =
    let n : length (take c.args.c.now.count c.args.c.now.fields) ≡ 1 = omega arith in
    rw (c.in-82-len1.is-0, n) (gives-told _ _ _ _ _ c.read.ensures.by_rule c.tell.ensures)

pub returns-in-73-len2 : goal.returns-in-73-len2
unfolding obeyed
returns-in-73-len2 c =
    let n : length (take c.args.c.now.count c.args.c.now.fields) ≡ 2 = omega arith in
    rw (c.in-73-len2.is-0, n) (gives-told _ _ _ _ _ c.arrive.ensures c.tell-in-73-len2.ensures)
