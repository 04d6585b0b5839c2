-- Each letter with its number of fields is obeyed by its rule; any other line is refused. None is an R or an I line.
use Rattle.std.proofs.Common.{◌≡◌, length, take, refl, arith, ltb-true, ltb-false}
use Rattle.rules.specs.Lines.{obeyed}
use Rattle.dispatch.proofs.Letters.{gives-told, gives-response, Asked, no-request}
use Rattle.dispatch.proofs.obey_other.Goals as goal

pub returns-in-65-len5 : goal.returns-in-65-len5
unfolding obeyed
returns-in-65-len5 c =
    let n : length (take c.args.c.now.count c.args.c.now.fields) ≡ 5 = omega arith in
    rw (c.in-65-len5.is-0, n) (gives-told _ _ _ _ _ c.attach.ensures.by_rule c.tell-in-65-len5.ensures)

pub returns-in-68-len1 : goal.returns-in-68-len1
unfolding obeyed
returns-in-68-len1 c =
    let n : length (take c.args.c.now.count c.args.c.now.fields) ≡ 1 = omega arith in
    rw (c.in-68-len1.is-0, n) (gives-told _ _ _ _ _ c.detach.ensures.by_rule c.tell-in-68-len1.ensures)

pub returns-in-88-len2 : goal.returns-in-88-len2
unfolding obeyed
returns-in-88-len2 c =
    let n : length (take c.args.c.now.count c.args.c.now.fields) ≡ 2 = omega arith in
    rw (c.in-88-len2.is-0, n) (gives-told _ _ _ _ _ c.lost.ensures c.tell-in-88-len2.ensures)

pub returns-in-80-empty : goal.returns-in-80-empty
unfolding obeyed
returns-in-80-empty c =
    let n : length (take c.args.c.now.count c.args.c.now.fields) ≡ 0 = omega arith in
    rw (c.in-80-empty.is-0, n) (gives-told _ _ _ _ _ c.prefetch.ensures c.tell-in-80-empty.ensures)

pub returns-in-84-empty : goal.returns-in-84-empty
unfolding obeyed
returns-in-84-empty c =
    let n : length (take c.args.c.now.count c.args.c.now.fields) ≡ 0 = omega arith in
    rw (c.in-84-empty.is-0, n) (gives-told _ _ _ _ _ c.steal.ensures c.tell-in-84-empty.ensures)

pub returns-in-78-len1 : goal.returns-in-78-len1
unfolding obeyed
returns-in-78-len1 c =
    let n : length (take c.args.c.now.count c.args.c.now.fields) ≡ 1 = omega arith in
    rw (c.in-78-len1.is-0, n) (gives-told _ _ _ _ _ c.run.ensures.by_rule c.tell-in-78-len1.ensures)

pub returns-in-83-default : goal.returns-in-83-default
returns-in-83-default c = rw c.in-83-default.is-0 (gives-response _ _ _ _ _ c.set_up.ensures c.tell.ensures)

pub returns-in-76-empty : goal.returns-in-76-empty
unfolding obeyed
returns-in-76-empty c =
    let n : length (take c.args.c.now.count c.args.c.now.fields) ≡ 0 = omega arith in
    rw (c.in-76-empty.is-0, n) c.show_order.ensures

pub returns-in-81-empty : goal.returns-in-81-empty
unfolding obeyed
returns-in-81-empty c =
    let n : length (take c.args.c.now.count c.args.c.now.fields) ≡ 0 = omega arith in
    rw (c.in-81-empty.is-0, n) c.show_order-in-81-empty.ensures

pub returns-in-67-len1 : goal.returns-in-67-len1
unfolding obeyed
returns-in-67-len1 c =
    let n : length (take c.args.c.now.count c.args.c.now.fields) ≡ 1 = omega arith in
    rw (c.in-67-len1.is-0, n) c.show_clusters.ensures

pub returns-in_default : goal.returns-in_default
returns-in_default c =
    let unasked : Asked c.args.c.now.letter (length (take c.args.c.now.count c.args.c.now.fields)) → ⊥ = λ a. grind (arith, ltb-true, ltb-false) in
    rw (no-request _ _ _ unasked) (record { state_is = refl; line = c.tell-in_default.ensures })
