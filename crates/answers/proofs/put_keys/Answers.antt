-- One key more has room, and is written behind the others.
use Rattle.std.proofs.Common.{◌+◌, ◌≤◌, ◌≡◌, [], ◌∷◌, get_or, length, refl, sym, subst, arith, rules, take_all}
use Rattle.rules.specs.Lists.{each}
use Rattle.rules.specs.Lines.{field_of, pair_of}
use Rattle.text.specs.Written.{Put}
use Rattle.answers.proofs.Rows.{pair_fields, keys-fields, each-none, each-room, each-put, count-room, behind-room, behind-put}
use Rattle.answers.proofs.put_keys.Goals.{After-put_line-at, After-page_of-page}
use Rattle.answers.proofs.put_keys.Goals as goal

-- there is room for all keys behind the count
keys-room : (c : After-put_line-at) → c.put_line-at.result + length (each pair_fields c.args.keys.now) ≤ length c.put_line-at.new.out
keys-room c =
    let room = rw keys-fields at (behind-room _ _ _ (each pair_of c.args.keys.now) c.requires.1 _ _ c.put_line-at.ensures) in
    omega (arith, room)

pub put_line-at-requires : goal.put_line-at-requires
put_line-at-requires c = count-room _ _ _ (each pair_of c.args.keys.now) c.requires.1

pub loop-key-init : goal.loop-key-init
loop-key-init c = each-none pair_fields c.args.keys.now _ _

-- the two numbers are the key's
pair : (c : After-page_of-page) → c.from-file.result ∷ c.page_of-page.result ∷ [] ≡ pair_of (get_or c.args.keys.now c.loop-key.key-index 0)
pair c = rw (c.from-file.ensures, c.file_of.ensures, c.page_of-page.ensures) refl

pub put_fields-at-requires : goal.put_fields-at-requires
put_fields-at-requires c =
    let l = c.loop-key in
    let room = keys-room (goal.at.put_fields-at-requires c).After-put_line-at in
    subst (λ p. l.at + length (each field_of p) ≤ length l.out) (sym (pair (goal.at.put_fields-at-requires c).After-page_of-page))
    (each-room pair_fields c.args.keys.now _ _ _ _ l.key-index c.loop-key-test.true room l.invariant (search rules))

pub loop-key-preserved : goal.loop-key-preserved
loop-key-preserved c =
    let l = c.loop-key in
    let room = keys-room (goal.at.loop-key-preserved c).After-put_line-at in
    each-put pair_fields c.args.keys.now _ _ _ _ l.key-index c.loop-key-test.true room l.invariant _ _
    (subst (λ p. Put l.out l.at (each field_of p) c.put_fields-at.new.out c.put_fields-at.result) (pair (goal.at.loop-key-preserved c).After-page_of-page)
    c.put_fields-at.ensures)

pub returns : goal.returns
returns c =
    let all = rw (take_all c.loop-key.key-index c.args.keys.now c.loop-key-test.false, ← keys-fields c.args.keys.now) at c.loop-key.invariant in
    behind-put _ _ _ (each pair_of c.args.keys.now) c.requires.1 _ _ c.put_line-at.ensures _ _ all
