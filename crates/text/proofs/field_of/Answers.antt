-- Assumes nothing. By the bytes: none, a zero in front of others, one digit, more.
use Rattle.std.proofs.Common.{◌≡◌, ℕ, ◌+◌, ◌<◌, get_or, length-take, length-drop, arith}
use Rattle.text.proofs.Decimals.{first-byte, field-none, field-one, field-zero, field-more}
use Rattle.text.proofs.field_of.Goals as goal

pub returns-in-empty : goal.returns-in-empty
returns-in-empty c = field-none _ _ _ _ c.requires (omega (arith, length-take {A = ℕ}, length-drop {A = ℕ}, c.requires.order, c.requires.inside))

pub returns-in-48 : goal.returns-in-48
returns-in-48 c =
    let more : c.args.from + 1 < c.args.to = omega (arith, length-take {A = ℕ}, length-drop {A = ℕ}, c.requires.order, c.requires.inside) in
    let zero : get_or c.args.line.now c.args.from 0 ≡ 48 = omega (arith, first-byte _ _ _ _ c.requires (omega arith)) in
    field-zero _ _ _ _ c.requires more zero

pub returns-in_default : goal.returns-in_default
returns-in_default c = field-one _ _ _ _ c.requires (omega (arith, length-take {A = ℕ}, length-drop {A = ℕ}, c.requires.order, c.requires.inside))

pub returns-in_default-2 : goal.returns-in_default-2
returns-in_default-2 c =
    let more : c.args.from + 1 < c.args.to = omega (arith, length-take {A = ℕ}, length-drop {A = ℕ}, c.requires.order, c.requires.inside) in
    field-more _ _ _ _ c.requires more (λ e. omega (arith, first-byte _ _ _ _ c.requires (omega arith)))
