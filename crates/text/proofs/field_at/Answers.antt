-- Assumes nothing. At each turn the bytes from `from` to i are digits, of the value held.
use Rattle.std.proofs.Common.{◌≡◌, length, sym, ◌∙◌, arith}
use Rattle.text.proofs.Pieces.{walked_none, walked_more}
use Rattle.text.proofs.Decimals.{digits-start, digits_step, field-last, field-comma, field-bad}
use Rattle.text.proofs.field_at.Goals as goal

pub loop-i-init : goal.loop-i-init
loop-i-init c = (walked_none _ _ _, digits-start _ _ c.requires)

pub returns-then-b-eq44 : goal.returns-then-b-eq44
returns-then-b-eq44 c =
    c.field_of.ensures ∙ field-comma _ _ _ _ c.loop-i.invariant.1 c.loop-i.invariant.0 c.loop-i-test.true c.if-b-eq44.true

pub returns-in_err-value : goal.returns-in_err-value
returns-in_err-value c =
    c.from_residual.ensures
    ∙ field-bad _ _ _ _ c.loop-i.invariant.1 c.loop-i.invariant.0 c.loop-i-test.true c.if-b-eq44.false (sym c.grown.ensures ∙ c.in_err-value.was)

pub loop-i-preserved : goal.loop-i-preserved
loop-i-preserved c =
    let h = c.loop-i-test.true in (
      walked_more _ _ _ _ c.loop-i.invariant.0 h c.if-b-eq44.false,
      digits_step _ _ _ _ c.loop-i.invariant.1 _ h (sym c.grown.ensures ∙ c.in_ok-value.was),
    )

pub returns : goal.returns
returns c =
    let end : c.loop-i.i ≡ length c.args.line.now = omega arith in
    c.field_of-2.ensures ∙ rw end at (field-last _ _ _ _ c.loop-i.invariant.1 c.loop-i.invariant.0 c.loop-i-test.false)
