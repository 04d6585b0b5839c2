-- Assumes nothing. At each turn the fields before `at` are read, and a comma or the line's end is there.
use Rattle.std.proofs.Common.{◌<◌, sym, ◌∙◌, arith}
use Rattle.text.proofs.Asks.{starts-some, parsed-start, parsed-step, parsed-bad, parsed-full, parsed-on, parsed-all, parsed-long, parsed-unlettered}
use Rattle.text.proofs.parse.Goals as goal

pub returns-then-line-gt200 : goal.returns-then-line-gt200
returns-then-line-gt200 c = sym (parsed-long _ c.if-line-gt200.true)

pub returns-then-not-starts_well : goal.returns-then-not-starts_well
returns-then-not-starts_well c = sym (parsed-unlettered _ (sym c.starts_well.ensures ∙ c.if-not-starts_well.true))

pub returns-then-count-eq11 : goal.returns-then-count-eq11
returns-then-count-eq11 c = sym (parsed-full _ _ _ _ c.loop-at.invariant c.loop-at-test.true c.if-count-eq11.true)

pub returns-in_err-value : goal.returns-in_err-value
returns-in_err-value c =
    c.from_residual.ensures ∙ sym (parsed-bad _ _ _ _ c.loop-at.invariant c.loop-at-test.true (sym c.field_at.ensures ∙ c.in_err-value.was))

pub loop-at-init : goal.loop-at-init
loop-at-init c = parsed-start _ (sym c.starts_well.ensures ∙ c.if-not-starts_well.false)

pub loop-at-smaller : goal.loop-at-smaller
loop-at-smaller c =
    let on : c.loop-at.at < c.in_ok-value.field-0.next = parsed-on _ _ _ (sym c.field_at.ensures ∙ c.in_ok-value.was) in
    omega arith

pub loop-at-preserved : goal.loop-at-preserved
loop-at-preserved c =
    parsed-step _ _ _ _ c.loop-at.invariant c.loop-at-test.true _ c.if-count-eq11.false (sym c.field_at.ensures ∙ c.in_ok-value.was)

pub bounds-line-0 : goal.bounds-line-0
bounds-line-0 c = starts-some _ (sym c.starts_well.ensures ∙ c.if-not-starts_well.false)

pub returns : goal.returns
returns c =
    sym (parsed-all _ _ _ _ c.loop-at.invariant c.loop-at-test.false c.if-line-gt200.false (sym c.starts_well.ensures ∙ c.if-not-starts_well.false))
