-- The page to give up is cached and counted, and the rule keeps a valid state valid.
use Rattle.std.proofs.Common.{arith, rules}
use Rattle.std.proofs.lemmas.Grind.{common_steps}
use Rattle.rules.specs.Calls.{steal_of}
use Rattle.rules.specs.Entries.{steal}
use Rattle.rules.specs.declared.Answer.TheVariants.{Stolen}
use Rattle.parts.proofs.Carried.{held-some}
use Rattle.state.proofs.Kept.{kept-by}
use Rattle.calls.proofs.Choices.{victim-has}
use Rattle.calls.proofs.steal.Goals as goal

pub clear_bit-requires : goal.clear_bit-requires
clear_bit-requires c = (victim-has _ c.q.invariant.0 _ c.victim.ensures _ c.in-Some.is).0

pub page_out-requires : goal.page_out-requires
page_out-requires c =
    let there = victim-has _ c.q.invariant.0 _ c.victim.ensures _ c.in-Some.is in
    (there.0, c.q.invariant.1.eight, held-some _ _ c.q.invariant.1 _ there.0 (search rules) there.1)

pub invariant_of-q : goal.invariant_of-q
unfolding steal_of
invariant_of-q c =
    let there = victim-has _ c.q.invariant.0 _ c.victim.ensures _ c.in-Some.is in (
      kept-by steal _ _ (Stolen c.file_of.result c.page_of.result) (grind (arith, common_steps)) c.q.invariant.0,
      rw c.clear_bit.ensures (c.page_out.ensures _ c.q.invariant.1 there.1 (search rules)),
    )
