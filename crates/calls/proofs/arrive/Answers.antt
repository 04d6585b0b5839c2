-- The page that arrives was in fetch, and so not cached; the one that gives up its frame is; and the rule keeps a valid state valid.
use Rattle.std.proofs.Common.{arith, sym, ap, ◌∙◌}
use Rattle.std.proofs.lemmas.Grind.{common_steps}
use Rattle.rules.specs.Calls.{for_fetch, dropped, landed, arrive_of}
use Rattle.rules.specs.Entries.{arrive}
use Rattle.rules.specs.Views.{state_of}
use Rattle.state.proofs.Kept.{kept-by}
use Rattle.calls.proofs.Choices.{dropped-has}
use Rattle.calls.proofs.Frames.{fetch-clear}
use Rattle.calls.proofs.arrive.Goals as goal

pub put_in-requires-clause-key_bound : goal.put_in-requires-clause-key_bound
put_in-requires-clause-key_bound c =
    let i = c.q.inside in
    (grind (arith, common_steps), fetch-clear (state_of i.view i.cached i.fetching) c.q.invariant.0 c.in-Ok.key (grind (arith, common_steps)))

pub put_in-requires-clause-cached_len : goal.put_in-requires-clause-cached_len
put_in-requires-clause-cached_len c = (
  c.q.invariant.0.cached_map.all,
  dropped-has (state_of c.q.inside.view c.q.inside.cached c.q.inside.fetching) c.q.invariant.0 _
      (c.give_up-gone.ensures ∙ ap dropped (sym c.q.view_is)),
)

pub invariant_of-q : goal.invariant_of-q
unfolding arrive_of for_fetch landed
invariant_of-q c = (kept-by (arrive c.args.file c.args.page) _ _ c.arrival.result (grind (arith, common_steps)) c.q.invariant.0, c.put_in.ensures.counted)
