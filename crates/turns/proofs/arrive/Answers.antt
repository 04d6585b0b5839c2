-- What goes is chosen and makes room, and the page is put in: that is the rule's Arrive.
use Rattle.uses.proofs.Sighting.{sound}
use Rattle.calls.proofs.Choices.{dropped-has}
use Rattle.turns.proofs.Arrivals.{arriving-low, arriving-clear, arrives, kept-arrived}
use Rattle.turns.proofs.arrive.Goals as goal

pub invariant_of-sight : goal.invariant_of-sight
invariant_of-sight c =
    let s = sound _ _ _ _ _ _ c.requires.coming.1.sighted in
    record { turn_fits = s.turn_fits; sizes_fit = s.sizes_fit; positions_fit = s.positions_fit }

pub put_in-requires-clause-key_bound : goal.put_in-requires-clause-key_bound
put_in-requires-clause-key_bound c =
    let g = c.requires.coming.1 in
    rw c.page_key-key.ensures (arriving-low _ _ _ _ _ _ _ _ _ _ g, arriving-clear _ _ _ _ _ _ _ _ _ _ g)

pub put_in-requires-clause-cached_len : goal.put_in-requires-clause-cached_len
put_in-requires-clause-cached_len c =
    let g = c.requires.coming.1 in
    (c.told-cached, dropped-has _ g.sighted.valid c.give_up-gone.result (c.give_up-gone.ensures _ g.sighted g.shares_are g.kept).0)

pub forget_arrived-requires : goal.forget_arrived-requires
forget_arrived-requires c =
    let g = c.requires.coming.1 in
    let has = dropped-has _ g.sighted.valid c.give_up-gone.result (c.give_up-gone.ensures _ g.sighted g.shares_are g.kept).0 in
    (rw c.page_key-key.ensures (arriving-low _ _ _ _ _ _ _ _ _ _ g), λ k e. (has k e).0)

pub returns-clause-by_rule : goal.returns-clause-by_rule
returns-clause-by_rule c = λ w g.
    let chose = c.give_up-gone.ensures w g.sighted g.shares_are g.kept in
    let put = rw c.page_key-key.ensures at c.put_in.ensures in
    record {
      told = arrives _ _ _ _ _ _ _ _ _ _ g _ chose.0 _ _ put.cached_after put.still _ c.arrival.ensures;
      kept = kept-arrived _ _ _ _ _ _ _ _ _ _ g _ chose.0 _ _ put.cached_after put.still _ _ (rw c.page_key-key.ensures at c.forget_arrived.ensures) chose.1;
    }
