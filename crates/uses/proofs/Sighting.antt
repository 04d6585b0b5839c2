-- What a search reads of a view is as its type wants it. Assumes nothing.
use Rattle.std.proofs.Common.{List, ℕ, ◌≤◌, ◌<◌, arith, slice_index}
use Rattle.std.proofs.lemmas.List.{get_or_past}
use native.Mathlib.Decide.{dec_lt}
use Rattle.rules.specs.Readers.{reader_at}
use Rattle.rules.specs.Valid.{Valid, ReaderIn}
use Rattle.rules.specs.declared.State.{State}
use Rattle.rules.specs.declared.View.{View}
use Rattle.rules.specs.declared.Reader.{Reader}
use Rattle.rules.specs.declared.Condition.{Condition}
use Rattle.rules.specs.declared.Condition.TheVariants.{Empty, Running, Waiting}
use Rattle.uses.specs.declared.Terms.{Terms}
use Rattle.uses.specs.declared.Seats.{Seats}
use Rattle.uses.specs.Sights.{Sighted, state_under}

-- the ghost fields of a `Sight`
pub record Sound (t : Terms) (sizes : List ℕ) (seats : Seats) : Type 0 where
  pub turn_fits : t.turn < 16
  pub sizes_fit : (f : ℕ) → slice_index sizes f ≤ 1024
  pub positions_fit : (j : ℕ) → slice_index seats.positions j ≤ 1024

position-in : (c : Condition) (s : State) (r : Reader) → Valid s → ReaderIn c s r → r.position ≤ 1024
position-in Empty s r v e = rw e (omega arith)
position-in Running s r v p = omega (arith, p.position_in, p.last_high, v.sizes_high r.file)
position-in Waiting s r v p = omega (arith, p.0.position_in, p.0.last_high, v.sizes_high r.file)

-- so it is where there is a view
pub sound : (t : Terms) (sizes : List ℕ) (seats : Seats) (cached fetching : List ℕ) (v : View) → Sighted t sizes seats cached fetching v
    → Sound t sizes seats
sound t sizes seats cached fetching v h = record {
  turn_fits = h.valid.turn_high;
  sizes_fit = λ f. rw h.sizes_are (h.valid.sizes_high f);
  positions_fit = λ j. by j (dec_lt j 16);
}
  where
    s : State
    s = state_under t v cached fetching

    by : (j : ℕ) → Dec (j < 16) → slice_index seats.positions j ≤ 1024
    by j (yes u) = rw (h.seated.position j u) (position-in (reader_at s j).condition s (reader_at s j) h.valid (h.valid.readers_in j))
    by j (no u) = rw (get_or_past seats.positions j 0 (omega (arith, h.seated.sixteen))) (omega arith)
