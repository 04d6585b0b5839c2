-- What a search for the head of an order reads and keeps, as the contracts of all of them speak of it. Assumes nothing: these are definitions.
use Rattle.std.specs.Prelude.{ℕ, min, ◌<◌, ◌≡◌, Bool, cond, List, T}
use Rattle.rules.specs.Readers.{reader_in, reader_at}
use Rattle.rules.specs.UseTimes.{sees, use_for}
use Rattle.rules.specs.Ranks.{rank, cached_among, Before}
use Rattle.rules.specs.Valid.{Valid}
use Rattle.rules.specs.Views.{state_of}
use Rattle.rules.specs.declared.State.{State}
use Rattle.rules.specs.declared.View.{View}
use Rattle.uses.specs.declared.Terms.{Terms}
use Rattle.uses.specs.declared.Pick.{Pick}
use Rattle.uses.specs.declared.Seats.{Seats}
use Rattle.uses.specs.Seats.{Seated}

-- ---- what a search reads of a view

-- the view's terms, at this turn, after so many turns
abbrev pub terms_of : View → ℕ → ℕ → Terms
terms_of v turn done = record { look_ahead = v.look_ahead; fetch_time = v.fetch_time; frames = v.frames; turn = turn; done = done }

-- the view under these terms: it is the view itself where they are its own
abbrev pub under : Terms → View → View
under t v = record {
  marks = v.marks;
  expected = v.expected;
  attaches = v.attaches;
  frames = t.frames;
  turn = t.turn;
  rule = v.rule;
  look_ahead = t.look_ahead;
  fetch_time = t.fetch_time;
  sizes = v.sizes;
  readers = v.readers;
}

-- and so a state with these maps
abbrev pub state_under : Terms → View → List ℕ → List ℕ → State
state_under t v cached fetching = state_of (under t v) cached fetching

-- the slot's reader has page k before it, and this position and this pace
pub record Sits (v : View) (slot position pace k : ℕ) : Type 0 where
  pub ahead : Before (reader_in v.readers slot) k
  pub position_is : position ≡ (reader_in v.readers slot).position
  pub pace_is : pace ≡ (reader_in v.readers slot).pace

-- `state_under` is valid, and its sizes and its readers are these
pub record Sighted (t : Terms) (sizes : List ℕ) (seats : Seats) (cached fetching : List ℕ) (v : View) : Type 0 where
  pub valid : Valid (state_under t v cached fetching)
  pub seated : Seated v.readers 16 seats
  pub sizes_are : sizes ≡ v.sizes

-- ---- what it keeps

-- the number low, or slot j's use key for page k where the slot has the page in look-ahead and the key is less
abbrev pub lower : State → ℕ → ℕ → ℕ → ℕ
lower s k j low = cond (sees s (reader_at s j) k) (min (use_for s k j) low) low

-- the page kept, if any, is cached, of the set, and has this rank
pub record Ranked (s : State) (files : ℕ → Bool) (p : Pick) : Type 0 where
  pub held : 0 < p.value → T (cached_among files s p.key)
  pub its : 0 < p.value → rank s p.key ≡ p.value
