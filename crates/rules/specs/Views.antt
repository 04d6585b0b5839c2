-- A state as the code holds it: a view, which is all but the two maps, and the maps. Assumes nothing: these are definitions.
use Rattle.std.specs.Prelude.{ℕ, List, replicate}
use Rattle.rules.specs.declared.State.{State}
use Rattle.rules.specs.declared.View.{View}

-- the state of a view with these maps
abbrev pub state_of : View → List ℕ → List ℕ → State
state_of v cached fetching = record {
  frames = v.frames;
  turn = v.turn;
  look_ahead = v.look_ahead;
  fetch_time = v.fetch_time;
  sizes = v.sizes;
  readers = v.readers;
  marks = v.marks;
  rule = v.rule;
  expected = v.expected;
  attaches = v.attaches;
  cached = cached;
  fetching = fetching;
}

-- a state without its maps
abbrev pub view_of : State → View
view_of s = record {
  marks = s.marks;
  expected = s.expected;
  attaches = s.attaches;
  frames = s.frames;
  turn = s.turn;
  rule = s.rule;
  look_ahead = s.look_ahead;
  fetch_time = s.fetch_time;
  sizes = s.sizes;
  readers = s.readers;
}

-- a map without pages
abbrev pub no_pages : List ℕ
no_pages = replicate 128 0
