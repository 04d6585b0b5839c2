-- A leg of a Run as its loop holds it: the view that it began with, the turn, and the readers' positions in their seats. Assumes nothing: these are
-- definitions.
use Rattle.std.specs.Prelude.{ℕ, ◌+◌, ◌%◌, ◌≤◌, ◌<◌, ◌≡◌, List, Option, T, length, set, slice_index}
use Rattle.bits.specs.Map.{on}
use Rattle.rules.specs.Pages.{key_of}
use Rattle.rules.specs.Readers.{reader_in}
use Rattle.rules.specs.Calls.{reply, with_cached, with_fetching, closed, arrive_of}
use Rattle.rules.specs.declared.State.{State}
use Rattle.rules.specs.declared.Answer.{Answer}
use Rattle.rules.specs.declared.Reader.{Reader}
use Rattle.rules.specs.declared.View.{View}
use Rattle.parts.specs.Positions.{moved_to}
use Rattle.files.specs.Leads.{SharesOf}
use Rattle.files.specs.declared.Shares.{Shares}
use Rattle.uses.specs.declared.Terms.{Terms}
use Rattle.uses.specs.declared.Seats.{Seats}
use Rattle.uses.specs.Sights.{under, state_under, Sighted}
use Rattle.heads.specs.Heads.{Kept}
use Rattle.heads.specs.declared.Heads.{Heads}

-- the view at another turn, with other readers
abbrev pub reseated : View → ℕ → List Reader → View
reseated v turn readers = record {
  marks = v.marks;
  expected = v.expected;
  attaches = v.attaches;
  frames = v.frames;
  turn = turn;
  rule = v.rule;
  look_ahead = v.look_ahead;
  fetch_time = v.fetch_time;
  sizes = v.sizes;
  readers = readers;
}

-- the seats with this position for a slot
abbrev pub moved_seat : Seats → ℕ → ℕ → Seats
moved_seat seats slot p = record seats { positions = set seats.positions slot p }

-- the view after a turn whose reader is then at position p
abbrev pub after_turn : Terms → View → ℕ → View
after_turn t w p = reseated (under t w) ((t.turn + 1) % 16) (set w.readers t.turn (moved_to p (reader_in w.readers t.turn)))

-- r is the view after some turns: it is this slot's turn, and each reader is at the position that its slot has
pub record Following (v : View) (slot : ℕ) (positions : List ℕ) (r : View) : Type 0 where
  pub same : r ≡ reseated v slot r.readers
  pub sixteen : length r.readers ≡ 16
  pub moved : (j : ℕ) → j < 16 → reader_in r.readers j ≡ moved_to (slice_index positions j) (reader_in v.readers j)

-- no page is in fetch
abbrev pub Quiet : List ℕ → Type 0
Quiet fetching = (k : ℕ) → T (on fetching k) → ⊥

-- so it is before a turn of a leg that began with the view v: w is the view now, whose reader of the turn's slot is the leg's at its seat's position, no page
-- is in fetch, and these heads are kept
pub record Turning (v : View) (t : Terms) (shares : Option Shares) (seats : Seats) (heads : Heads) (cached fetching : List ℕ) (w : View) : Type 0 where
  pub sighted : Sighted t v.sizes seats cached fetching w
  pub shares_are : SharesOf (under t w) shares
  pub quiet : Quiet fetching
  pub reader_is : moved_to (slice_index seats.positions t.turn) (reader_in v.readers t.turn) ≡ reader_in w.readers t.turn
  pub kept : Kept (state_under t w cached fetching) t.done heads

-- so it is before an arrival within such a turn: w is the view with the turn's reader waiting, the page is in fetch, and these heads are kept
pub record Coming (v : View) (t : Terms) (shares : Option Shares) (seats : Seats) (heads : Heads) (cached fetching : List ℕ) (file page : ℕ) (w : View) :
    Type 0 where
  pub sighted : Sighted t v.sizes seats cached fetching w
  pub shares_are : SharesOf (under t w) shares
  pub file_high : file < 8
  pub page_low : 1 ≤ page
  pub page_high : page ≤ 1024
  pub opened : T (on fetching (key_of file page))
  pub kept : Kept (state_under t w cached fetching) t.done heads

-- the state s once page k has left fetch, with these maps
abbrev pub after_arrival : State → ℕ → List ℕ → List ℕ → State
after_arrival s k cached fetching = with_fetching (with_cached (closed s k) cached) fetching

-- the page has arrived: readers, maps and answer are the rule's, and these heads are kept
pub record Landed (s : State) (done file page : ℕ) (answer : Answer) (heads : Heads) (cached fetching : List ℕ) : Type 0 where
  pub told : reply (after_arrival s (key_of file page) cached fetching) answer ≡ arrive_of s file page
  pub kept : Kept (after_arrival s (key_of file page) cached fetching) done heads
