-- A Run under way, and a leg of it: some turns made, after which more can follow. Assumes nothing: these are definitions.
use Rattle.std.specs.Prelude.{ℕ, ◌+◌, ◌≤◌, ◌≡◌, List}
use Rattle.rules.specs.Valid.{Valid}
use Rattle.rules.specs.Views.{state_of}
use Rattle.rules.specs.Run.{turns_of}
use Rattle.rules.specs.declared.State.{State}
use Rattle.uses.specs.Seats.{Seated}
use Rattle.heads.specs.Heads.{Kept}
use Rattle.turns.specs.declared.Run.{Run}
use Rattle.turns.specs.Places.{Quiet}
use Rattle.turns.specs.Tallies.{so_far}

-- more turns can follow: the state is valid, no page is in fetch, the seats are those of the readers, and these heads are kept after so many turns
pub record Ready (r : Run) (cached fetching : List ℕ) : Type 0 where
  pub valid : Valid (state_of r.view cached fetching)
  pub quiet : Quiet fetching
  pub seated : Seated r.view.readers 16 r.seats
  pub kept : Kept (state_of r.view cached fetching) r.turns r.heads

-- no more fetches and reads than turns
abbrev pub Few : Run → Type 0
Few r = (r.fetches ≤ r.turns) × (r.reads ≤ r.turns)

-- some turns, and others after them
abbrev pub and_then : Run → Run → Run
and_then a b = record b { turns = a.turns + b.turns; fetches = a.fetches + b.fetches; reads = a.reads + b.reads }

-- a leg from s on, of so many turns at most, after so many done: the Run of its turns alone has the view after them, the fetches and the reads, and more can
-- follow
pub record IsLeg (s : State) (done most : ℕ) (r : Run) (cached fetching : List ℕ) : Type 0 where
  pub told : so_far (state_of r.view cached fetching) r.fetches r.reads ≡ turns_of r.turns s
  pub ready : Ready (record r { turns = done + r.turns }) cached fetching
  pub within : r.turns ≤ most

-- a Run r goes on to q by a leg of so many turns at most
abbrev pub GoesOn : Run → List ℕ → List ℕ → ℕ → Run → List ℕ → List ℕ → Type 0
GoesOn r cached fetching most q cached' fetching' =
    (leg : Run) × IsLeg (state_of r.view cached fetching) r.turns most leg cached' fetching' × (q ≡ and_then r leg)

-- from s on so many turns are made: the Run has the view after them, the fetches and the reads, and more can follow
pub record Underway (s : State) (r : Run) (cached fetching : List ℕ) : Type 0 where
  pub told : so_far (state_of r.view cached fetching) r.fetches r.reads ≡ turns_of r.turns s
  pub ready : Ready r cached fetching
