-- A turn as the code tells it. Assumes nothing: these are definitions.
use Rattle.std.specs.Prelude.{ℕ, ◌+◌, ◌≤◌, ◌≡◌, List, length}
use Rattle.rules.specs.Views.{state_of}
use Rattle.rules.specs.Run.{Turn, turn_of, Turns}
use Rattle.rules.specs.declared.State.{State}
use Rattle.rules.specs.declared.View.{View}
use Rattle.uses.specs.declared.Terms.{Terms}
use Rattle.uses.specs.declared.Seats.{Seats}
use Rattle.uses.specs.Sights.{state_under}
use Rattle.heads.specs.Heads.{Kept}
use Rattle.heads.specs.declared.Heads.{Heads}
use Rattle.turns.specs.declared.Turned.{Turned}
use Rattle.turns.specs.Places.{moved_seat, after_turn, Quiet}

-- the state after a turn, 1 if it met F, and 1 if it ended in H
pub record Tally : Type 0 where
  pub after : State
  pub fetched : ℕ
  pub read : ℕ

-- as the rules have it
abbrev pub tally : Turn → Tally
tally t = record { after = t.after; fetched = t.fetched; read = length t.hit }

-- as the code has it, where the turn leaves this view and these maps
abbrev pub turned : Turned → View → List ℕ → List ℕ → Tally
turned t w cached fetching = record { after = state_of w cached fetching; fetched = t.fetched; read = t.read }

-- a turn meets F once at most, and ends in one H at most
abbrev pub Single : Turned → Type 0
Single t = (t.fetched ≤ 1) × (t.read ≤ 1)

-- a turn of the view w made on its seats and the maps: the turn's reader is at position p now, in its seat as in the view, the rest is the rule's, and these
-- heads are kept
pub record Made (t : Terms) (w : View) (seats : Seats) (cached fetching : List ℕ) (q : Turned) (seats' : Seats) (heads' : Heads)
    (cached' fetching' : List ℕ) (p : ℕ) : Type 0 where
  pub placed : seats' ≡ moved_seat seats t.turn p
  pub told : turned q (after_turn t w p) cached' fetching' ≡ tally (turn_of (state_under t w cached fetching))
  pub still : Quiet fetching'
  pub kept : Kept (state_of (after_turn t w p) cached' fetching') (t.done + 1) heads'

-- the state after some turns, the fetches and the reads
abbrev pub so_far : State → ℕ → ℕ → Turns
so_far s fetches reads = record { after = s; fetches = fetches; reads = reads }
