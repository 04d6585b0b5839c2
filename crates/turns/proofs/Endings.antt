-- A turn that ends in a Read, at once or after an arrival. Assumes nothing.
use Rattle.std.proofs.Common.{ℕ, ◌+◌, ◌≡◌, ◌∙◌, List, Option, not, T, length, refl, ap}
use Rattle.bits.specs.Map.{put_bit}
use Rattle.rules.specs.Pages.{cached}
use Rattle.rules.specs.Calls.{read_of}
use Rattle.rules.specs.Run.{hit_page}
use Rattle.rules.specs.declared.State.{State}
use Rattle.rules.specs.declared.View.{View}
use Rattle.rules.specs.declared.Answer.{Answer}
use Rattle.rules.proofs.third.Moves.{now_at, goes_now, key_now}
use Rattle.files.specs.declared.Shares.{Shares}
use Rattle.uses.specs.declared.Terms.{Terms}
use Rattle.uses.specs.declared.Seats.{Seats}
use Rattle.uses.specs.Sights.{state_under}
use Rattle.heads.specs.Heads.{Kept, Forgot, NotRead}
use Rattle.heads.specs.declared.Heads.{Heads}
use Rattle.calls.specs.Inner.{stepped}
use Rattle.calls.specs.declared.Step.{Step}
use Rattle.turns.specs.Places.{moved_seat, Turning, Landed}
use Rattle.turns.specs.Tallies.{Tally, Made}
use Rattle.turns.proofs.Answers.{NoFetch}
use Rattle.turns.proofs.Rounds.{read-moves, turn-ends, arrived-read, arrived-turn, turn-valid}
use Rattle.turns.proofs.Turnings.{valid, waits, maps-again, turn-again}
use Rattle.turns.proofs.Keepings.{kept-moved}

module _ (v : View) (t : Terms) (shares : Option Shares) (seats : Seats) (heads : Heads) (map fetching : List ℕ) (w : View)
    (g : Turning v t shares seats heads map fetching w) where
  abbrev s : State
  s = state_under t w map fetching

  -- the Read meets no F
  pub ends : (q : Step) (still : List ℕ) (left : Heads) → stepped s t.turn q still ≡ read_of s t.turn → NoFetch q.answer
      → Forgot heads (λ f. NotRead f (now_at s)) left
      → Made t w seats map fetching (record { fetched = 0; read = length (hit_page q.answer) }) (moved_seat seats t.turn q.reader.position) left map still
      q.reader.position
  ends q still left e k o =
      let here = valid v t shares seats heads map fetching w g in
      let told = turn-ends s here g.quiet (now_at s) refl q still e k in
      let same = (read-moves s here g.quiet q still e k).1 in
      record {
        placed = refl;
        told = told;
        still = rw same g.quiet;
        kept = kept-moved v t shares seats heads map fetching w g q.reader.position still same left (turn-valid s here _ told) o;
      }

-- it met F, and the page has arrived: the rest is a turn that meets none
module _ (v : View) (t : Terms) (shares : Option Shares) (seats : Seats) (heads : Heads) (map fetching : List ℕ) (w : View)
    (g : Turning v t shares seats heads map fetching w) (on-goes : T (goes_now (state_under t w map fetching)))
    (out : T (not (cached (state_under t w map fetching) (key_now (state_under t w map fetching))))) (opened : List ℕ)
    (eo : opened ≡ put_bit fetching (key_now (state_under t w map fetching)) 1) (known : Heads) (file page : ℕ)
    (ef : file ≡ (now_at (state_under t w map fetching)).file) (ep : page ≡ (now_at (state_under t w map fetching)).position + 1)
    (kept : Kept (state_under t (waits v t shares seats heads map fetching w g) map opened) t.done known) (a : Answer) (after : Heads) (map' still : List ℕ)
    (landed : Landed (state_under t (waits v t shares seats heads map fetching w g) map opened) t.done file page a after map' still) where
  again : Turning v t shares seats after map' still w
  again = turn-again v t shares seats heads map fetching w g on-goes out opened eo known file page ef ep kept a after map' still landed

  pub ends-again : (q : Step) (still' : List ℕ) (left : Heads)
      → stepped (state_under t w map' still) t.turn q still' ≡ read_of (state_under t w map' still) t.turn
      → Forgot after (λ f. NotRead f (now_at (state_under t w map fetching))) left
      → Made t w seats map fetching (record { fetched = 1; read = length (hit_page q.answer) }) (moved_seat seats t.turn q.reader.position) left map' still'
      q.reader.position
  ends-again q still' left e o =
      let here = valid v t shares seats heads map fetching w g in
      let m = maps-again v t shares seats heads map fetching w g on-goes out opened eo known file page ef ep kept a after map' still landed in
      let no = arrived-read (state_under t w map fetching) here g.quiet on-goes out map' still m.0 m.1 q.answer (ap (λ r. r.answer) e) in
      let made = ends v t shares seats after map' still w again q still' left e no o in
      record {
        placed = refl;
        told = ap (λ (x : Tally). record { after = x.after; fetched = 1; read = x.read }) made.told
            ∙ arrived-turn (state_under t w map fetching) here g.quiet on-goes out map' still m.0 m.1 again.sighted.valid;
        still = made.still;
        kept = made.kept;
      }
