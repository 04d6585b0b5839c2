-- Run: 01, "Calls". Assumes nothing: these are definitions.
use Rattle.std.specs.Prelude.{ℕ, zero, suc, ◌+◌, ◌%◌, Bool, not, cond, List, [], ◌∷◌, length, ltb, eqb}
use Rattle.rules.specs.Pages.{key_of, fetching_pages}
use Rattle.rules.specs.Readers.{reader_at, attached}
use Rattle.rules.specs.Calls.{reply, refused, with_turn, read_of, arrive_of}
use Rattle.rules.specs.declared.Refusal.TheVariants.{TooManyTurns, FetchOpen}
use Rattle.rules.specs.declared.State.{State}
use Rattle.rules.specs.declared.Reply.{Reply}
use Rattle.rules.specs.declared.Answer.{Answer}
use Rattle.rules.specs.declared.Answer.TheVariants.{Hit, Fetch, Ran}

-- "A fetch is open if a page is in fetch"
unfoldable pub fetch_open : State → Bool
fetch_open s = not (eqb (length (fetching_pages s)) 0)

-- what a turn does with Read's answer: F, or anything else
abbrev pub on_fetch : {A : Type 0} → Answer → (ℕ → ℕ → A) → A → A
on_fetch (Fetch file page) f a = f file page
on_fetch other f a = a

-- the page of an H, if it is one
abbrev pub hit_page : Answer → List ℕ
hit_page (Hit file page) = key_of file page ∷ []
hit_page other = []

-- one turn: the state after it, 1 if it met F, and the page of its H if it ended in H
pub record Turn : Type 0 where
  pub after : State
  pub fetched : ℕ
  pub hit : List ℕ

-- "then the turn grows by 1 modulo 16"
abbrev pub next_turn : State → State
next_turn s = with_turn s ((s.turn + 1) % 16)

-- a turn that ends in this reply
abbrev pub ended : ℕ → Reply → Turn
ended fetched r = record { after = next_turn r.state; fetched = fetched; hit = hit_page r.answer }

-- "Read; on F, Arrive of that page and Read again"
unfoldable pub read_turn : State → Turn
read_turn s =
    on_fetch (read_of s s.turn).answer
    (λ file page. ended 1 (read_of (arrive_of (read_of s s.turn).state file page).state s.turn))
    (ended 0 (read_of s s.turn))

-- "if its slot holds a reader"
unfoldable pub turn_of : State → Turn
turn_of s = cond (attached (reader_at s s.turn)) (read_turn s) (record { after = next_turn s; fetched = 0; hit = [] })

-- some turns: the state after them, "the fetches made (turns that met F) and the reads (turns that ended in H)"
pub record Turns : Type 0 where
  pub after : State
  pub fetches : ℕ
  pub reads : ℕ

-- a turn and those that follow it
abbrev pub counted : Turn → Turns → Turns
counted t rest = record { after = rest.after; fetches = t.fetched + rest.fetches; reads = length t.hit + rest.reads }

-- "For each turn"
unfoldable pub turns_of : ℕ → State → Turns
turns_of zero s = record { after = s; fetches = 0; reads = 0 }
turns_of (suc n) s = counted (turn_of s) (turns_of n (turn_of s).after)

-- 11: turns above 16,384; 10: a page is in fetch
unfoldable pub run_of : State → ℕ → Reply
run_of s turns =
    cond (ltb 16384 turns) (refused s TooManyTurns)
    (cond (fetch_open s) (refused s FetchOpen)
    (reply (turns_of turns s).after (Ran (turns_of turns s).fetches (turns_of turns s).reads)))
