-- A line's answer in a buffer. Assumes nothing: these are definitions.
use Rattle.std.specs.Prelude.{ℕ, ◌≤◌, ◌≡◌, cond, List, [], ◌∷◌, ◌++◌, length, take}
use Prim.Native.Char.{code as ascii}
use Rattle.rules.specs.Pages.{clusters}
use Rattle.rules.specs.Orders.{steal_order, fetch_order}
use Rattle.rules.specs.Calls.{no_file, refused}
use Rattle.rules.specs.Lines.{clusters_line, Response, told, shown}
use Rattle.rules.specs.declared.Refusal.TheVariants.{NoFile}
use Rattle.rules.specs.declared.State.{State}
use Rattle.text.specs.Written.{Put}
use Rattle.answers.specs.declared.Order.{Order}
use Rattle.answers.specs.declared.Order.TheVariants.{Steal, Fetch}

-- no answer is longer: a letter, a comma and a count of four digits, at most 8,192 pairs of file and page of at most seven bytes, and the line end. The pairs
-- of pages of a C line have up to ten bytes, but are at most 512
abbrev pub answer_room : ℕ
answer_room = 57351

-- a buffer has room for any answer
abbrev pub Roomy : List ℕ → Type 0
Roomy buffer = answer_room ≤ length buffer

-- behind every answer line
abbrev pub line_end : List ℕ
line_end = ascii "\n" ∷ []

-- a response given: the state after it, and its line with the line end at the front of a buffer, all else of which stays
pub record Gives (response : Response) (before after : List ℕ) (state : State) (len : ℕ) : Type 0 where
  pub state_is : state ≡ response.state
  pub line : Put before 0 (response.line ++ line_end) after len

-- the letter that asks for an order, and that its answer begins with
abbrev pub letter_of : Order → ℕ
letter_of Steal = ascii "L"
letter_of Fetch = ascii "Q"

-- the steal order or the fetch order
abbrev pub order_of : Order → State → List ℕ
order_of Steal s = steal_order s
order_of Fetch s = fetch_order s

-- the first n of a list are these numbers
pub record Front (numbers list : List ℕ) (n : ℕ) : Type 0 where
  pub room : n ≤ length list
  pub is : take n list ≡ numbers

-- what Clusters answers
abbrev pub clusters_shown : State → ℕ → Response
clusters_shown s file = cond (no_file s file) (told (refused s NoFile)) (shown s (clusters_line (clusters s file)))
