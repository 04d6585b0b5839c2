-- The program between two chunks of its input, and what it hands to the writer. Assumes nothing: these are definitions.
use Rattle.std.specs.Prelude.{List, ℕ, take}
use Rattle.text.specs.Streams.{Fed}
use Rattle.lines.specs.Sessions.{Left, Taken, StandsIn}

-- an image and a text that stand for the program after some input
abbrev pub Stands : List ℕ → List ℕ → Type 0
Stands image text = (f : Fed) × StandsIn image text f

-- the answers stand at the front of their buffer
abbrev pub answers_in : Left → List ℕ
answers_in l = take l.len l.out

-- the lent buffers after some of a chunk was fed, the answers that are handed to the writer, and the place
pub record Handed : Type 0 where
  pub image : List ℕ
  pub text : List ℕ
  pub answers : List ℕ
  pub next : ℕ

abbrev pub handed_in : List ℕ → List ℕ → List ℕ → ℕ → Handed
handed_in image text answers next = record { image = image; text = text; answers = answers; next = next }

-- what feeding leaves
abbrev pub handed_of : Taken → Handed
handed_of t = handed_in t.left.image t.left.text (answers_in t.left) t.next
