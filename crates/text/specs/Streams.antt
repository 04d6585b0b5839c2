-- The program fed chunk by chunk. Assumes nothing: these are definitions.
use Rattle.std.specs.Prelude.{ℕ, ◌≡◌, List, [], ◌∷◌, ◌++◌}
use Prim.Native.Char.{code as ascii}
use Rattle.rules.specs.Lines.{split, respond_of, lines_of, answers}
use Rattle.rules.specs.Calls.{idle}
use Rattle.rules.specs.declared.State.{State}

-- a text without a separator is one piece
abbrev pub OnePiece : ℕ → List ℕ → Type 0
OnePiece separator text = split separator text ≡ text ∷ []

-- of the pieces between line ends, those that a line end follows
unfoldable pub complete : List (List ℕ) → List (List ℕ)
complete [] = []
complete (piece ∷ []) = []
complete (piece ∷ (next ∷ pieces)) = piece ∷ complete (next ∷ pieces)

-- the last piece, which no line end follows
unfoldable pub rest : List (List ℕ) → List ℕ
rest [] = []
rest (piece ∷ []) = piece
rest (piece ∷ (next ∷ pieces)) = rest (next ∷ pieces)

-- the state after some lines
unfoldable pub state_after : State → List (List ℕ) → State
state_after s [] = s
state_after s (line ∷ lines) = state_after (respond_of s line).state lines

-- what the program has after some input: the state, the text since the last line end, the output so far
pub record Fed : Type 0 where
  pub state : State
  pub text : List ℕ
  pub output : List ℕ

-- after some lines, with some text behind them
abbrev pub obeying : Fed → List (List ℕ) → List ℕ → Fed
obeying f lines text = record { state = state_after f.state lines; text = text; output = f.output ++ answers f.state lines }

-- with more bytes behind the text
abbrev pub behind : Fed → List ℕ → Fed
behind f bytes = record { state = f.state; text = f.text ++ bytes; output = f.output }

-- after one line, and its line end
abbrev pub answered : Fed → List ℕ → Fed
answered f line =
    record { state = (respond_of f.state line).state; text = []; output = f.output ++ ((respond_of f.state line).line ++ ascii "\n" ∷ []) }

-- after the next chunk: the lines that are complete with it are answered
unfoldable pub feed : Fed → List ℕ → Fed
feed f chunk = obeying f (complete (split (ascii "\n") (f.text ++ chunk))) (rest (split (ascii "\n") (f.text ++ chunk)))

-- after some chunks
unfoldable pub feed_all : Fed → List (List ℕ) → Fed
feed_all f [] = f
feed_all f (chunk ∷ chunks) = feed_all (feed f chunk) chunks

-- before any input
abbrev pub unfed : Fed
unfed = record { state = idle; text = []; output = [] }

-- the output at the end of the input: a text that is not empty is one last line
unfoldable pub output_of : Fed → List ℕ
output_of f = f.output ++ answers f.state (lines_of (f.text ∷ []))
