-- A stream cut into lines, and the text since the last line end. Assumes nothing: these are definitions.
use Rattle.std.specs.Prelude.{ℕ, ◌+◌, cond, List, ◌∷◌, ◌++◌, get_or, length, take, drop, replicate, leb}
use Prim.Native.Char.{code as ascii}
use Rattle.text.specs.Commands.{first_piece}

-- the bytes before the first line end, or all
abbrev pub line_in : List ℕ → List ℕ
line_in = first_piece (ascii "\n")

-- where the line that starts at a place of a chunk ends: at its line end, or with the chunk
abbrev pub end_of : List ℕ → ℕ → ℕ
end_of chunk from = from + length (line_in (drop from chunk))

-- the bytes of a text's buffer: one that says how many follow, and at most 200 of a line
abbrev pub text_room : ℕ
text_room = 201

-- a text of more than 200 bytes is too long for a line: any one stands for all, since each gets 14
abbrev pub too_long : List ℕ
too_long = replicate 201 0

-- a text as far as it matters
unfoldable pub clipped : List ℕ → List ℕ
clipped text = cond (leb (length text) 200) text too_long

-- the text in a buffer: its first byte says how many follow, and above 200 that they are too many
unfoldable pub text_in : List ℕ → List ℕ
text_in buffer = cond (leb (get_or buffer 0 0) 200) (take (get_or buffer 0 0) (drop 1 buffer)) too_long

-- the buffer with a text in it, all else of which stays
unfoldable pub kept : List ℕ → List ℕ → List ℕ
kept buffer text = cond (leb (length text) 200) (length text ∷ (text ++ drop (1 + length text) buffer)) (201 ∷ drop 1 buffer)
