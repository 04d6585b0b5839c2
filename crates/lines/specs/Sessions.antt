-- The program's input in chunks, on lent buffers: the image of the box, the text since the last line end, and room for answers. Assumes nothing: these are
-- definitions.
use Rattle.std.specs.Prelude.{ℕ, ◌+◌, ◌≡◌, Bool, cond, ◌&&◌, List, [], ◌∷◌, ◌++◌, get_or, length, drop, replicate, leb, eqb}
use Prim.Native.Char.{code as ascii}
use Rattle.rules.specs.Valid.{Valid}
use Rattle.rules.specs.Entries.{carried_out}
use Rattle.rules.specs.Image.{image_of, restore_whole}
use Rattle.rules.specs.Lines.{split}
use Rattle.rules.specs.declared.State.{State}
use Rattle.text.specs.Cuts.{text_room, clipped, text_in, kept}
use Rattle.text.specs.Streams.{OnePiece, Fed, behind, answered}
use Rattle.answers.specs.Responses.{answer_room, line_end}
use Rattle.lines.specs.declared.Progress.{Progress}

-- ---- a chunk line by line

-- how far a chunk is taken: the program after that, and the place
pub record Reached : Type 0 where
  pub fed : Fed
  pub next : ℕ

-- the pieces of a chunk from a place on, parted by line ends: the line that a piece completes is answered, as long as a buffer of so many bytes has room for
-- any answer behind those before it; the last piece, which no line end follows, goes behind the text
unfoldable pub taken : ℕ → Fed → ℕ → List (List ℕ) → Reached
taken room f at [] = record { fed = f; next = at }
taken room f at (piece ∷ []) = record { fed = behind f piece; next = at + length piece }
taken room f at (piece ∷ (more ∷ pieces)) =
    cond (leb (length f.output + answer_room) room) (taken room (answered f (f.text ++ piece)) (at + length piece + 1) (more ∷ pieces))
    (record { fed = f; next = at })

-- a state and a text in its buffer, before any answer
abbrev pub start_of : State → List ℕ → Fed
start_of s text = record { state = s; text = text_in text; output = [] }

-- what lines of a chunk leave of the state, the text and the buffer of answers, the place after them, and how many bytes of answers there are
pub record Gone : Type 0 where
  pub state : State
  pub text : List ℕ
  pub out : List ℕ
  pub next : ℕ
  pub len : ℕ

-- the answers at the front of their buffer, all else of which stays
abbrev pub gone : List ℕ → List ℕ → Reached → Gone
gone text out r =
    record {
      state = r.fed.state;
      text = kept text r.fed.text;
      out = r.fed.output ++ drop (length r.fed.output) out;
      next = r.next;
      len = length r.fed.output;
    }

unfoldable pub gone_of : State → List ℕ → List ℕ → ℕ → List ℕ → Gone
gone_of s text chunk from out = gone text out (taken (length out) (start_of s text) from (split (ascii "\n") (drop from chunk)))

-- as the code has it
abbrev pub gone_in : State → Progress → List ℕ → List ℕ → Gone
gone_in s r text out = record { state = s; text = text; out = out; next = r.next; len = r.len }

-- ---- the lent buffers

-- no text, in its buffer
abbrev pub no_text : List ℕ
no_text = replicate text_room 0

-- what a call leaves in the lent buffers, and how many bytes of answers there are
pub record Left : Type 0 where
  pub image : List ℕ
  pub text : List ℕ
  pub out : List ℕ
  pub len : ℕ

-- and how far the chunk is taken
pub record Taken : Type 0 where
  pub left : Left
  pub next : ℕ

-- as the code has them
abbrev pub left_in : ℕ → List ℕ → List ℕ → List ℕ → Left
left_in len image text out = record { image = image; text = text; out = out; len = len }

abbrev pub fed_in : Progress → List ℕ → List ℕ → List ℕ → Taken
fed_in r image text out = record { left = left_in r.len image text out; next = r.next }

-- room for any answer, a buffer for a text, and a place of the chunk
unfoldable pub ready : List ℕ → List ℕ → ℕ → List ℕ → Bool
ready text chunk from out = leb answer_room (length out) && (eqb (length text) text_room && leb from (length chunk))

-- lines taken, and the image of the state after them
abbrev pub saved : Gone → Taken
saved g = fed_in (record { next = g.next; len = g.len }) (image_of g.state) g.text g.out

-- lines of a chunk taken from a place on. Where Restore refuses the image, or the buffers or the place cannot be, all is left.
unfoldable pub feed_of : List ℕ → List ℕ → List ℕ → ℕ → List ℕ → Taken
feed_of image text chunk from out =
    cond (ready text chunk from out && carried_out (restore_whole image).answer) (saved (gone_of (restore_whole image).state text chunk from out))
    (fed_in (record { next = from; len = 0 }) image text out)

-- at the end of the input a text that is not empty is one last line, fed as if its line end followed
unfoldable pub finish_of : List ℕ → List ℕ → List ℕ → Left
finish_of image text out = cond (eqb (get_or text 0 0) 0) (left_in 0 image text out) (feed_of image text line_end 0 out).left

-- ---- what the buffers stand for

-- an image and a text stand for the program after some input
pub record StandsIn (image text : List ℕ) (f : Fed) : Type 0 where
  pub valid : Valid f.state
  pub image_is : image ≡ image_of f.state
  pub sized : length text ≡ text_room
  pub text_is : text_in text ≡ clipped f.text
  pub one : OnePiece (ascii "\n") f.text
