-- Cutting depends on the bytes alone: however an input comes in chunks, its lines and their answers are the same. Assumes nothing.
use Prim.Native.Nat.{ℕ, suc, ◌+◌, ◌<◌, ◌≤◌}
use Prim.Native.Char.{code as ascii}
use mathlib.Core.Path.{◌≡◌, refl, sym, ◌∙◌, ap}
use mathlib.Core.Bool.{true, false}
use mathlib.Core.List.{List, [], ◌∷◌, ◌++◌, append_assoc, append-nil}
use native.Mathlib.Omega.{arith}
use borrow.Author.Tests.{lt-leb}
use lib.ListN.{length, drop}
use lib.Seq.{drop-drop}
use lib.Dec.{eqb}
use Rattle.rules.specs.Lists.{each}
use Rattle.rules.specs.Calls.{refused}
use Rattle.rules.specs.Lines.{split, well_formed, told, respond_of, lines_of, answers, program_of}
use Rattle.rules.specs.declared.Refusal.TheVariants.{NoRequest}
use Rattle.rules.specs.declared.State.{State}
use Rattle.text.specs.Commands.{first_piece}
use Rattle.text.specs.Streams.{OnePiece, complete, rest, state_after, Fed, obeying, behind, answered, feed, feed_all, unfed, output_of}
use Rattle.text.proofs.Pieces.{by-test, onto, onto-onto, onto-none, split-some, split_at, split-on, first_on}

-- ---- the pieces of two inputs, one after the other

complete-more : (x : List ℕ) (sep : ℕ) (l : List ℕ) → complete (x ∷ split sep l) ≡ x ∷ complete (split sep l)
unfolding complete
complete-more x sep l = rw (split-some sep l)

rest_more : (x : List ℕ) (sep : ℕ) (l : List ℕ) → rest (x ∷ split sep l) ≡ rest (split sep l)
unfolding rest
rest_more x sep l = rw (split-some sep l)

onto-join : (b : ℕ) (piece : List ℕ) (pieces others : List (List ℕ))
    → onto (b ∷ []) (complete (piece ∷ pieces) ++ onto (rest (piece ∷ pieces)) others)
    ≡ complete ((b ∷ piece) ∷ pieces) ++ onto (rest ((b ∷ piece) ∷ pieces)) others
unfolding complete rest
onto-join b piece [] others = onto-onto (b ∷ []) piece others
onto-join b piece (next ∷ pieces) others = refl

-- the rest of the first input goes to the front of the second
pub split-join : (sep : ℕ) (a b : List ℕ) → split sep (a ++ b) ≡ complete (split sep a) ++ onto (rest (split sep a)) (split sep b)
unfolding split complete rest
split-join sep [] b = sym (onto-none sep b)
split-join sep (x ∷ xs) b =
    by-test (eqb x sep)
    (λ e. split_at sep x (xs ++ b) e ∙ ap (λ ps. [] ∷ ps) (split-join sep xs b) ∙ rw (split_at sep x xs e, complete-more, rest_more))
    (λ e.
    split-on sep x (xs ++ b) e
    ∙ ap (onto (x ∷ [])) (split-join sep xs b)
    ∙ rw (split-on sep x xs e, split-some sep xs) (onto-join x (first_piece sep xs) (drop 1 (split sep xs)) (split sep b)))

-- a text of one piece goes to the front of what follows
pub one-join : (sep : ℕ) (text b : List ℕ) → OnePiece sep text → split sep (text ++ b) ≡ onto text (split sep b)
unfolding complete rest
one-join sep text b e = split-join sep text b ∙ rw e

one_on : (sep b : ℕ) (piece : List ℕ) (pieces : List (List ℕ)) → eqb b sep ≡ false → OnePiece sep (rest (piece ∷ pieces))
    → OnePiece sep (rest ((b ∷ piece) ∷ pieces))
unfolding rest
one_on sep b piece [] e h = split-on sep b piece e ∙ rw h
one_on sep b piece (next ∷ pieces) e h = h

-- the rest is such a text
pub rest-one : (sep : ℕ) (l : List ℕ) → OnePiece sep (rest (split sep l))
unfolding split rest
rest-one sep [] = refl
rest-one sep (b ∷ bs) =
    by-test (eqb b sep)
    (λ e. rw (split_at sep b bs e, rest_more) (rest-one sep bs))
    (λ e.
    rw (split-on sep b bs e, split-some sep bs)
    (one_on sep b (first_piece sep bs) (drop 1 (split sep bs)) e (rw (split-some sep bs) at (rest-one sep bs))))

-- pieces that others follow are lines as they are
lines-append : (xs : List (List ℕ)) (p : List ℕ) (ps : List (List ℕ)) → lines_of (xs ++ p ∷ ps) ≡ xs ++ lines_of (p ∷ ps)
unfolding lines_of
lines-append [] p ps = refl
lines-append (x ∷ []) p ps = refl
lines-append (x ∷ (y ∷ ys)) p ps = ap (λ zs. x ∷ zs) (lines-append (y ∷ ys) p ps)

module _ (sep : ℕ) (a b : List ℕ) where
  -- the pieces of a whole are the complete ones of its first part, then those of the rest with the second part behind it
  pub split-two : split sep (a ++ b) ≡ complete (split sep a) ++ split sep (rest (split sep a) ++ b)
  split-two = split-join sep a b ∙ rw (one-join sep (rest (split sep a)) b (rest-one sep a))

  two : split sep (a ++ b) ≡ complete (split sep a) ++ first_piece sep (rest (split sep a) ++ b) ∷ drop 1 (split sep (rest (split sep a) ++ b))
  two = split-two ∙ ap (λ ps. complete (split sep a) ++ ps) (split-some sep (rest (split sep a) ++ b))

  -- the lines of a whole are the complete lines of its first part, then those of the rest with the second part behind it
  pub lines_two : lines_of (split sep (a ++ b)) ≡ complete (split sep a) ++ lines_of (split sep (rest (split sep a) ++ b))
  lines_two = rw (two, lines-append, ← split-some)

-- ---- lines one after the other

-- the answers to more lines
pub answers-append : (s : State) (xs ys : List (List ℕ)) → answers s (xs ++ ys) ≡ answers s xs ++ answers (state_after s xs) ys
unfolding answers state_after
answers-append s [] ys = refl
answers-append s (x ∷ xs) ys = rw (answers-append (respond_of s x).state xs ys, append_assoc)

-- the state after more lines
pub state-append : (s : State) (xs ys : List (List ℕ)) → state_after s (xs ++ ys) ≡ state_after (state_after s xs) ys
unfolding state_after
state-append s [] ys = refl
state-append s (x ∷ xs) ys = state-append (respond_of s x).state xs ys

obeying-two : (f : Fed) (xs ys : List (List ℕ)) (t u : List ℕ) → obeying (obeying f xs t) ys u ≡ obeying f (xs ++ ys) u
obeying-two f xs ys t u = rw (state-append, answers-append, append_assoc)

-- ---- chunks one after the other

-- what the output will be if so many more bytes are all that comes
whole_output : Fed → List ℕ → List ℕ
whole_output f more = f.output ++ answers f.state (lines_of (split (ascii "\n") (f.text ++ more)))

whole-feed : (f : Fed) (a b : List ℕ) → whole_output (feed f a) b ≡ whole_output f (a ++ b)
unfolding feed whole_output
whole-feed f a b =
    append_assoc f.output _ _
    ∙ ap (λ out. f.output ++ out)
    (sym (answers-append f.state (complete (split (ascii "\n") (f.text ++ a))) _)
    ∙ ap (answers f.state) (sym (lines_two (ascii "\n") (f.text ++ a) b) ∙ rw append_assoc))

whole-feeds : (f : Fed) (chunks : List (List ℕ)) → whole_output (feed_all f chunks) [] ≡ whole_output f (each (λ c. c) chunks)
unfolding feed_all each
whole-feeds f [] = refl
whole-feeds f (chunk ∷ chunks) = whole-feeds (feed f chunk) chunks ∙ whole-feed f chunk (each (λ c. c) chunks)

-- the text that is kept holds no line end
pub feed-one : (f : Fed) (chunk : List ℕ) → OnePiece (ascii "\n") (feed f chunk).text
unfolding feed
feed-one f chunk = rest-one (ascii "\n") (f.text ++ chunk)

feeds-one : (f : Fed) (chunks : List (List ℕ)) → OnePiece (ascii "\n") f.text → OnePiece (ascii "\n") (feed_all f chunks).text
unfolding feed_all
feeds-one f [] e = e
feeds-one f (chunk ∷ chunks) e = feeds-one (feed f chunk) chunks (feed-one f chunk)

whole-none : (f : Fed) → OnePiece (ascii "\n") f.text → whole_output f [] ≡ output_of f
unfolding whole_output output_of
whole-none f e = rw (append-nil, e)

whole-all : (input : List ℕ) → whole_output unfed input ≡ program_of input
unfolding whole_output program_of
whole-all input = refl

-- no text is one piece
pub none-one : (sep : ℕ) → OnePiece sep []
unfolding split
none-one sep = refl

-- however the input comes in chunks, the output is the program's for the whole
pub fed-whole : (chunks : List (List ℕ)) → output_of (feed_all unfed chunks) ≡ program_of (each (λ c. c) chunks)
fed-whole chunks =
    sym (whole-none (feed_all unfed chunks) (feeds-one unfed chunks (none-one (ascii "\n"))))
    ∙ whole-feeds unfed chunks
    ∙ whole-all (each (λ c. c) chunks)

-- ---- a chunk line by line

-- no byte changes nothing
pub feed-none : (f : Fed) → OnePiece (ascii "\n") f.text → feed f [] ≡ f
unfolding feed complete rest state_after answers
feed-none f e = rw (append-nil f.text, e, append-nil)

ended-on : (sep b : ℕ) (bs : List ℕ) → eqb b sep ≡ false → (others : List (List ℕ)) → split sep bs ≡ first_piece sep bs ∷ others
    → split sep (b ∷ bs) ≡ first_piece sep (b ∷ bs) ∷ others
ended-on sep b bs e others h = split-on sep b bs e ∙ rw (h, first_on sep b bs e)

on-count : (sep b : ℕ) (bs : List ℕ) → eqb b sep ≡ false → length (split sep (b ∷ bs)) ≡ length (split sep bs)
on-count sep b bs e = rw (split-on sep b bs e, split-some sep bs)

at_count : (sep b : ℕ) (bs : List ℕ) → eqb b sep ≡ true → 2 ≤ length (split sep (b ∷ bs))
at_count sep b bs e = rw (split_at sep b bs e, split-some sep bs) (omega arith)

-- a separator follows the first piece: the other pieces stand behind it
pub record Ended (sep : ℕ) (l : List ℕ) : Type 0 where
  pub inside : length (first_piece sep l) < length l
  pub pieces : split sep l ≡ first_piece sep l ∷ split sep (drop (suc (length (first_piece sep l))) l)

-- where there are more pieces
pub split-ended : (sep : ℕ) (l : List ℕ) → 1 < length (split sep l) → Ended sep l
unfolding split
split-ended sep [] h = absurd (omega arith)
split-ended sep (b ∷ bs) h =
    by-test (eqb b sep)
    (λ e. let p = split_at sep b bs e in record { inside = rw p (omega arith); pieces = p ∙ rw p })
    (λ e.
    let more = split-ended sep bs (rw (on-count sep b bs e) at h) in
    let first = first_on sep b bs e in
    record { inside = rw first (omega (arith, more.inside)); pieces = ended-on sep b bs e _ more.pieces ∙ rw first })

-- with no separator there is one piece, all of it
pub split-whole : (sep : ℕ) (l : List ℕ) → length (split sep l) ≤ 1 → OnePiece sep l
unfolding split
split-whole sep [] h = refl
split-whole sep (b ∷ bs) h =
    by-test (eqb b sep)
    (λ e. let z : ⊥ = omega (arith, at_count sep b bs e, h) in absurd z)
    (λ e. split-on sep b bs e ∙ rw (split-whole sep bs (rw (on-count sep b bs e) at h)))

-- the pieces of a chunk from a place on: one is left, or the first ends at a line end and the others stand behind it
module _ (chunk : List ℕ) (at : ℕ) (piece : List ℕ) where
  pub piece-last : split (ascii "\n") (drop at chunk) ≡ piece ∷ [] → piece ≡ drop at chunk
  piece-last e =
      let one : length (split (ascii "\n") (drop at chunk)) ≤ 1 = rw e (omega arith) in
      let whole = split-whole (ascii "\n") (drop at chunk) one in cc

  module _ (more : List ℕ) (pieces : List (List ℕ)) (e : split (ascii "\n") (drop at chunk) ≡ piece ∷ (more ∷ pieces)) where
    ended : Ended (ascii "\n") (drop at chunk)
    ended = split-ended (ascii "\n") (drop at chunk) (rw e (omega arith))

    pub pieces-behind : split (ascii "\n") (drop (at + length piece + 1) chunk) ≡ more ∷ pieces
    pieces-behind =
        let sums : at + suc (length piece) ≡ at + length piece + 1 = omega arith in
        let two : piece ∷ (more ∷ pieces) ≡ piece ∷ split (ascii "\n") (drop (suc (length piece)) (drop at chunk)) = rw e at ended.pieces in
        rw (← sums, ← drop-drop) (sym (ap (drop 1) two))

  -- the line is answered, and the bytes after it are left
  pub feed-line : (f : Fed) → OnePiece (ascii "\n") f.text → (more : List ℕ) (pieces : List (List ℕ))
      → split (ascii "\n") (drop at chunk) ≡ piece ∷ (more ∷ pieces)
      → feed f (drop at chunk) ≡ feed (answered f (f.text ++ piece)) (drop (at + length piece + 1) chunk)
  unfolding feed state_after answers complete rest
  feed-line f one more pieces e =
      rw (one-join (ascii "\n") f.text (drop at chunk) one, e, pieces-behind more pieces e)
      (sym (obeying-two f ((f.text ++ piece) ∷ []) (complete (more ∷ pieces)) [] (rest (more ∷ pieces))))

-- a chunk without a line end: its bytes go behind the text
pub feed-part : (f : Fed) (chunk : List ℕ) → OnePiece (ascii "\n") f.text → OnePiece (ascii "\n") chunk → feed f chunk ≡ behind f chunk
unfolding feed complete rest state_after answers
feed-part f chunk e one = rw (one-join (ascii "\n") f.text chunk e, one, append-nil)

-- ---- long lines

-- a line of more than 200 bytes is refused, whatever its bytes
pub long-refused : (s : State) (line : List ℕ) → 200 < length line → respond_of s line ≡ told (refused s NoRequest)
unfolding respond_of well_formed
long-refused s line h = rw (lt-leb _ _ h)
