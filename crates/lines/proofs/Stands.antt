-- What the lent buffers stand for: after `feed` they stand for the program with more of the chunk fed. Assumes nothing.
use Rattle.std.proofs.Common.{ℕ, ◌+◌, ◌<◌, ◌≤◌, ◌≡◌, eqb, List, [], ◌∷◌, ◌++◌, length, get_or, take, drop}
use Rattle.std.proofs.Common.{refl, sym, ◌∙◌, ap, subst, append_assoc, append-nil, arith, le-leb, ne_eqb, eqb-true}
use Rattle.std.proofs.Common.{length-append, length-drop, drop_of_length-le, take_at}
use Prim.Native.Char.{code as ascii}
use borrow.Author.Tests.{eqb-false}
use Rattle.rules.specs.Lists.{each}
use Rattle.rules.specs.Calls.{idle}
use Rattle.rules.specs.Entries.{carried_out}
use Rattle.rules.specs.Image.{image_of, restore_whole}
use Rattle.rules.specs.Lines.{split, respond_of, lines_of, answers, program_of}
use Rattle.rules.specs.declared.State.{State}
use Rattle.rules.proofs.images.Images.{whole-save}
use Rattle.rules.proofs.calls.Kept.{idle-valid}
use Rattle.text.specs.Cuts.{clipped, text_in, kept}
use Rattle.text.specs.Streams.{OnePiece, Fed, behind, answered, feed, feed_all, unfed, output_of}
use Rattle.text.proofs.Pieces.{by-test, split-some}
use Rattle.text.proofs.Keeps.{by_most, clipped-short, clipped-long, clipped-more, clipped-none, kept-length, text-kept, text-none, text-some}
use Rattle.text.proofs.Feeds.{piece-last, pieces-behind, feed-line, feed-part, feed-none, feed-one, none-one, long-refused, fed-whole}
use Rattle.answers.specs.Responses.{answer_room, Roomy, line_end}
use Rattle.lines.specs.Sessions.{Reached, taken, start_of, no_text, Taken, saved, gone_of, feed_of, finish_of, StandsIn}
use Rattle.lines.proofs.Taking.{ready-all, taken-cons, taken-stop, taken-valid, feed-taken}

-- ---- a text as far as it matters

pub clipped-twice : (t : List ℕ) → clipped (clipped t) ≡ clipped t
clipped-twice t = rw (append-nil (clipped t), append-nil t) at (clipped-more t [])

-- a line is answered by what matters of it
respond-clipped : (s : State) (line : List ℕ) → respond_of s (clipped line) ≡ respond_of s line
respond-clipped s line =
    by_most (length line) 200
    (λ h. rw (clipped-short line h))
    (λ h. rw (clipped-long line h) (long-refused s _ (omega arith) ∙ sym (long-refused s line h)))

respond-more : (s : State) (t piece : List ℕ) → respond_of s (clipped t ++ piece) ≡ respond_of s (t ++ piece)
respond-more s t piece = sym (respond-clipped s (clipped t ++ piece)) ∙ ap (respond_of s) (clipped-more t piece) ∙ respond-clipped s (t ++ piece)

abbrev clip : Fed → Fed
clip f = record { state = f.state; text = clipped f.text; output = f.output }

abbrev clip_all : Reached → Reached
clip_all r = record { fed = clip r.fed; next = r.next }

-- so is a chunk
taken-clipped : (room : ℕ) (pieces : List (List ℕ)) (f : Fed) (at : ℕ) → clip_all (taken room (clip f) at pieces) ≡ clip_all (taken room f at pieces)
unfolding taken
taken-clipped room [] f at = rw (clipped-twice f.text)
taken-clipped room (piece ∷ []) f at = rw (clipped-more f.text piece)
taken-clipped room (piece ∷ (more ∷ pieces)) f at =
    by_most (length f.output + answer_room) room
    (λ h.
    ap clip_all (taken-cons room (clip f) at piece more pieces h)
    ∙ ap (λ r.
    clip_all (taken room (record { state = r.state; text = []; output = f.output ++ (r.line ++ line_end) }) (at + length piece + 1)
    (more ∷ pieces)))
    (respond-more f.state f.text piece)
    ∙ ap clip_all (sym (taken-cons room f at piece more pieces h)))
    (λ h.
    ap clip_all (taken-stop room (clip f) at piece more pieces h)
    ∙ ap (λ t. record { fed = record { state = f.state; text = t; output = f.output }; next = at }) (clipped-twice f.text)
    ∙ ap clip_all (sym (taken-stop room f at piece more pieces h)))

-- ---- what is taken of a chunk is fed

-- with some output before
abbrev onward : List ℕ → Fed → Fed
onward before f = record { state = f.state; text = f.text; output = before ++ f.output }

-- what is left of the chunk is still to be fed
pub record FedOn (before chunk : List ℕ) (f : Fed) (at : ℕ) (r : Reached) : Type 0 where
  pub rest : feed (onward before f) (drop at chunk) ≡ feed (onward before r.fed) (drop r.next chunk)
  pub one : OnePiece (ascii "\n") r.fed.text
  pub far : at ≤ r.next

fed-on : (room : ℕ) (before chunk : List ℕ) (pieces : List (List ℕ)) (f : Fed) (at : ℕ)
    → split (ascii "\n") (drop at chunk) ≡ pieces → OnePiece (ascii "\n") f.text
    → FedOn before chunk f at (taken room f at pieces)
unfolding taken
fed-on room before chunk [] f at e one = record { rest = refl; one = one; far = omega arith }
fed-on room before chunk (piece ∷ []) f at e one =
    let last = piece-last chunk at piece e in
    let past : length chunk ≤ at + length piece = omega (arith, ap length last, length-drop at chunk) in
    let whole : OnePiece (ascii "\n") (drop at chunk) = e ∙ ap (λ p. p ∷ []) last in
    let part : feed (onward before f) (drop at chunk) ≡ onward before (behind f piece) = rw last (feed-part (onward before f) (drop at chunk) one whole) in
    let ended : OnePiece (ascii "\n") (f.text ++ piece) = subst (λ g. OnePiece (ascii "\n") g.text) part (feed-one (onward before f) (drop at chunk)) in
    record { rest = part ∙ rw (drop_of_length-le chunk past) (sym (feed-none (onward before (behind f piece)) ended)); one = ended; far = omega arith }
fed-on room before chunk (piece ∷ (more ∷ pieces)) f at e one =
    by_most (length f.output + answer_room) room
    (λ h.
    let next = at + length piece + 1 in
    let line = f.text ++ piece in
    let on = fed-on room before chunk (more ∷ pieces) (answered f line) next (pieces-behind chunk at piece more pieces e) (none-one (ascii "\n")) in
    let joined : answered (onward before f) line ≡ onward before (answered f line) = rw append_assoc in
    subst (FedOn before chunk f at) (sym (taken-cons room f at piece more pieces h))
    (record {
      rest = feed-line chunk at piece (onward before f) one more pieces e ∙ ap (λ g. feed g (drop next chunk)) joined ∙ on.rest;
      one = on.one;
      far = omega (arith, on.far);
    }))
    (λ h. subst (FedOn before chunk f at) (sym (taken-stop room f at piece more pieces h)) (record { rest = refl; one = one; far = omega arith }))

-- the first line always has room, so something is taken of what is left
taken-some : (room : ℕ) (chunk : List ℕ) (pieces : List (List ℕ)) (f : Fed) (at : ℕ) → split (ascii "\n") (drop at chunk) ≡ pieces
    → OnePiece (ascii "\n") f.text
    → f.output ≡ [] → answer_room ≤ room → at < length chunk → at < (taken room f at pieces).next
unfolding taken
taken-some room chunk [] f at e one none roomy h =
    let some = split-some (ascii "\n") (drop at chunk) in
    let z : ◌≡◌ {A = ℕ} 0 1 = cc in absurd (omega arith)
taken-some room chunk (piece ∷ []) f at e one none roomy h = omega (arith, ap length (piece-last chunk at piece e), length-drop at chunk)
taken-some room chunk (piece ∷ (more ∷ pieces)) f at e one none roomy h =
    let room-left : length f.output + answer_room ≤ room = rw none roomy in
    let on = fed-on room [] chunk (more ∷ pieces) (answered f (f.text ++ piece)) (at + length piece + 1)
    (pieces-behind chunk at piece more pieces e) (none-one (ascii "\n")) in
    rw (taken-cons room f at piece more pieces room-left) (omega (arith, on.far))

-- ---- on lent buffers

-- what a call leaves stands for a program with more of the chunk fed: its output has grown by the answers at the front of their buffer
pub record StandsOn (chunk : List ℕ) (from : ℕ) (f : Fed) (t : Taken) : Type 0 where
  pub to : Fed
  pub stands : StandsIn t.left.image t.left.text to
  pub rest : feed f (drop from chunk) ≡ feed to (drop t.next chunk)
  pub output : to.output ≡ f.output ++ take t.left.len t.left.out
  pub fits : t.left.len ≤ length t.left.out
  pub more : from < length chunk → from < t.next

module _ (image text chunk : List ℕ) (from : ℕ) (out : List ℕ) (f : Fed) (at : StandsIn image text f) (roomy : Roomy out) (inside : from ≤ length chunk) where
  pieces : List (List ℕ)
  pieces = split (ascii "\n") (drop from chunk)

  -- the program before any answer of this call, and how far it gets
  unsaid : Fed
  unsaid = record { state = f.state; text = f.text; output = [] }

  far : Reached
  far = taken (length out) unsaid from pieces

  on : FedOn f.output chunk unsaid from far
  unfolding pieces unsaid far
  on = fed-on (length out) f.output chunk (split (ascii "\n") (drop from chunk)) unsaid from refl at.one

  restored : restore_whole image ≡ restore_whole (image_of f.state)
  restored = ap restore_whole at.image_is

  -- what `feed` leaves, by the text itself
  pub feed-is : feed_of image text chunk from out ≡ saved (gone_of f.state text chunk from out)
  feed-is =
      let same = restored ∙ whole-save f.state at.valid in
      sym (feed-taken image text chunk from out (sym (ready-all text chunk from out roomy at.sized inside)) (ap (λ r. carried_out r.answer) same))
      ∙ ap (λ r. saved (gone_of r.state text chunk from out)) same

  -- as far as the text matters it is the program's
  alike : clip_all (taken (length out) (start_of f.state text) from pieces) ≡ clip_all far
  unfolding far unsaid
  alike =
      ap (λ t. clip_all (taken (length out) (record { state = f.state; text = t; output = [] }) from pieces)) at.text_is
      ∙ taken-clipped (length out) pieces unsaid from

  -- the parts of that
  state-is : (taken (length out) (start_of f.state text) from pieces).fed.state ≡ far.fed.state
  state-is = ap (λ r. r.fed.state) alike

  text_is : clipped (taken (length out) (start_of f.state text) from pieces).fed.text ≡ clipped far.fed.text
  text_is = ap (λ r. r.fed.text) alike

  output-is : (taken (length out) (start_of f.state text) from pieces).fed.output ≡ far.fed.output
  output-is = ap (λ r. r.fed.output) alike

  next_is : (taken (length out) (start_of f.state text) from pieces).next ≡ far.next
  next_is = ap (λ r. r.next) alike

  stands : StandsIn (image_of (taken (length out) (start_of f.state text) from pieces).fed.state)
      (kept text (taken (length out) (start_of f.state text) from pieces).fed.text) (onward f.output far.fed)
  stands =
      let t = (taken (length out) (start_of f.state text) from pieces).fed.text in
      record {
        valid = rw (← state-is) (taken-valid (length out) pieces (start_of f.state text) from at.valid);
        image_is = ap image_of state-is;
        sized = kept-length t text at.sized;
        text_is = text-kept t text at.sized ∙ text_is;
        one = on.one;
      }

  -- the program is fed what was taken, and its output has grown by the answers
  taken-on : StandsOn chunk from f (saved (gone_of f.state text chunk from out))
  unfolding gone_of pieces far unsaid
  taken-on =
      let r = taken (length out) (start_of f.state text) from pieces in
      record {
        to = onward f.output far.fed;
        stands = stands;
        rest =
            ap (λ o. feed (record { state = f.state; text = f.text; output = o }) (drop from chunk)) (sym (append-nil f.output)) ∙ on.rest
            ∙ rw next_is;
        output = ap (λ o. f.output ++ o) (sym output-is ∙ sym (take_at r.fed.output (drop (length r.fed.output) out) (length r.fed.output) refl));
        fits = omega (arith, length-append r.fed.output (drop (length r.fed.output) out));
        more = λ h. rw next_is (taken-some (length out) chunk pieces unsaid from refl at.one refl roomy h);
      }

  pub stands_on : StandsOn chunk from f (feed_of image text chunk from out)
  stands_on = subst (StandsOn chunk from f) (sym feed-is) taken-on

-- ---- from the first byte to the last

-- at the start
pub stands-first : StandsIn (image_of idle) no_text unfed
unfolding text_in clipped
stands-first = record { valid = idle-valid; image_is = refl; sized = refl; text_is = refl; one = none-one (ascii "\n") }

-- the answer to a text at the end of the input
unfoldable pub last_of : Fed → List ℕ
last_of f = answers f.state (lines_of (f.text ∷ []))

-- no text, or one last line, whose answer is put at the front of the buffer
module _ (image text out : List ℕ) (f : Fed) (at : StandsIn image text f) (roomy : Roomy out) where
  end_none : get_or text 0 0 ≡ 0 → last_of f ≡ []
  unfolding last_of lines_of answers
  end_none e = rw (clipped-none f.text (sym at.text_is ∙ text-none text e))

  end-some : (get_or text 0 0 ≡ 0 → ⊥) → last_of f ≡ (respond_of f.state f.text).line ++ line_end
  unfolding last_of lines_of answers clipped
  end-some n = rw (ne_eqb (length f.text) 0 (λ e. n (text-some text at.sized (at.text_is ∙ ap clipped (no_bytes f.text e)))))
    where
      no_bytes : (t : List ℕ) → length t ≡ 0 → t ≡ []
      no_bytes [] e = refl
      no_bytes (x ∷ t) e = absurd (omega arith)

  -- the text as a line
  end-output : (taken (length out) (start_of f.state text) 0 (split (ascii "\n") line_end)).fed.output ≡ (respond_of f.state f.text).line ++ line_end
  unfolding taken split
  end-output =
      let line : text_in text ++ [] ≡ clipped f.text = append-nil (text_in text) ∙ at.text_is in
      rw (le-leb answer_room (length out) roomy, line, respond-clipped f.state f.text)

  pub finish-stands : take (finish_of image text out).len (finish_of image text out).out ≡ last_of f
  unfolding finish_of gone_of
  finish-stands =
      by-test (eqb (get_or text 0 0) 0)
      (λ e. rw (e, end_none (eqb-true _ _ e)))
      (λ e.
      rw (e, end-some (eqb-false _ _ e), feed-is image text line_end 0 out f at roomy (omega arith))
      (take_at (taken (length out) (start_of f.state text) 0 (split (ascii "\n") line_end)).fed.output _ _ refl ∙ end-output))

-- the output, and what is answered at the end, is the program's for all the chunks
pub output-whole : (chunks : List (List ℕ)) → (feed_all unfed chunks).output ++ last_of (feed_all unfed chunks) ≡ program_of (each (λ c. c) chunks)
unfolding last_of output_of
output-whole chunks = fed-whole chunks
